-- Lists that are made one by one of other lists: entries of an outline, copies, a plan's targets.
use Rattle.std.proofs.Common.{◌≡◌, ◌+◌, ◌<◌, ◌≤◌, ◌∙◌, ℕ, ap, ap₂, sym, List, [], ◌∷◌, ◌++◌, map, filter_map, length, take, get_or, Option, Some, None, refl}
use Rattle.std.specs.List.{cons_option}
use Rattle.std.proofs.lemmas.List.{map-append, take_more, take_all, append-nil}
use Rattle.std.proofs.lemmas.List.Elements.{filter_map-append}

-- what was made of all that there is
pub all_made : {X Y Z : Type 0} (f : X → Z) (g : Y → Z) (xs : List X) (ys : List Y) (i : ℕ)
    → length ys ≤ i → map f xs ≡ map g (take i ys) → map f xs ≡ map g ys
all_made f g xs ys i all made = made ∙ ap (map g) (take_all i ys all)

module _ {X Y Z : Type 0} (f : X → Z) (xs new : List X) (ys : List Y) (i : ℕ) (y : Y) (below : i < length ys) (is : y ≡ get_or ys i y) where
  next : take (i + 1) ys ≡ take i ys ++ y ∷ []
  next = take_more ys i y below ∙ ap (λ z. take i ys ++ z ∷ []) (sym is)

  -- one more is made
  pub one_made : (g : Y → Z) (x : X) → new ≡ xs ++ x ∷ [] → f x ≡ g y → map f xs ≡ map g (take i ys) → map f new ≡ map g (take (i + 1) ys)
  one_made g x pushed same before =
      ap (map f) pushed ∙ map-append f xs (x ∷ []) ∙ ap₂ (λ zs z. zs ++ z ∷ []) before same
      ∙ sym (map-append g (take i ys) (y ∷ [])) ∙ ap (map g) (sym next)

  -- one more is picked, or none
  pub one_picked : (h : Y → Option Z) (x : X) → new ≡ xs ++ x ∷ [] → Some (f x) ≡ h y → map f xs ≡ filter_map h (take i ys) → map f new ≡ filter_map h (take (i + 1) ys)
  one_picked h x pushed has before =
      let one : f x ∷ [] ≡ filter_map h (y ∷ []) = rw (← has) refl in
      ap (map f) pushed ∙ map-append f xs (x ∷ []) ∙ ap₂ (λ zs rest. zs ++ rest) before one
      ∙ sym (filter_map-append h (take i ys) (y ∷ [])) ∙ ap (filter_map h) (sym next)

  pub none_picked : (h : Y → Option Z) → new ≡ xs → None ≡ h y → map f xs ≡ filter_map h (take i ys) → map f new ≡ filter_map h (take (i + 1) ys)
  none_picked h same lacks before =
      let none : [] ≡ filter_map h (y ∷ []) = rw (← lacks) refl in
      ap (map f) same ∙ before ∙ sym (append-nil (filter_map h (take i ys))) ∙ ap (λ rest. filter_map h (take i ys) ++ rest) none
      ∙ sym (filter_map-append h (take i ys) (y ∷ [])) ∙ ap (filter_map h) (sym next)

-- what is picked of what was made of others
pub picked_of : {X Y Z : Type 0} (h : Y → Option Z) (g : X → Y) (xs : List X) → filter_map (λ x. h (g x)) xs ≡ filter_map h (map g xs)
picked_of h g [] = refl
picked_of h g (x ∷ xs) = ap (cons_option (h (g x))) (picked_of h g xs)
