-- Finding the one that passes.
use Rattle.std.specs.Prelude.{◌≡◌, Bool, true, false, ◌||◌, List, [], ◌∷◌, cond, find, Option, Some, None, is_some, Contains, refl}
use Rattle.std.specs.List.{list_any}
use mathlib.Core.Path.{sym, ap, subst, ◌∙◌}
use mathlib.Core.Logic.{inl, inr}
use Rattle.x12_acks.specs.Named.{AtMostOne}
use Rattle.std.proofs.Common.{true≢false}
use Rattle.x12_numbers.proofs.Shelf.{contains_cons, found_passes, none_in_nil}

pub clash : {A : Type 0} (b : Bool) → b ≡ true → b ≡ false → A
clash b t f = absurd (true≢false (sym t ∙ f))

module _ {X : Type 0} where
  -- where none is found, none passes
  pub none_passes : (p : X → Bool) (xs : List X) (x : X) → find p xs ≡ None → Contains xs x → p x ≡ false
  none_passes p [] x e h = none_in_nil x h
  none_passes p (y ∷ xs) x e h = by (p y) refl e (none_passes p xs x)
    where
      by : (b : Bool) → p y ≡ b → cond b (Some y) (find p xs) ≡ None → (find p xs ≡ None → Contains xs x → p x ≡ false) → p x ≡ false
      by true is e more = absurd cc
      by false is e more = elim (contains_cons x y xs h) [ inl same ↦ subst (λ z. p z ≡ false) same is | inr later ↦ more e later ]

  -- the one that passes is found
  pub one_found : (p : X → Bool) (xs : List X) (x : X) → AtMostOne p xs → Contains xs x → p x ≡ true → find p xs ≡ Some x
  one_found p xs x one h is = by (find p xs) refl
    where
      by : (o : Option X) → find p xs ≡ o → find p xs ≡ Some x
      by (Some y) e = let is_y = found_passes p xs y e in e ∙ ap (λ z. Some z) (one y x is_y.0 h is_y.1 is)
      by None e = clash (p x) is (none_passes p xs x e h)

  pub none_found : (p : X → Bool) (xs : List X) → ((x : X) → Contains xs x → p x ≡ false) → find p xs ≡ None
  none_found p xs none = by (find p xs) refl
    where
      by : (o : Option X) → find p xs ≡ o → find p xs ≡ None
      by (Some y) e = let is_y = found_passes p xs y e in clash (p y) is_y.1 (none y is_y.0)
      by None e = e

  -- lists with the same elements that pass
  pub same_found : (p : X → Bool) (xs ys : List X) → AtMostOne p ys → ((x : X) → Contains xs x → p x ≡ true → Contains ys x) → ((y : X) → Contains ys y → p y ≡ true → Contains xs y) → find p xs ≡ find p ys
  same_found p xs ys one there back = by (find p xs) refl (find p ys) refl
    where
      by : (a : Option X) → find p xs ≡ a → (b : Option X) → find p ys ≡ b → find p xs ≡ find p ys
      by (Some x) e b f = let is_x = found_passes p xs x e in e ∙ sym (one_found p ys x one (there x is_x.0 is_x.1) is_x.1)
      by None e (Some y) f = let is_y = found_passes p ys y f in clash (p y) is_y.1 (none_passes p xs y e (back y is_y.0 is_y.1))
      by None e None f = e ∙ sym f

  pub any_found : (p : X → Bool) (xs : List X) → list_any p xs ≡ is_some (find p xs)
  any_found p [] = refl
  any_found p (x ∷ xs) = by (p x) (any_found p xs)
    where
      by : (b : Bool) → list_any p xs ≡ is_some (find p xs) → (b || list_any p xs) ≡ is_some (cond b (Some x) (find p xs))
      by true rest = refl
      by false rest = rest
