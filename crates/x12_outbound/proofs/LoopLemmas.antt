-- One step of a loop over rows: the next one is counted, listed or written.
use Rattle.std.proofs.Common.{ℕ, ◌≡◌, ◌+◌, ◌<◌, ◌∙◌, ap, sym, Bool, true, false, List, [], ◌∷◌, ◌++◌, map, length, get_or, set, take, drop, filter, count_by, arith, refl}
use Rattle.std.proofs.lemmas.List.{get_or-map, length-map, map-set, append-nil}
use Rattle.std.proofs.lemmas.List.Edits.{map_over_more}
use Rattle.std.proofs.lemmas.List.Elements.{filter_more}
use Rattle.std.proofs.lemmas.List.Sums.{count_by_more_no, count_by_more_yes}

module _ {X Y : Type 0} (v : X → Y) (p : Y → Bool) (xs : List X) (i : ℕ) (x : X) (within : i < length xs) (is : x ≡ get_or xs i x) where
  next : get_or (map v xs) i (v x) ≡ v x
  next = get_or-map v xs i x (v x) within ∙ ap v (sym is)

  in_map : i < length (map v xs)
  in_map = omega (arith, length-map xs v)

  pub count_yes : p (v x) ≡ true → count_by p (take (i + 1) (map v xs)) ≡ count_by p (take i (map v xs)) + 1
  count_yes passes = count_by_more_yes p (map v xs) i (v x) in_map (ap p next ∙ passes)

  pub count_no : p (v x) ≡ false → count_by p (take (i + 1) (map v xs)) ≡ count_by p (take i (map v xs))
  count_no fails = count_by_more_no p (map v xs) i (v x) in_map (ap p next ∙ fails)

  pub filter_yes : p (v x) ≡ true → filter p (take (i + 1) (map v xs)) ≡ filter p (take i (map v xs)) ++ v x ∷ []
  filter_yes passes = filter_more p (map v xs) i (v x) in_map ∙ rw (next, passes) refl

  pub filter_no : p (v x) ≡ false → filter p (take (i + 1) (map v xs)) ≡ filter p (take i (map v xs))
  filter_no fails = filter_more p (map v xs) i (v x) in_map ∙ rw (next, fails) (append-nil _)

-- x at i is written over by y, which stands for f of what x stands for
pub written_more : {X Y : Type 0} (v : X → Y) (f : Y → Y) (old : List Y) (xs : List X) (i : ℕ) (x y : X)
    → i < length xs → length xs ≡ length old → map v xs ≡ map f (take i old) ++ drop i old
    → x ≡ get_or xs i x → v y ≡ f (v x)
    → map v (set xs i y) ≡ map f (take (i + 1) old) ++ drop (i + 1) old
written_more v f old xs i x y within long so_far is stands =
    map-set v xs i y ∙ ap (set (map v xs) i) stands
    ∙ map_over_more f old (map v xs) i (v x) (omega arith) so_far (ap v is ∙ sym (get_or-map v xs i x (v x) within))
