-- Lemmas on what a printer is handed, part by part.
use Rattle.std.proofs.Common.{◌≡◌, ℕ, ◌+◌, ◌<◌, ◌≤◌, true, false, List, [], ◌∷◌, ◌++◌, map, flat_map, drop, length, get_or, add-one, drop-cons}
use Rattle.std.proofs.lemmas.List.{drop_all, append-nil}
use Rattle.std.specs.List.{enumerate_from}
use Rattle.x12_judge.specs.Group.{FunctionalGroupVerdict}
use Rattle.x12_judge.specs.Set.{TransactionSetVerdict}
use Rattle.x12_inspect.specs.Finding.{CheckFinding, of_set, of_note, is_without_errors, refusal_findings, error_findings, set_findings, group_findings}

module _ {T F : Type 0} (R : T → List F → T → Type 0) where
  -- with one part more, whatever completes what is left completes the whole
  pub handed_on : ((t u v : T) → (found more : List F) → R t found u → R u more v → R t (found ++ more) v)
      → (first now after : T) (all rest one more : List F) → rest ≡ one ++ more
      → ((t : T) → R now rest t → R first all t) → R now one after → (t : T) → R after more t → R first all t
  handed_on behind first now after all rest one more is held done t left = held t (rw is (behind now after t one more done left))

  -- with no part left, the whole is complete
  pub handed_over : ((t : T) → R t [] t) → (first now : T) (all rest : List F) → rest ≡ []
      → ((t : T) → R now rest t → R first all t) → R first all now
  handed_over none first now all rest is held = held now (rw is (none now))

-- the first of what is left of a list, and what is left behind it
pub next_left : {X : Type 0} (i : ℕ) (xs ys : List X) (x d : X) → ys ≡ xs → i < length ys → x ≡ get_or ys i d → drop i xs ≡ x ∷ drop (i + 1) xs
next_left i xs ys x d same inside is =
    let first : drop i ys ≡ get_or ys i d ∷ drop (i + 1) ys = rw add-one (drop-cons ys i d inside) in
    rw (is, ← same) first

-- nothing is left of it
pub none_left : {X : Type 0} (i : ℕ) (xs ys : List X) → ys ≡ xs → length ys ≤ i → drop i xs ≡ []
none_left i xs ys same past = rw (← same) (drop_all i ys past)

module _ {T : Type 0} (R : T → List CheckFinding → T → Type 0) (behind : (t u v : T) → (found more : List CheckFinding) → R t found u → R u more v → R t (found ++ more) v) (g : FunctionalGroupVerdict) where
  -- a set without errors, to its end
  pub set_without_errors : (place : ℕ) (v : TransactionSetVerdict) (t u w : T) → is_without_errors v.result ≡ true
      → R t (error_findings g place v) u → R u [] w → R t (set_findings g place v) w
  unfolding set_findings
  set_without_errors place v t u w is set end = rw is (behind t u w [] [] (rw is at set) end)

  -- a set with errors, with its notes
  pub set_with_errors : (place : ℕ) (v : TransactionSetVerdict) (t u s w : T) → is_without_errors v.result ≡ false
      → R t (error_findings g place v) u → R u (map of_note v.notes) s → R s [] w → R t (set_findings g place v) w
  unfolding set_findings
  set_with_errors place v t u s w is set notes end =
      let told = behind t u w (of_set g place v ∷ []) (map of_note v.notes ++ []) (rw is at set) (behind u s w (map of_note v.notes) [] notes end) in
      rw is (rw (append-nil (map of_note v.notes)) at told)

  -- a group's own finding, and whatever its sets have
  pub group_begun : (t u w : T) → R t (refusal_findings g g.refused) u
      → R u (flat_map (λ s. set_findings g s.0 s.1) (enumerate_from 1 g.sets)) w → R t (group_findings g) w
  unfolding group_findings
  group_begun t u w group sets = behind t u w _ _ group sets
