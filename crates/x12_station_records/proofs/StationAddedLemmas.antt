-- Rows that are added one after the other.
use Rattle.std.proofs.Common.{◌≡◌, ◌<◌, ◌+◌, ◌++◌, ℕ, zero, suc, List, [], ◌∷◌, length, map, flat_map, take, get_or, refl, sym, ap, subst, ◌∙◌, append-nil, arith}
use Rattle.std.specs.List.{enumerate_from}
use Rattle.std.proofs.lemmas.List.{length-append}
use Rattle.sqlite.specs.State.{State}
use Rattle.x12_outbound.specs.Entry.{InterchangeRow}
use Rattle.x12_station.specs.Stored.{StoredSet, row_of_entry, rows_of_entry}
use Rattle.x12_station_records.specs.StationChange.{HasNextSet, with_stored_set, Turns, RisesByNumber, with_submission}
use Rattle.x12_station_records.specs.StationPart.{AddsSets, with_stored_sets, SubmitsAll}
use Rattle.x12_station_records.specs.StationTables.{HasTables}

pub append_on : {X : Type 0} (xs ys zs : List X) → (xs ++ ys) ++ zs ≡ xs ++ (ys ++ zs)
append_on [] ys zs = refl
append_on (x ∷ xs) ys zs = ap (λ more. x ∷ more) (append_on xs ys zs)

module _ {X Y Z : Type 0} (f : ℕ × Y → Z) (v : X → Y) where
  further : (n i : ℕ) (xs : List X) (d x : X) → i < length xs → get_or xs i d ≡ x
      → map f (enumerate_from n (take (suc i) (map v xs))) ≡ map f (enumerate_from n (take i (map v xs))) ++ f (n + i, v x) ∷ []
  further n i [] d x low is = absurd (omega (arith, low))
  further n zero (y ∷ ys) d x low is = let e : n ≡ n + 0 = omega arith in rw (sym is) (ap (λ k. f (k, v y) ∷ []) e)
  further n (suc i) (y ∷ ys) d x low is =
      let e : n + 1 + i ≡ n + suc i = omega arith in
      ap (λ more. f (n, v y) ∷ more) (further (n + 1) i ys d x (omega (arith, low)) is ∙ ap (λ k. map f (enumerate_from (n + 1) (take i (map v ys))) ++ f (k, v x) ∷ []) e)

  -- those so far, and the one at this place
  pub so_far : (i : ℕ) (xs : List X) (d x : X) → i < length xs → get_or xs i d ≡ x
      → map f (enumerate_from 1 (take (i + 1) (map v xs))) ≡ map f (enumerate_from 1 (take i (map v xs))) ++ f (i + 1, v x) ∷ []
  so_far i xs d x low is =
      let e : i + 1 ≡ suc i = omega arith in
      let k : 1 + i ≡ i + 1 = omega arith in
      ap (λ k. map f (enumerate_from 1 (take k (map v xs)))) e ∙ further 1 i xs d x low is ∙ ap (λ k. map f (enumerate_from 1 (take i (map v xs))) ++ f (k, v x) ∷ []) k

module _ {X Y Z : Type 0} (f : ℕ × Y → List Z) (v : X → Y) where
  all_further : (n i : ℕ) (xs : List X) (d x : X) → i < length xs → get_or xs i d ≡ x
      → flat_map f (enumerate_from n (take (suc i) (map v xs))) ≡ flat_map f (enumerate_from n (take i (map v xs))) ++ f (n + i, v x)
  all_further n i [] d x low is = absurd (omega (arith, low))
  all_further n zero (y ∷ ys) d x low is = let e : n ≡ n + 0 = omega arith in append-nil (f (n, v y)) ∙ rw (sym is) (ap (λ k. f (k, v y)) e)
  all_further n (suc i) (y ∷ ys) d x low is =
      let e : n + 1 + i ≡ n + suc i = omega arith in
      ap (λ more. f (n, v y) ++ more) (all_further (n + 1) i ys d x (omega (arith, low)) is ∙ ap (λ k. flat_map f (enumerate_from (n + 1) (take i (map v ys))) ++ f (k, v x)) e)
      ∙ sym (append_on (f (n, v y)) (flat_map f (enumerate_from (n + 1) (take i (map v ys)))) (f (n + suc i, v x)))

  -- all of those so far, and those of the one at this place
  pub all_so_far : (i : ℕ) (xs : List X) (d x : X) → i < length xs → get_or xs i d ≡ x
      → flat_map f (enumerate_from 1 (take (i + 1) (map v xs))) ≡ flat_map f (enumerate_from 1 (take i (map v xs))) ++ f (i + 1, v x)
  all_so_far i xs d x low is =
      let e : i + 1 ≡ suc i = omega arith in
      let k : 1 + i ≡ i + 1 = omega arith in
      ap (λ k. flat_map f (enumerate_from 1 (take k (map v xs)))) e ∙ all_further 1 i xs d x low is ∙ ap (λ k. flat_map f (enumerate_from 1 (take i (map v xs))) ++ f (k, v x)) k

module _ (a b c : State) (from to : ℕ) (xs : List StoredSet) (first : AddsSets from xs to a b) where
  -- and another set
  pub and_set : (t : StoredSet) → Turns (with_stored_set t) (HasNextSet to) b c → AddsSets from (xs ++ t ∷ []) (to + 1) a c
  and_set t second next s is has =
      let one = first next s is has in
      let e = append_on s.sets xs (t ∷ []) in (
        subst (λ ts. HasTables next c.now (record s { sets = ts })) e (second next (with_stored_sets xs s) one.1 one.0),
        omega (arith, one.1, length-append s.sets xs, length-append s.sets (xs ++ t ∷ []), length-append xs (t ∷ [])),
      )

  -- and other sets
  pub and_sets : (ys : List StoredSet) (end_ : ℕ) → AddsSets to ys end_ b c → AddsSets from (xs ++ ys) end_ a c
  and_sets ys end_ second next s is has =
      let one = first next s is has in
      let two = second next (with_stored_sets xs s) one.1 one.0 in
      let e = append_on s.sets xs ys in (
        subst (λ ts. HasTables next c.now (record s { sets = ts })) e two.0,
        subst (λ ts. HasNextSet end_ (record s { sets = ts })) e two.1,
      )

-- a submission, and its sets
pub submits_all : (a b c : State) (seq from to : ℕ) (e : InterchangeRow) → Turns (with_submission (row_of_entry seq e)) (RisesByNumber (row_of_entry seq e)) a b → AddsSets from (rows_of_entry e) to b c → SubmitsAll seq e from to a c
submits_all a b c seq from to e first second next s is rise has = second next (with_submission (row_of_entry seq e) s) is (first next s rise has)
