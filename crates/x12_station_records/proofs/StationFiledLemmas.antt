-- A first arrival, its postings, and the transaction sets that it settles.
use Rattle.std.proofs.Common.{◌≡◌, ◌≤◌, ◌<◌, ◌+◌, ◌++◌, ℕ, zero, suc, List, [], ◌∷◌, length, map, filter, take, get_or, refl, sym, ap, subst, ◌∙◌, inl, inr, arith}
use Rattle.std.proofs.lemmas.Bool.{cases_Bool}
use Rattle.std.proofs.lemmas.List.{length-append}
use Rattle.sqlite.specs.State.{State}
use Rattle.x12_acks.specs.Accepted.{AcceptedSet}
use Rattle.x12_acks.specs.Submission.{TransactionSetKey}
use Rattle.x12_inbound.specs.Arrival.{Filing}
use Rattle.x12_outbound.specs.declared.fate.Fate.{Fate}
use Rattle.x12_station.specs.Plan.{row_settled, rows_settled}
use Rattle.x12_station.specs.Stored.{Stored, StoredSet, is_row_of}
use Rattle.x12_station_records.proofs.StationAddedLemmas.{append_on}
use Rattle.x12_station_records.specs.StationChange.{with_posting, HasNextPosting, Turns, with_fates, SetsOnce, with_stored_fate, RisesBySeq, arrival_of, with_arrival}
use Rattle.x12_station_records.specs.StationPart.{with_postings, AddsPostings, FilesAll}
use Rattle.x12_station_records.specs.StationTables.{HasTables}

module _ {X Y : Type 0} (v : X → Y) where
  first_ones : (i : ℕ) (xs : List X) (d x : X) → i < length xs → get_or xs i d ≡ x → take (suc i) (map v xs) ≡ take i (map v xs) ++ v x ∷ []
  first_ones i [] d x low is = absurd (omega (arith, low))
  first_ones zero (y ∷ ys) d x low is = rw (sym is) refl
  first_ones (suc i) (y ∷ ys) d x low is = ap (λ more. v y ∷ more) (first_ones i ys d x (omega (arith, low)) is)

  pub one_further : (i : ℕ) (xs : List X) (d x : X) → i < length xs → get_or xs i d ≡ x → take (i + 1) (map v xs) ≡ take i (map v xs) ++ v x ∷ []
  one_further i xs d x low is = let e : i + 1 ≡ suc i = omega arith in ap (λ k. take k (map v xs)) e ∙ first_ones i xs d x low is

  pub all_of_them : (i : ℕ) (xs : List X) → length xs ≤ i → take i (map v xs) ≡ map v xs
  all_of_them zero [] low = refl
  all_of_them (suc i) [] low = refl
  all_of_them zero (x ∷ xs) low = absurd (omega (arith, low))
  all_of_them (suc i) (x ∷ xs) low = ap (λ more. v x ∷ more) (all_of_them i xs (omega (arith, low)))

module _ {X : Type 0} where
  firsts : (i : ℕ) (xs : List X) (d x : X) → i < length xs → get_or xs i d ≡ x → take (suc i) xs ≡ take i xs ++ x ∷ []
  firsts i [] d x low is = absurd (omega (arith, low))
  firsts zero (y ∷ ys) d x low is = rw (sym is) refl
  firsts (suc i) (y ∷ ys) d x low is = ap (λ more. y ∷ more) (firsts i ys d x (omega (arith, low)) is)

  pub one_more_taken : (i : ℕ) (xs : List X) (d x : X) → i < length xs → get_or xs i d ≡ x → take (i + 1) xs ≡ take i xs ++ x ∷ []
  one_more_taken i xs d x low is = let e : i + 1 ≡ suc i = omega arith in ap (λ k. take k xs) e ∙ firsts i xs d x low is

-- and another posting
pub and_posting : (a b c : State) (from to : ℕ) (ps : List AcceptedSet) (p : AcceptedSet) → AddsPostings from ps to a b → Turns (with_posting p) (HasNextPosting to) b c → AddsPostings from (ps ++ p ∷ []) (to + 1) a c
and_posting a b c from to ps p first second next s is has =
    let one = first next s is has in
    let e = append_on s.postings ps (p ∷ []) in (
      subst (λ xs. HasTables next c.now (record s { postings = xs })) e (second next (with_postings ps s) one.1 one.0),
      omega (arith, one.1, length-append s.postings ps, length-append s.postings (ps ++ p ∷ []), length-append ps (p ∷ [])),
    )

settled_then : (ts : List (TransactionSetKey × Fate)) (t : TransactionSetKey × Fate) (sets : List StoredSet) → rows_settled (ts ++ t ∷ []) sets ≡ map (row_settled t.0 t.1) (rows_settled ts sets)
unfolding rows_settled
settled_then [] t sets = refl
settled_then (u ∷ ts) t sets = settled_then ts t (map (row_settled u.0 u.1) sets)

-- a fate doesn't change where a row stands
as_many_settled : (j k : TransactionSetKey) (fate : Fate) (sets : List StoredSet) → length (filter (is_row_of j) (map (row_settled k fate) sets)) ≡ length (filter (is_row_of j) sets)
as_many_settled j k fate [] = refl
as_many_settled j k fate (t ∷ ts) = elim (cases_Bool (is_row_of k t)) [
  | inl yes1 ↦ elim (cases_Bool (is_row_of j t)) [ inl yes2 ↦ rw (yes1, yes2, as_many_settled j k fate ts) refl | inr no2 ↦ rw (yes1, no2, as_many_settled j k fate ts) refl ]
  | inr no1 ↦ elim (cases_Bool (is_row_of j t)) [ inl yes2 ↦ rw (no1, yes2, as_many_settled j k fate ts) refl | inr no2 ↦ rw (no1, no2, as_many_settled j k fate ts) refl ]
]

as_many_after : (j : TransactionSetKey) (ts : List (TransactionSetKey × Fate)) (sets : List StoredSet) → length (filter (is_row_of j) (rows_settled ts sets)) ≡ length (filter (is_row_of j) sets)
unfolding rows_settled
as_many_after j [] sets = refl
as_many_after j (t ∷ ts) sets = as_many_after j ts (map (row_settled t.0 t.1) sets) ∙ as_many_settled j t.0 t.1 sets

pub no_fates : (a : State) → Turns (with_fates []) SetsOnce a a
unfolding rows_settled
no_fates a next s once has = has

-- and another fate
pub and_fate : (a b c : State) (ts : List (TransactionSetKey × Fate)) (t : TransactionSetKey × Fate) → Turns (with_fates ts) SetsOnce a b → Turns (with_stored_fate t.0 t.1) SetsOnce b c → Turns (with_fates (ts ++ t ∷ [])) SetsOnce a c
and_fate a b c ts t first second next s once has =
    let still : SetsOnce (with_fates ts s) = λ k. omega (arith, once k, as_many_after k ts s.sets) in
    subst (λ xs. HasTables next c.now (record s { sets = xs })) (sym (settled_then ts t s.sets)) (second next (with_fates ts s) still (first next s once has))

-- an arrival and its postings
abbrev pub Arrives : ℕ → Filing → ℕ → ℕ → State → State → Type 0
Arrives seq k from to old new = (next : ℕ) (s : Stored) → HasNextPosting from s → RisesBySeq (arrival_of seq k.filed) s → HasTables next old.now s
    → HasTables next new.now (with_postings k.postings (with_arrival (arrival_of seq k.filed) s)) × HasNextPosting to (with_postings k.postings s)

module _ (a b c : State) (seq from to : ℕ) (k : Filing) where
  pub arrives : Turns (with_arrival (arrival_of seq k.filed)) (RisesBySeq (arrival_of seq k.filed)) a b → AddsPostings from k.postings to b c → Arrives seq k from to a c
  arrives first second next s is rise has = second next (with_arrival (arrival_of seq k.filed) s) is (first next s rise has)

  -- and what it settles
  pub files_all : (ts : List (TransactionSetKey × Fate)) → Arrives seq k from to a b → Turns (with_fates ts) SetsOnce b c → FilesAll seq k ts from to a c
  files_all ts first second next s is rise once has =
      let one = first next s is rise has in
      (second next (with_postings k.postings (with_arrival (arrival_of seq k.filed) s)) once one.0, one.1)
