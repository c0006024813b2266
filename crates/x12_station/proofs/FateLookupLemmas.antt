-- The fate of a set at its place: that of its row.
use Rattle.std.proofs.Common.{ℕ, zero, suc, ◌≡◌, ◌≢◌, ◌+◌, ◌-◌, ◌<◌, ◌==◌, ◌&&◌, ◌∙◌, ap, refl, arith, inl, inr, Bool, true, false, cond, if◌then◌else◌, List, [], ◌∷◌, ◌++◌, map, flat_map, find, slice_get, Option, Some, None, option_map, option_and_then, All, ne_eqb}
use Rattle.std.specs.List.{enumerate_from}
use Rattle.std.specs.Option.{option_or}
use Rattle.std.proofs.lemmas.Bool.Decides.{eqb_tells}
use Rattle.std.proofs.lemmas.List.Elements.{All-head, All-tail}
use Rattle.std.proofs.lemmas.List.Folds.{find-append}
use Rattle.x12_acks.specs.Submission.{TransactionSetKey}
use Rattle.x12_outbound.specs.declared.fate.Fate.{Fate}
use Rattle.x12_outbound.specs.Entry.{InterchangeRow, GroupRow, SetRow, at_place, set_row_at}
use Rattle.x12_station.specs.Stored.{Stored, StoredSet, entries, rows_of_group, rows_of_entry, is_row_of, stored_fate, IsSound}
use Rattle.x12_station.proofs.EntryLemmas.{rows_from, row_at, NumbersRise, rise_head, rise_tail, entries_rise}
use Rattle.x12_numbers.proofs.Shelf.{eq_itself, option_or_none}

-- what stands at a place of a list whose first place is n
module _ {X : Type 0} (place : ℕ) where
  abbrev found_from : ℕ → List X → Option X
  found_from n [] = None
  found_from n (x ∷ xs) = if n == place then Some x else found_from (n + 1) xs

  found_past : (n : ℕ) (xs : List X) → place < n → found_from n xs ≡ None
  found_past n [] past = refl
  found_past n (x ∷ xs) past = rw (ne_eqb n place (omega arith)) (found_past (n + 1) xs (omega arith))

  found_within : (i n : ℕ) (xs : List X) → n + i ≡ place → found_from n xs ≡ slice_get xs i
  found_within i n [] at = refl
  found_within zero n (x ∷ xs) at = let here : n ≡ place = omega arith in rw (here, eq_itself place) refl
  found_within (suc i) n (x ∷ xs) at = rw (ne_eqb n place (omega arith)) (found_within i (n + 1) xs (omega arith))

  found_is : (xs : List X) → found_from 1 xs ≡ at_place place xs
  found_is xs = elim (eqb_tells place 0) [
    | inl none ↦ rw none.0 (found_past 1 xs (omega arith))
    | inr some ↦ rw some.0 (found_within (place - 1) 1 xs (omega arith))
  ]

abbrev fate_of_row : StoredSet → Fate
fate_of_row t = t.fate

abbrev fate_of_set : SetRow → Fate
fate_of_set s = s.fate

-- of two lists of rows the first that has a fate
or_fate : (a b : Option StoredSet) → option_map fate_of_row (option_or a b) ≡ option_or (option_map fate_of_row a) (option_map fate_of_row b)
or_fate None b = refl
or_fate (Some x) b = refl

fate_append : (k : TransactionSetKey) (xs ys : List StoredSet) → stored_fate (xs ++ ys) k ≡ option_or (stored_fate xs k) (stored_fate ys k)
fate_append k xs ys = ap (option_map fate_of_row) (find-append (is_row_of k) xs ys) ∙ or_fate (find (is_row_of k) xs) (find (is_row_of k) ys)

-- rows of which none is that of the set
module _ {Y : Type 0} (k : TransactionSetKey) (f : Y → StoredSet) (other : (y : Y) → is_row_of k (f y) ≡ false) where
  no_fate : (ys : List Y) → stored_fate (map f ys) k ≡ None
  no_fate [] = refl
  no_fate (y ∷ ys) = rw (other y) (no_fate ys)

-- the rows of the group
in_group : (k : TransactionSetKey) (icn n : ℕ) (g : GroupRow) (from : ℕ) (ss : List SetRow) → icn ≡ k.icn → n ≡ k.group
    → stored_fate (map (row_at icn n g) (enumerate_from from ss)) k ≡ option_map fate_of_set (found_from k.set from ss)
unfolding row_at
in_group k icn n g from [] named here = refl
in_group k icn n g from (s ∷ ss) named here = rw (named, here, eq_itself k.icn, eq_itself k.group) (by (from == k.set) (find (is_row_of k) (map (row_at icn n g) (enumerate_from (from + 1) ss))) (found_from k.set (from + 1) ss) (in_group k icn n g (from + 1) ss named here))
  where
    by : (t : Bool) (o : Option StoredSet) (q : Option SetRow) → option_map fate_of_row o ≡ option_map fate_of_set q
        → option_map fate_of_row (cond t (Some (row_at k.icn k.group g (from, s))) o) ≡ option_map fate_of_set (if t then Some s else q)
    by true o q rest = refl
    by false o q rest = rest

other_group : (k : TransactionSetKey) (icn n : ℕ) (g : GroupRow) → n ≢ k.group → stored_fate (rows_of_group icn (n, g)) k ≡ None
unfolding row_at
other_group k icn n g differ = no_fate k (row_at icn n g) (λ s. rw (ne_eqb n k.group differ) (by (icn == k.icn) (s.0 == k.set))) (enumerate_from 1 g.sets)
  where
    by : (t u : Bool) → (t && false && u) ≡ false
    by true u = refl
    by false u = refl

-- the rows of the submission
later_groups : (k : TransactionSetKey) (icn n : ℕ) (gs : List GroupRow) → k.group < n → stored_fate (rows_from icn n gs) k ≡ None
later_groups k icn n [] past = refl
later_groups k icn n (g ∷ gs) past =
    fate_append k (rows_of_group icn (n, g)) (rows_from icn (n + 1) gs)
    ∙ rw (other_group k icn n g (λ same. absurd (omega arith)), later_groups k icn (n + 1) gs (omega arith)) refl

in_groups : (k : TransactionSetKey) (icn n : ℕ) (gs : List GroupRow) → icn ≡ k.icn
    → stored_fate (rows_from icn n gs) k ≡ option_map fate_of_set (option_and_then (λ g. at_place k.set g.sets) (found_from k.group n gs))
unfolding row_at
in_groups k icn n [] named = refl
in_groups k icn n (g ∷ gs) named = fate_append k (rows_of_group icn (n, g)) (rows_from icn (n + 1) gs) ∙ elim (eqb_tells n k.group) [
  | inl here ↦ rw (here.0, later_groups k icn (n + 1) gs (let same = here.1 in omega arith)) (option_or_none (stored_fate (rows_of_group icn (n, g)) k) ∙ in_group k icn n g 1 g.sets named here.1 ∙ ap (option_map fate_of_set) (found_is k.set g.sets))
  | inr away ↦ rw (away.0, other_group k icn n g away.1) (in_groups k icn (n + 1) gs named)
]

in_entry : (k : TransactionSetKey) (e : InterchangeRow) → e.icn ≡ k.icn → stored_fate (rows_of_entry e) k ≡ option_map fate_of_set (set_row_at k.group k.set e)
unfolding rows_of_entry set_row_at
in_entry k e named = in_groups k e.icn 1 e.groups named ∙ ap (λ g. option_map fate_of_set (option_and_then (λ h. at_place k.set h.sets) g)) (found_is k.group e.groups)

other_groups : (k : TransactionSetKey) (icn n : ℕ) (gs : List GroupRow) → icn ≢ k.icn → stored_fate (rows_from icn n gs) k ≡ None
unfolding row_at
other_groups k icn n [] differ = refl
other_groups k icn n (g ∷ gs) differ =
    fate_append k (rows_of_group icn (n, g)) (rows_from icn (n + 1) gs)
    ∙ rw (no_fate k (row_at icn n g) (λ s. rw (ne_eqb icn k.icn differ) refl) (enumerate_from 1 g.sets), other_groups k icn (n + 1) gs differ) refl

other_entry : (k : TransactionSetKey) (e : InterchangeRow) → e.icn ≢ k.icn → stored_fate (rows_of_entry e) k ≡ None
unfolding rows_of_entry
other_entry k e differ = other_groups k e.icn 1 e.groups differ

-- the rows of all submissions
other_entries : (k : TransactionSetKey) (es : List InterchangeRow) → All (λ e. e.icn ≢ k.icn) es → stored_fate (flat_map rows_of_entry es) k ≡ None
other_entries k [] other = refl
other_entries k (e ∷ es) other =
    fate_append k (rows_of_entry e) (flat_map rows_of_entry es)
    ∙ rw (other_entry k e (All-head (λ x. x.icn ≢ k.icn) e es other), other_entries k es (All-tail (λ x. x.icn ≢ k.icn) e es other)) refl

-- the set at this place, in the submission of this number
abbrev pub fate_among : TransactionSetKey → List InterchangeRow → Option Fate
fate_among k es = option_map (λ s. s.fate) (option_and_then (set_row_at k.group k.set) (find (λ e. e.icn == k.icn) es))

-- The fate of a row is that of the set in its entry.
pub fate_of_rows : (k : TransactionSetKey) (es : List InterchangeRow) → NumbersRise es → stored_fate (flat_map rows_of_entry es) k ≡ fate_among k es
fate_of_rows k [] rise = refl
fate_of_rows k (e ∷ es) rise = fate_append k (rows_of_entry e) (flat_map rows_of_entry es) ∙ elim (eqb_tells e.icn k.icn) [
  | inl same ↦
      let icn = same.1 in
      rw (same.0, other_entries k es (λ n d at. let above = rise_head e es rise n d at in λ is. absurd (omega arith))) (option_or_none (stored_fate (rows_of_entry e) k) ∙ in_entry k e same.1)
  | inr differ ↦ rw (differ.0, other_entry k e differ.1) (fate_of_rows k es (rise_tail e es rise))
]

-- so it is with the fates of sound records
pub stored_fate_is : (s : Stored) (k : TransactionSetKey) → IsSound s → stored_fate s.sets k ≡ fate_among k (entries s)
stored_fate_is s k sound = ap (λ sets. stored_fate sets k) sound.rows ∙ fate_of_rows k (entries s) (entries_rise s sound)
