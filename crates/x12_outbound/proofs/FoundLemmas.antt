-- The functional group, and the interchange, that an answer finds.
use Rattle.std.proofs.Common.{ℕ, ◌≡◌, ◌≢◌, ◌+◌, ◌<◌, ◌∙◌, ◌==◌, ◌&&◌, ◌||◌, ap, sym, zero, suc, inl, inr, Bool, true, false, List, [], ◌∷◌, ◌++◌, map, filter, find, flat_map, length, get_or, slice_get, Option, Some, None, option_map, if◌then◌else◌, option_and_then, All, AllPairs, arith, refl, subst}
use Rattle.std.specs.List.{enumerate_from, list_any}
use Rattle.std.specs.Option.{option_or}
use Rattle.std.specs.Str.{bytes_eq}
use Rattle.std.proofs.lemmas.Bool.{cases_Bool}
use Rattle.std.proofs.lemmas.Bool.Decides.{nat_tests}
use Rattle.std.proofs.lemmas.List.{length-map}
use Rattle.std.proofs.lemmas.List.Folds.{find-append}
use Rattle.std.proofs.lemmas.Option.{slice_get-get_or}
use Rattle.x12_envelopes.specs.declared.party.Party.{Party}
use Rattle.x12_judge.specs.Agreement.{is_same_party}
use Rattle.x12_acks.specs.Answer.{FunctionalGroupAnswer}
use Rattle.x12_acks.specs.Submission.{IsBefore, Submission, SubmittedGroup, KeyedGroup, keyed_group, keyed_groups}
use Rattle.x12_acks.specs.Evidence.{is_acknowledged_by, found_interchange, found_group}
use Rattle.x12_outbound.specs.declared.entry.EntryGroup.{EntryGroup}
use Rattle.x12_outbound.specs.declared.entry.Entry.{Entry}
use Rattle.x12_outbound.specs.declared.row.Row.{Row}
use Rattle.x12_outbound.specs.Entry.{entry_row, group_row, submission_of_entry, submitted_group_of_row, IsSendable}
use Rattle.x12_outbound.specs.Ledger.{LedgerRow, row_view, submitted_by, AreInOrder, IcnsRise}
use Rattle.x12_outbound.specs.Group.{groups_of_row, GroupsRise, HasGroup, LacksGroup}
use Rattle.x12_numbers.proofs.Shelf.{pairs_from_map, find_none, all_from_map, enumerate_mapped, map_twice}

pub all_index : {X : Type 0} (P : ℕ → X → Type 0) (xs : List X) → ((k : ℕ) (d : X) → k < length xs → P k (get_or xs k d)) → (m : ℕ) (y : X) → slice_get xs m ≡ Some y → P m y
all_index P [] all m y found = absurd (let no : ⊥ = cc in no)
all_index P (x ∷ xs) all zero y found = subst (P 0) (some_same found) (all 0 x (omega arith))
  where
    some_same : {Y : Type 0} {y z : Y} → Some y ≡ Some z → y ≡ z
    some_same same = cc
all_index P (x ∷ xs) all (suc m) y found = all_index (λ k. P (suc k)) xs (λ k d within. all (suc k) d (omega arith)) m y found

-- each row can be sent
pub rows_sendable : (me : Party) (rows : List Row) → AreInOrder (submitted_by me (map row_view rows)) → All (λ r. IsSendable (submission_of_entry me (entry_row r.entry))) rows
unfolding submitted_by
rows_sendable me rows order =
    all_from_map row_view (λ r. IsSendable (submission_of_entry me r.interchange)) rows (all_from_map (λ (r : LedgerRow). submission_of_entry me r.interchange) IsSendable (map row_view rows) order.sendable)

-- the groups of interchanges that are in order rise
pub groups_rise : (me : Party) (rows : List Row) → AreInOrder (submitted_by me (map row_view rows)) → GroupsRise rows
unfolding submitted_by
groups_rise me rows order = record {
  filled = λ k d within. omega (arith, (rows_sendable me rows order k d within).has_group, length-map (map group_row (groups_of_row (get_or rows k d))) submitted_group_of_row, length-map (groups_of_row (get_or rows k d)) group_row);
  within = λ k d within. pairs_from_map group_row (λ g h. g.number < h.number) (groups_of_row (get_or rows k d))
      (pairs_from_map submitted_group_of_row (λ g h. g.number < h.number) (map group_row (groups_of_row (get_or rows k d))) (rows_sendable me rows order k d within).groups_rise);
  across = λ i j d before within.
      let pair : IsBefore (submission_of_entry me (row_view (get_or rows i d)).interchange) (submission_of_entry me (row_view (get_or rows j d)).interchange) =
      pairs_from_map row_view (λ a b. IsBefore (submission_of_entry me a.interchange) (submission_of_entry me b.interchange)) rows (pairs_from_map (λ (r : LedgerRow). submission_of_entry me r.interchange) IsBefore (map row_view rows) order.before) i j d before within in
      let later = λ (g : ℕ). All (λ (h : SubmittedGroup). g < h.number) (map submitted_group_of_row (map group_row (groups_of_row (get_or rows j d)))) in
      let first = all_from_map group_row (λ g. later g.number) (groups_of_row (get_or rows i d)) (all_from_map submitted_group_of_row (λ g. later g.number) (map group_row (groups_of_row (get_or rows i d))) pair.groups) in
      λ m e at. all_from_map group_row (λ h. (get_or (groups_of_row (get_or rows i d)) m e).gcn < h.number) (groups_of_row (get_or rows j d))
      (all_from_map submitted_group_of_row (λ h. (get_or (groups_of_row (get_or rows i d)) m e).gcn < h.number) (map group_row (groups_of_row (get_or rows j d))) (first m e at));
}

-- a search through the elements of those that pass, where one alone may hold what is searched
module _ {A B : Type 0} (p : B → Bool) (f : A → List B) (q : A → Bool) where
  pub flat_none : (xs : List A) → ((k : ℕ) (y : A) → slice_get xs k ≡ Some y → find p (f y) ≡ None) → find p (flat_map f (filter q xs)) ≡ None
  flat_none [] none = refl
  flat_none (x ∷ xs) none = elim (cases_Bool (q x)) [
    | inl passes ↦ rw (passes, find-append p (f x) (flat_map f (filter q xs)), none 0 x refl) (flat_none xs (λ k y at. none (suc k) y at))
    | inr fails ↦ rw fails (flat_none xs (λ k y at. none (suc k) y at))
  ]

  or_none : {X : Type 0} (o : Option X) → option_or o None ≡ o
  or_none None = refl
  or_none (Some x) = refl

  pub flat_one : (xs : List A) (i : ℕ) (x : A) → slice_get xs i ≡ Some x → ((k : ℕ) (y : A) → k ≢ i → slice_get xs k ≡ Some y → find p (f y) ≡ None)
      → find p (flat_map f (filter q xs)) ≡ (if q x then find p (f x) else None)
  flat_one [] i x found others = absurd (let no : ⊥ = cc in no)
  flat_one (y ∷ ys) zero x found others =
      let same : y ≡ x = some_same found in
      let rest = flat_none ys (λ k z at. others (suc k) z (λ is. omega (arith, is)) at) in
      rw (← same) (elim (cases_Bool (q y)) [
        | inl passes ↦ rw (passes, find-append p (f y) (flat_map f (filter q ys)), rest) (or_none (find p (f y)))
        | inr fails ↦ rw fails rest
      ])
    where
      some_same : {Y : Type 0} {y z : Y} → Some y ≡ Some z → y ≡ z
      some_same same = cc
  flat_one (y ∷ ys) (suc i) x found others =
      let first = others 0 y (λ is. omega (arith, is)) refl in
      let rest = flat_one ys i x found (λ k z other at. others (suc k) z (λ is. other (omega (arith, is))) at) in
      elim (cases_Bool (q y)) [
        | inl passes ↦ rw (passes, find-append p (f y) (flat_map f (filter q ys)), first) rest
        | inr fails ↦ rw fails rest
      ]

-- a search among elements by their places
module _ {A B : Type 0} (p : B → Bool) (h : ℕ × A → B) where
  pub placed_none : (n : ℕ) (xs : List A) → ((m : ℕ) (y : A) (place : ℕ) → slice_get xs m ≡ Some y → p (h (place, y)) ≡ false) → find p (map h (enumerate_from n xs)) ≡ None
  placed_none n [] none = refl
  placed_none n (x ∷ xs) none = rw (none 0 x n refl) (placed_none (n + 1) xs (λ m y place at. none (suc m) y place at))

  pub placed_one : (n : ℕ) (xs : List A) (j : ℕ) (x : A) → slice_get xs j ≡ Some x → ((m : ℕ) (y : A) (place : ℕ) → m ≢ j → slice_get xs m ≡ Some y → p (h (place, y)) ≡ false)
      → find p (map h (enumerate_from n xs)) ≡ (if p (h (n + j, x)) then Some (h (n + j, x)) else None)
  placed_one n [] j x found others = absurd (let no : ⊥ = cc in no)
  placed_one n (y ∷ ys) zero x found others =
      let same : y ≡ x = some_same found in
      let at : n + 0 ≡ n = omega arith in
      let rest = placed_none (n + 1) ys (λ m z place found. others (suc m) z place (λ is. omega (arith, is)) found) in
      rw (← same, at) (elim (cases_Bool (p (h (n, y)))) [
        | inl passes ↦ rw passes refl
        | inr fails ↦ rw fails rest
      ])
    where
      some_same : {Y : Type 0} {y z : Y} → Some y ≡ Some z → y ≡ z
      some_same same = cc
  placed_one n (y ∷ ys) (suc j) x found others =
      let at : n + suc j ≡ n + 1 + j = omega arith in
      rw (others 0 y n (λ is. omega (arith, is)) refl, at) (placed_one (n + 1) ys j x found (λ m z place other found. others (suc m) z place (λ is. other (omega (arith, is))) found))

flat_filter_map : {X Y Z : Type 0} (f : Y → List Z) (q : Y → Bool) (v : X → Y) (xs : List X) → flat_map f (filter q (map v xs)) ≡ flat_map (λ x. f (v x)) (filter (λ x. q (v x)) xs)
flat_filter_map f q v [] = refl
flat_filter_map f q v (x ∷ xs) = elim (cases_Bool (q (v x))) [
  | inl passes ↦ rw passes (ap (λ rest. f (v x) ++ rest) (flat_filter_map f q v xs))
  | inr fails ↦ rw fails (flat_filter_map f q v xs)
]

-- what a row submits, and its groups with their keys
abbrev pub sent : Party → Row → Submission
sent me r = submission_of_entry me (entry_row r.entry)

abbrev pub keyed : Party → Row → ℕ × EntryGroup → KeyedGroup
keyed me r g = keyed_group (sent me r) g.0 (submitted_group_of_row (group_row g.1))

pub entry_keyed : (me : Party) (e : Entry) → keyed_groups (submission_of_entry me (entry_row e)) ≡ map (λ g. keyed_group (submission_of_entry me (entry_row e)) g.0 (submitted_group_of_row (group_row g.1))) (enumerate_from 1 e.groups.items)
unfolding keyed_groups
entry_keyed me e =
    let of = λ (g : ℕ × SubmittedGroup). keyed_group (submission_of_entry me (entry_row e)) g.0 g.1 in
    ap (map of) (ap (enumerate_from 1) (map_twice submitted_group_of_row group_row e.groups.items) ∙ enumerate_mapped (λ (g : EntryGroup). submitted_group_of_row (group_row g)) 1 e.groups.items)
    ∙ map_twice of (λ (g : ℕ × EntryGroup). (g.0, submitted_group_of_row (group_row g.1))) (enumerate_from 1 e.groups.items)

keyed_are : (me : Party) (r : Row) → keyed_groups (sent me r) ≡ map (keyed me r) (enumerate_from 1 (groups_of_row r))
keyed_are me r = entry_keyed me r.entry

module _ (me from : Party) (rows : List Row) (a : FunctionalGroupAnswer) where
  abbrev wanted : KeyedGroup → Bool
  wanted g = bytes_eq g.functional a.functional && g.number == a.number

  searched : found_group (submitted_by me (map row_view rows)) from a ≡ find wanted (flat_map (λ r. map (keyed me r) (enumerate_from 1 (groups_of_row r))) (filter (λ r. is_same_party r.entry.partner from) rows))
  unfolding submitted_by
  searched =
      ap (λ subs. find wanted (flat_map keyed_groups (filter (λ (e : Submission). is_same_party e.receiver from) subs))) (map_twice (λ (r : LedgerRow). submission_of_entry me r.interchange) row_view rows)
      ∙ ap (find wanted) (flat_filter_map keyed_groups (λ (e : Submission). is_same_party e.receiver from) (sent me) rows ∙ flat_same (filter (λ (r : Row). is_same_party r.entry.partner from) rows))
    where
      flat_same : (rs : List Row) → flat_map (λ r. keyed_groups (sent me r)) rs ≡ flat_map (λ r. map (keyed me r) (enumerate_from 1 (groups_of_row r))) rs
      flat_same [] = refl
      flat_same (r ∷ rs) = rw (keyed_are me r) (ap (λ rest. map (keyed me r) (enumerate_from 1 (groups_of_row r)) ++ rest) (flat_same rs))

  unwanted : (g : KeyedGroup) → g.number ≢ a.number → wanted g ≡ false
  unwanted g other = go (bytes_eq g.functional a.functional) (grind (arith, nat_tests, other))
    where
      go : (b : Bool) → (g.number == a.number) ≡ false → (b && g.number == a.number) ≡ false
      go true differs = differs
      go false differs = refl

  row_lacks : (r : Row) → LacksGroup a.number (groups_of_row r) → find wanted (map (keyed me r) (enumerate_from 1 (groups_of_row r))) ≡ None
  row_lacks r lacks = placed_none wanted (keyed me r) 1 (groups_of_row r) (λ m y place at. unwanted (keyed me r (place, y)) (all_index (λ k g. g.gcn ≢ a.number) (groups_of_row r) lacks m y at))

  -- no row has the group
  pub none_found : All (λ r. LacksGroup a.number (groups_of_row r)) rows → found_group (submitted_by me (map row_view rows)) from a ≡ None
  none_found lacks = searched ∙ flat_none wanted (λ r. map (keyed me r) (enumerate_from 1 (groups_of_row r))) (λ r. is_same_party r.entry.partner from) rows
      (λ k r at. row_lacks r (all_index (λ k r. LacksGroup a.number (groups_of_row r)) rows lacks k r at))

  -- the row that has it, and the group there
  pub one_found : GroupsRise rows → (at index : ℕ) (row : Row) (group : EntryGroup) → at < length rows → ((d : Row) → HasGroup a.number index (groups_of_row (get_or rows at d)))
      → row ≡ get_or rows at row → group ≡ get_or (groups_of_row row) index group
      → found_group (submitted_by me (map row_view rows)) from a
      ≡ (if is_same_party row.entry.partner from then (if wanted (keyed me row (1 + index, group)) then Some (keyed me row (1 + index, group)) else None) else None)
  one_found rise at index row group within has is stands =
      let here : HasGroup a.number index (groups_of_row row) = subst (λ (r : Row). HasGroup a.number index (groups_of_row r)) (sym is) (has row) in
      let rises : AllPairs (λ (g h : EntryGroup). g.gcn < h.gcn) (groups_of_row row) = subst (λ (r : Row). AllPairs (λ (g h : EntryGroup). g.gcn < h.gcn) (groups_of_row r)) (sym is) (rise.within at row within) in
      searched ∙ flat_one wanted (λ r. map (keyed me r) (enumerate_from 1 (groups_of_row r))) (λ r. is_same_party r.entry.partner from) rows at row
      (slice_get-get_or rows at row within ∙ ap Some (sym is))
      (λ k r other found. row_lacks r (all_index (λ k r. k ≢ at → LacksGroup a.number (groups_of_row r)) rows other_row k r found other))
      ∙ ap (λ o. if is_same_party row.entry.partner from then o else None)
      (placed_one wanted (keyed me row) 1 (groups_of_row row) index group (slice_get-get_or (groups_of_row row) index group here.0 ∙ ap Some (sym stands))
      (λ m g place other found. unwanted (keyed me row (place, g)) (all_index (λ m g. m ≢ index → g.gcn ≢ a.number) (groups_of_row row) (other_group here rises) m g found other)))
    where
      other_row : (k : ℕ) (d : Row) → k < length rows → k ≢ at → LacksGroup a.number (groups_of_row (get_or rows k d))
      other_row k d inside other = λ m e there same.
          let number = (has d).1 e in
          let below : k < at → (get_or (groups_of_row (get_or rows k d)) m e).gcn < (get_or (groups_of_row (get_or rows at d)) index e).gcn = λ lt. rise.across k at d lt within m e there index e (has d).0 in
          let above : at < k → (get_or (groups_of_row (get_or rows at d)) index e).gcn < (get_or (groups_of_row (get_or rows k d)) m e).gcn = λ lt. rise.across at k d lt inside index e (has d).0 m e there in
          grind (arith, number, below, above, same)

      other_group : HasGroup a.number index (groups_of_row row) → AllPairs (λ (g h : EntryGroup). g.gcn < h.gcn) (groups_of_row row)
          → (m : ℕ) (d : EntryGroup) → m < length (groups_of_row row) → m ≢ index → (get_or (groups_of_row row) m d).gcn ≢ a.number
      other_group here rises m d inside other same =
          let number = here.1 d in
          let below : m < index → (get_or (groups_of_row row) m d).gcn < (get_or (groups_of_row row) index d).gcn = λ lt. rises m index d lt here.0 in
          let above : index < m → (get_or (groups_of_row row) index d).gcn < (get_or (groups_of_row row) m d).gcn = λ lt. rises index m d lt inside in
          grind (arith, number, below, above, same)

-- the interchange of a number, if it passes a test
find_over_map : {X Y : Type 0} (p : Y → Bool) (v : X → Y) (xs : List X) → find p (map v xs) ≡ option_map v (find (λ x. p (v x)) xs)
find_over_map p v [] = refl
find_over_map p v (x ∷ xs) = elim (cases_Bool (p (v x))) [
  | inl passes ↦ rw passes refl
  | inr fails ↦ rw fails (find_over_map p v xs)
]

abbrev pub kept_if : {X : Type 0} → (X → Bool) → X → Option X
kept_if q x = if q x then Some x else None

find_both : {X : Type 0} (n : X → ℕ) (q : X → Bool) (k : ℕ) (xs : List X) → AllPairs (λ a b. n a < n b) xs
    → find (λ x. n x == k && q x) xs ≡ option_and_then (kept_if q) (find (λ x. n x == k) xs)
find_both {X = X} n q k [] rise = refl
find_both {X = X} n q k (x ∷ xs) rise = elim (cases_Bool (n x == k)) [
  | inl is ↦ rw is (elim (cases_Bool (q x)) [
    | inl passes ↦ rw passes refl
    | inr fails ↦ rw fails (find_none (λ y. n y == k && q y) xs (λ m d within. later (get_or xs m d) (grind (arith, nat_tests, rise 0 (suc m) d (omega arith) (omega arith)))))
  ])
  | inr not ↦ rw not (find_both n q k xs (λ i j d before within. rise (suc i) (suc j) d (omega arith) (omega arith)))
]
  where
    later : (y : X) → (n y == k) ≡ false → (n y == k && q y) ≡ false
    later y differs = rw differs refl

module _ (me : Party) (hubs : List Party) (from : Party) (rows : List LedgerRow) (rise : IcnsRise rows) (icn : ℕ) where
  abbrev may : LedgerRow → Bool
  may r = is_same_party r.interchange.receiver from || list_any (is_same_party from) hubs

  rejecting : found_interchange hubs (submitted_by me rows) from icn ≡ option_map (λ r. submission_of_entry me r.interchange) (option_and_then (kept_if may) (find (λ r. r.interchange.icn == icn) rows))
  unfolding submitted_by
  rejecting = find_over_map (is_acknowledged_by hubs from icn) (λ (r : LedgerRow). submission_of_entry me r.interchange) rows
      ∙ ap (option_map (λ (r : LedgerRow). submission_of_entry me r.interchange)) (find_both (λ (r : LedgerRow). r.interchange.icn) may icn rows rise)

  pub no_interchange : find (λ r. r.interchange.icn == icn) rows ≡ None → found_interchange hubs (submitted_by me rows) from icn ≡ None
  no_interchange none = rejecting ∙ ap (λ o. option_map (λ (r : LedgerRow). submission_of_entry me r.interchange) (option_and_then (kept_if may) o)) none

  pub one_interchange : (r : LedgerRow) → find (λ r. r.interchange.icn == icn) rows ≡ Some r
      → found_interchange hubs (submitted_by me rows) from icn ≡ option_map (λ r. submission_of_entry me r.interchange) (kept_if may r)
  one_interchange r one = rejecting ∙ ap (λ o. option_map (λ (r : LedgerRow). submission_of_entry me r.interchange) (option_and_then (kept_if may) o)) one
