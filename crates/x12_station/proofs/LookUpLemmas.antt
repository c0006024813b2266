-- What is looked up among submissions in memory.
use Rattle.std.proofs.Common.{ℕ, zero, suc, ◌≡◌, ◌≢◌, ◌<◌, ◌≤◌, ◌-◌, ◌==◌, ◌&&◌, ap, inl, inr, not, Bool, true, false, cond, if◌then◌else◌, List, [], ◌∷◌, map, length, get_or, slice_get, Some, None, option_and_then, find, All, AllPairs, arith, refl, ltb, subst, ◌||◌, bytes_eq, ne_eqb}
use Rattle.std.specs.List.{list_any}
use Rattle.std.specs.List.Sorted.{IsPartitionPoint, IsNonDecreasingBy}
use Rattle.std.proofs.lemmas.Bool.Decides.{eqb_tells, nat_tests}
use Rattle.std.proofs.lemmas.List.{length-map}
use Rattle.std.proofs.lemmas.List.Elements.{All-head, All-tail}
use Rattle.std.proofs.lemmas.Option.{slice_get-get_or}
use Rattle.x12_envelopes.specs.declared.party.Party.{Party}
use Rattle.x12_judge.specs.Agreement.{is_same_party}
use Rattle.x12_acks.specs.Submission.{IsBefore}
use Rattle.x12_outbound.specs.Entry.{InterchangeRow, GroupRow, entry_row, group_row, row_is_open, submission_of_entry, submitted_group_of_row, IsSendable, last_number_of}
use Rattle.x12_outbound.specs.Ledger.{AreInOrder}
use Rattle.x12_numbers.proofs.Shelf.{pairs_from_map, holds_at_map, all_from_map}
use Rattle.x12_station.specs.declared.submissions.NumberedEntry.{NumberedEntry}
use Rattle.x12_station.specs.Stored.{is_group_named}
use Rattle.x12_station.specs.Memory.{NumberedRow, RowsRise, AreOrdered, entries_in, numbered_row, only_if, is_closed_numbered, is_closed_with}
use Rattle.x12_station.proofs.EntryLemmas.{rise_in_order}

pub entries_are : (rows : List NumberedEntry) → map (λ n. entry_row n.entry) rows ≡ entries_in (map numbered_row rows)
entries_are [] = refl
entries_are (n ∷ rows) = ap (λ l. entry_row n.entry ∷ l) (entries_are rows)

-- numbers rise, where all is in order
pub ordered_rise : (ns : List NumberedRow) → AreOrdered ns → RowsRise ns
ordered_rise ns order = let me : Party = record { qualifier = []; id = [] } in pairs_from_map (λ (n : NumberedRow). n.entry) (λ e f. e.icn < f.icn) ns (rise_in_order me (entries_in ns) (order me))

-- none of higher numbers is found
none_above : (icn : ℕ) (ns : List NumberedRow) → All (λ n. icn < n.entry.icn) ns → find (is_closed_numbered icn) (entries_in ns) ≡ None
none_above icn [] above = refl
none_above icn (n ∷ ns) above =
    let here = All-head (λ (m : NumberedRow). icn < m.entry.icn) n ns above in
    rw (ne_eqb n.entry.icn icn (λ same. absurd (omega arith))) (none_above icn ns (All-tail (λ (m : NumberedRow). icn < m.entry.icn) n ns above))

-- a closed submission is found by its number
pub closed_found : (icn : ℕ) (ns : List NumberedRow) → RowsRise ns → find (is_closed_numbered icn) (entries_in ns)
    ≡ option_and_then (λ n. only_if (λ e. not (row_is_open e)) n.entry) (find (λ n. n.entry.icn == icn) ns)
closed_found icn [] rise = refl
closed_found icn (n ∷ ns) rise = elim (eqb_tells n.entry.icn icn) [
  | inl same ↦ rw same.0 (by (row_is_open n.entry) (none_above icn ns (λ k d at. let less = rise 0 (suc k) d (omega arith) (omega arith) in let is = same.1 in omega arith)))
  | inr other ↦ rw other.0 (closed_found icn ns (λ i j d before at. rise (suc i) (suc j) d (omega arith) (omega arith)))
]
  where
    by : (t : Bool) → find (is_closed_numbered icn) (entries_in ns) ≡ None → cond (not t) (Some n.entry) (find (is_closed_numbered icn) (entries_in ns)) ≡ (if not t then Some n.entry else None)
    by true none = none
    by false none = refl

-- where one element alone may pass, it is what is found
pub find_only : {X : Type 0} (p : X → Bool) (xs : List X) (i : ℕ) → ((k : ℕ) (d : X) → k < length xs → k ≢ i → p (get_or xs k d) ≡ false)
    → find p xs ≡ option_and_then (only_if p) (slice_get xs i)
find_only {X} p [] i others = refl
find_only {X} p (x ∷ xs) zero others = by (p x) (none_of xs (λ k d at. others (suc k) d (omega arith) (λ same. absurd (omega arith))))
  where
    none_of : (ys : List X) → ((k : ℕ) (d : X) → k < length ys → p (get_or ys k d) ≡ false) → find p ys ≡ None
    none_of [] none = refl
    none_of (y ∷ ys) none = rw (none 0 y (omega arith)) (none_of ys (λ k d at. none (suc k) d (omega arith)))

    by : (t : Bool) → find p xs ≡ None → cond t (Some x) (find p xs) ≡ (if t then Some x else None)
    by true none = refl
    by false none = none
find_only {X} p (x ∷ xs) (suc i) others = rw (others 0 x (omega arith) (λ same. absurd (omega arith))) (find_only p xs i (λ k d at other. others (suc k) d (omega arith) (λ same. other (omega arith))))

-- Groups by their numbers, which rise over the submissions.

abbrev Rising : List GroupRow → Type 0
Rising gs = AllPairs (λ g h. g.number < h.number) gs

abbrev pub groups_in : NumberedEntry → List GroupRow
groups_in r = map group_row r.entry.groups.items

last_at : (gs : List GroupRow) (d : GroupRow) → 0 < length gs → last_number_of gs ≡ (get_or gs (length gs - 1) d).number
last_at gs d filled = rw (slice_get-get_or gs (length gs - 1) d (omega arith)) refl

below_last : (gs : List GroupRow) → Rising gs → (m : ℕ) (e : GroupRow) → m < length gs → (get_or gs m e).number ≤ last_number_of gs
below_last gs rise m e at =
    let last = last_at gs e (omega arith) in
    let before : m < length gs - 1 → (get_or gs m e).number < (get_or gs (length gs - 1) e).number = λ lt. rise m (length gs - 1) e lt (omega arith) in
    let same : m ≡ length gs - 1 → (get_or gs m e).number ≡ (get_or gs (length gs - 1) e).number = λ eq. ap (λ (i : ℕ). (get_or gs i e).number) eq in
    grind (arith, last, before, same)

above_last : (gs hs : List GroupRow) → 0 < length gs → All (λ g. All (λ h. g.number < h.number) hs) gs → (m : ℕ) (e : GroupRow) → m < length hs → last_number_of gs < (get_or hs m e).number
above_last gs hs filled across m e at =
    let last = last_at gs e filled in
    let less = across (length gs - 1) e (omega arith) m e at in
    omega (arith, last, less)

last_above : (gs hs : List GroupRow) → 0 < length gs → 0 < length hs → Rising hs → All (λ g. All (λ h. g.number < h.number) hs) gs → last_number_of gs ≤ last_number_of hs
last_above gs [] filled none rise across = absurd (omega arith)
last_above gs (h ∷ hs) filled some rise across = omega (arith, above_last gs (h ∷ hs) filled across 0 h some, below_last (h ∷ hs) rise 0 h some)

not_numbered : (gs : List GroupRow) (n : ℕ) → All (λ g. g.number ≢ n) gs → list_any (λ g. g.number == n) gs ≡ false
not_numbered [] n none = refl
not_numbered (g ∷ gs) n none = rw (ne_eqb g.number n (All-head (λ (h : GroupRow). h.number ≢ n) g gs none)) (not_numbered gs n (All-tail (λ (h : GroupRow). h.number ≢ n) g gs none))

-- what the order of submissions says of their groups
submissions_are : (me : Party) (rows : List NumberedEntry) → map (submission_of_entry me) (entries_in (map numbered_row rows)) ≡ map (λ r. submission_of_entry me (entry_row r.entry)) rows
submissions_are me [] = refl
submissions_are me (r ∷ rows) = ap (λ l. submission_of_entry me (entry_row r.entry) ∷ l) (submissions_are me rows)

module _ (rows : List NumberedEntry) (order : AreOrdered (map numbered_row rows)) where
  nobody : Party
  nobody = record { qualifier = []; id = [] }

  in_order : AreInOrder (map (λ r. submission_of_entry nobody (entry_row r.entry)) rows)
  in_order = subst AreInOrder (submissions_are nobody rows) (order nobody)

  filled : All (λ r. 0 < length (groups_in r)) rows
  filled k d at = let sendable = all_from_map (λ (r : NumberedEntry). submission_of_entry nobody (entry_row r.entry)) IsSendable rows in_order.sendable k d at in omega (arith, sendable.has_group, length-map (groups_in (get_or rows k d)) submitted_group_of_row)

  within : All (λ r. Rising (groups_in r)) rows
  within k d at = let sendable = all_from_map (λ (r : NumberedEntry). submission_of_entry nobody (entry_row r.entry)) IsSendable rows in_order.sendable k d at in pairs_from_map submitted_group_of_row (λ g h. g.number < h.number) (groups_in (get_or rows k d)) sendable.groups_rise

  across : AllPairs (λ r q. All (λ g. All (λ h. g.number < h.number) (groups_in q)) (groups_in r)) rows
  across i j d before at =
      let rise = pairs_from_map (λ (r : NumberedEntry). submission_of_entry nobody (entry_row r.entry)) IsBefore rows in_order.before i j d before at in
      let gs = groups_in (get_or rows i d) in
      let hs = groups_in (get_or rows j d) in
      let outer = all_from_map submitted_group_of_row (λ g. All (λ h. g.number < h.number) (map submitted_group_of_row hs)) gs rise.groups in
      λ m e inside. all_from_map submitted_group_of_row (λ h. (get_or gs m e).number < h.number) hs (outer m e inside)

  pub last_rises : IsNonDecreasingBy (λ r. last_number_of (groups_in r)) rows
  last_rises i j d le inside =
      let less : i < j → last_number_of (groups_in (get_or rows i d)) ≤ last_number_of (groups_in (get_or rows j d)) = λ lt. last_above (groups_in (get_or rows i d)) (groups_in (get_or rows j d)) (filled i d (omega arith)) (filled j d inside) (within j d inside) (across i j d lt inside) in
      let same : i ≡ j → last_number_of (groups_in (get_or rows i d)) ≡ last_number_of (groups_in (get_or rows j d)) = λ eq. ap (λ (k : ℕ). last_number_of (groups_in (get_or rows k d))) eq in
      grind (arith, less, same)

  -- no submission but the one at the partition point has the number
  pub one_row : (number at : ℕ) → IsPartitionPoint (λ r. ltb (last_number_of (groups_in r)) number ≡ true) (λ r. ltb (last_number_of (groups_in r)) number ≡ false) rows at
      → (k : ℕ) (d : NumberedEntry) → k < length rows → k ≢ at → list_any (λ g. g.number == number) (groups_in (get_or rows k d)) ≡ false
  one_row number at point k d inside other = not_numbered (groups_in (get_or rows k d)) number (λ m e here same. go m e here same)
    where
      go : (m : ℕ) (e : GroupRow) → m < length (groups_in (get_or rows k d)) → (get_or (groups_in (get_or rows k d)) m e).number ≡ number → ⊥
      go m e here same =
          let below = below_last (groups_in (get_or rows k d)) (within k d inside) m e here in
          let low : k < at → last_number_of (groups_in (get_or rows k d)) < number = λ lt. grind (arith, nat_tests, point.0 k d (omega arith) lt) in
          let high : at < k → number < (get_or (groups_in (get_or rows k d)) m e).number = λ lt. grind (arith, nat_tests, point.1 at d (omega arith) (omega arith), above_last (groups_in (get_or rows at d)) (groups_in (get_or rows k d)) (filled at d (omega arith)) (across at k d lt inside) m e here) in
          grind (arith, below, low, high)

-- without the number no group is named
unnamed : (functional : List ℕ) (gcn : ℕ) (gs : List GroupRow) → list_any (λ g. g.number == gcn) gs ≡ false → list_any (is_group_named functional gcn) gs ≡ false
unnamed functional gcn [] none = refl
unnamed functional gcn (g ∷ gs) none = by (g.number == gcn) (unnamed functional gcn gs) none
  where
    off : (b c : Bool) → c ≡ false → (b && false || c) ≡ false
    off true c is = is
    off false c is = is

    by : (t : Bool) → (list_any (λ h. h.number == gcn) gs ≡ false → list_any (is_group_named functional gcn) gs ≡ false) → (t || list_any (λ h. h.number == gcn) gs) ≡ false → (bytes_eq g.functional functional && t || list_any (is_group_named functional gcn) gs) ≡ false
    by true rest is = absurd (cc)
    by false rest is = off (bytes_eq g.functional functional) (list_any (is_group_named functional gcn) gs) (rest is)

-- so the submission at this place alone may be found
pub group_found : (partner : Party) (functional : List ℕ) (gcn at : ℕ) (rows : List NumberedEntry)
    → ((k : ℕ) (d : NumberedEntry) → k < length rows → k ≢ at → list_any (λ g. g.number == gcn) (groups_in (get_or rows k d)) ≡ false)
    → find (is_closed_with partner functional gcn) (entries_in (map numbered_row rows)) ≡ option_and_then (only_if (is_closed_with partner functional gcn)) (slice_get (entries_in (map numbered_row rows)) at)
group_found partner functional gcn at rows others =
    let p = is_closed_with partner functional gcn in
    let view = λ (r : NumberedEntry). entry_row r.entry in
    subst (λ es. find p es ≡ option_and_then (only_if p) (slice_get es at)) (entries_are rows)
    (find_only p (map view rows) at (λ k d inside other.
    let here : k < length rows = omega (arith, length-map rows view) in
    holds_at_map view (λ e. p e ≡ false) rows k here (λ q. fails (view (get_or rows k q)) (unnamed functional gcn (groups_in (get_or rows k q)) (others k q here other))) d))
  where
    fails : (e : InterchangeRow) → list_any (is_group_named functional gcn) e.groups ≡ false → is_closed_with partner functional gcn e ≡ false
    fails e none = rw none (off (is_same_party e.receiver partner) (not (row_is_open e)))
      where
        off : (a b : Bool) → (a && false && b) ≡ false
        off true b = refl
        off false b = refl

-- the entry at an index, and past the last
pub entry_at : (rows : List NumberedEntry) (i : ℕ) (r : NumberedEntry) → i < length rows → slice_get (entries_in (map numbered_row rows)) i ≡ Some (entry_row (get_or rows i r).entry)
entry_at [] i r inside = absurd (omega arith)
entry_at (q ∷ rows) zero r inside = refl
entry_at (q ∷ rows) (suc i) r inside = entry_at rows i r (omega arith)

pub entry_past : (rows : List NumberedEntry) (i : ℕ) → length rows ≤ i → slice_get (entries_in (map numbered_row rows)) i ≡ None
entry_past [] i past = refl
entry_past (q ∷ rows) zero past = absurd (omega arith)
entry_past (q ∷ rows) (suc i) past = entry_past rows i (omega arith)
