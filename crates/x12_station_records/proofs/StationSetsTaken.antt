-- The transaction sets of sound records are what is tested before they are taken over.
use Rattle.std.proofs.Common.{◌≡◌, ◌<◌, ◌≤◌, ◌+◌, ◌∙◌, ◌++◌, nat_le, ℕ, suc, pos, true, max, List, [], ◌∷◌, map, flat_map, take, drop, length, get_or, All, AllPairs, refl, sym, ap, ap₂, subst, arith, ◌^◌}
use Rattle.std.specs.List.{AllByRecursion, enumerate_from, sum_by}
use Rattle.std.proofs.lemmas.Bool.Decides.{nat_tests}
use Rattle.std.proofs.lemmas.List.{length-map}
use Rattle.std.proofs.lemmas.List.Elements.{All-map, All-head, All-tail, All-from_recursion, All-nil, All-cons}
use Rattle.sqlite.specs.declared.types.Value.TheVariants.{Int, Blob}
use Rattle.sqlite.specs.Order.{Row}
use Rattle.sqlite.specs.State.{State, Shown}
use Rattle.x12_acks.specs.Submission.{IsBefore}
use Rattle.x12_envelopes.specs.declared.party.Party.{Party}
use Rattle.x12_numbers.specs.Book.{Numbers}
use Rattle.x12_numbers.proofs.Shelf.{all_append, all_from_map, pairs_from_map, pairs_to_map}
use Rattle.x12_numbers.specs.declared.book.TheConstants.{MAX_CONTROL_NUMBER}
use Rattle.std.proofs.lemmas.List.Sums.{sum_by-cons}
use Rattle.x12_outbound.specs.Entry.{SetRow, InterchangeRow, GroupRow, submission_of_entry, submitted_group_of_row, IsSendable}
use Rattle.x12_station.specs.Closed.{above_groups}
use Rattle.x12_station.specs.Record.{IsWholeEntry}
use Rattle.x12_station.specs.Stored.{Stored, StoredSubmission, StoredSet, IsSound, entries, entry_of_row, rows_of_entry, IsNumberedBy, rows_of_group}
use Rattle.x12_station.proofs.EntryLemmas.{entries_whole}
use Rattle.x12_station_records.proofs.StationAdoptReads.{sets_text, sets_shows, sets_names, sets_is}
use Rattle.x12_station_records.proofs.StationContentLemmas.{fate_back}
use Rattle.x12_station_records.proofs.StationGroupLemmas.{row_in, sizes}
use Rattle.x12_station_records.proofs.StationListings.{lists_all}
use Rattle.x12_station_records.proofs.StationTaken.{pairs_tail, pairs_head}
use Rattle.x12_station_records.specs.StationAdopt.{set_read, AreSetRows, AreOfAll}
use Rattle.x12_station_records.specs.StationContent.{content_of}
use Rattle.x12_station_records.specs.StationGroups.{AreSendable, rows_of_groups}
use Rattle.x12_station_records.specs.StationOpen.{are_between}
use Rattle.x12_station_records.specs.StationTables.{fate_number, IsWideSet, row_of_set}
use Rattle.x12_station_records.specs.StationTaken.{HasSetRow, AreAbove, AreRowsOfAll, HoldsStation}

-- the rows of transaction sets
abbrev set_row_shown : ℕ × StoredSet → Row
set_row_shown x =
    Int (pos x.1.group) ∷ Int (pos x.1.set) ∷ Blob x.1.functional ∷ Int (pos x.1.gcn) ∷ Blob x.1.number ∷ Int (pos (fate_number x.1.fate)) ∷ Int (pos x.1.icn) ∷ Int (pos x.0) ∷ []

sets_back : (n : ℕ) (ts : List StoredSet) → map set_read (map set_row_shown (enumerate_from n ts)) ≡ ts
sets_back n [] = refl
sets_back n (t ∷ ts) = ap₂ (λ (x : StoredSet) xs. x ∷ xs) (ap (λ f. record t { fate = f }) (fate_back t.fate)) (sets_back (n + 1) ts)

-- the numbers of a transaction set have 32 bits
abbrev IsNarrowSet : StoredSet → Type 0
IsNarrowSet t = (t.icn < 2 ^ 32) × (t.group < 2 ^ 32) × (t.set < 2 ^ 32) × (t.gcn < 2 ^ 32)

set_rows : (n : ℕ) (ts : List StoredSet) → AllByRecursion IsWideSet ts → AllByRecursion IsNarrowSet ts → (next : ℕ) × AreSetRows n next (map set_row_shown (enumerate_from n ts)) × AllByRecursion HasSetRow (map set_row_shown (enumerate_from n ts))
set_rows n [] wide narrow = (n, refl, tt)
set_rows n (t ∷ ts) wide narrow =
    let rest = set_rows (n + 1) ts wide.1 narrow.1 in
    let w : IsWideSet t = wide.0 in
    let k : IsNarrowSet t = narrow.0 in
    let fate = ap (λ f. Int (pos (fate_number f))) (sym (fate_back t.fate)) in (
      rest.0,
      (record { group = (refl, k.1); place = (refl, k.2); functional = w.functional; gcn = (refl, k.3); number = w.number; fate = fate; icn = (refl, k.0); at_is = refl }, rest.1),
      (record { group = (refl, k.1); place = (refl, k.2); functional = w.functional; gcn = (refl, k.3); number = w.number; fate = fate; icn = (refl, k.0) }, rest.2),
    )

sets_narrow : (icn n : ℕ) (g : GroupRow) (at : ℕ) (ts : List SetRow) → icn < 2 ^ 32 → n < 2 ^ 32 → g.number < 2 ^ 32 → at + length ts ≤ 2 ^ 32 → AllByRecursion IsNarrowSet (map (row_in icn n g) (enumerate_from at ts))
sets_narrow icn n g at [] a b c d = tt
sets_narrow icn n g at (t ∷ ts) a b c d = ((a, b, omega (arith, d), c), sets_narrow icn n g (at + 1) ts a b c (omega (arith, d)))

groups_narrow : (icn n : ℕ) (gs : List GroupRow) → icn < 2 ^ 32 → n + length gs ≤ 2 ^ 32 → All (λ g. g.number < 2 ^ 32) gs → All (λ g. length g.sets ≤ 400) gs → AllByRecursion IsNarrowSet (flat_map (rows_of_group icn) (enumerate_from n gs))
groups_narrow icn n [] a b c d = tt
groups_narrow icn n (g ∷ gs) a b c d =
    let few = All-head (λ (h : GroupRow). length h.sets ≤ 400) g gs d in
    all_append IsNarrowSet (map (row_in icn n g) (enumerate_from 1 g.sets)) (flat_map (rows_of_group icn) (enumerate_from (n + 1) gs))
    (sets_narrow icn n g 1 g.sets a (omega (arith, b)) (All-head (λ (h : GroupRow). h.number < 2 ^ 32) g gs c) (omega (arith, few)))
    (groups_narrow icn (n + 1) gs a (omega (arith, b)) (All-tail (λ (h : GroupRow). h.number < 2 ^ 32) g gs c) (All-tail (λ (h : GroupRow). length h.sets ≤ 400) g gs d))

each_few : (most : ℕ) (gs : List GroupRow) → sum_by (λ (g : GroupRow). length g.sets) gs ≤ most → All (λ g. length g.sets ≤ most) gs
each_few most [] few = All-nil (λ g. length g.sets ≤ most)
each_few most (g ∷ gs) few =
    let sum = sum_by-cons (λ (h : GroupRow). length h.sets) g gs in
    All-cons (λ h. length h.sets ≤ most) g gs (omega (arith, few, sum)) (each_few most gs (omega (arith, few, sum)))

entries_narrow : (book : Numbers) (es : List InterchangeRow) → book.interchange ≤ MAX_CONTROL_NUMBER → book.group ≤ MAX_CONTROL_NUMBER → All (IsNumberedBy book) es → All (λ e. AreSendable e.groups) es → AllByRecursion IsNarrowSet (flat_map rows_of_entry es)
unfolding rows_of_entry
entries_narrow book [] icn gcn used can = tt
entries_narrow book (e ∷ es) icn gcn used can =
    let u : IsNumberedBy book e = All-head (IsNumberedBy book) e es used in
    let s : AreSendable e.groups = All-head (λ (f : InterchangeRow). AreSendable f.groups) e es can in
    all_append IsNarrowSet (flat_map (rows_of_group e.icn) (enumerate_from 1 e.groups)) (flat_map (λ (f : InterchangeRow). flat_map (rows_of_group f.icn) (enumerate_from 1 f.groups)) es)
    (groups_narrow e.icn 1 e.groups (omega (arith, u.interchange, icn)) (omega (arith, s.few_groups)) (λ k g at. let low = u.groups k g at in omega (arith, low, gcn)) (each_few 400 e.groups s.few_sets))
    (entries_narrow book es icn gcn (All-tail (IsNumberedBy book) e es used) (All-tail (λ (f : InterchangeRow). AreSendable f.groups) e es can))

-- One submission after the other.
-- what can be sent has groups that are sendable
can_be_sent : (me : Party) (e : InterchangeRow) → IsSendable (submission_of_entry me e) → AreSendable e.groups
can_be_sent me e can = record {
  has_group = omega (arith, can.has_group, length-map e.groups submitted_group_of_row);
  groups_rise = pairs_from_map submitted_group_of_row (λ g h. g.number < h.number) e.groups can.groups_rise;
  few_groups = omega (arith, can.few_groups, length-map e.groups submitted_group_of_row);
  few_sets = omega (arith, can.few_sets, sizes e.groups);
}

between : (least most : ℕ) (gs : List GroupRow) → All (λ g. least ≤ g.number) gs → All (λ g. g.number ≤ most) gs → are_between least most gs ≡ true
between least most [] low high = refl
between least most (g ∷ gs) low high =
    let a = All-head (λ (h : GroupRow). least ≤ h.number) g gs low in
    let b = All-head (λ (h : GroupRow). h.number ≤ most) g gs high in
    let first : nat_le least g.number ≡ true = grind (arith, nat_tests, a) in
    let second : nat_le g.number most ≡ true = grind (arith, nat_tests, b) in
    rw (first, second) (between least most gs (All-tail (λ (h : GroupRow). least ≤ h.number) g gs low) (All-tail (λ (h : GroupRow). h.number ≤ most) g gs high))

above_least : (most : ℕ) (gs : List GroupRow) → All (λ g. g.number < most) gs → above_groups gs ≤ most
above_least most [] below = omega arith
above_least most (g ∷ gs) below = let a = All-head (λ (h : GroupRow). h.number < most) g gs below in let rest = above_least most gs (All-tail (λ (h : GroupRow). h.number < most) g gs below) in omega (arith, a, rest)

module _ {X : Type 0} where
  front_taken : (xs ys : List X) → take (length xs) (xs ++ ys) ≡ xs
  front_taken [] [] = refl
  front_taken [] (y ∷ ys) = refl
  front_taken (x ∷ xs) ys = ap (λ zs. x ∷ zs) (front_taken xs ys)

  front_dropped : (xs ys : List X) → drop (length xs) (xs ++ ys) ≡ ys
  front_dropped [] [] = refl
  front_dropped [] (y ∷ ys) = refl
  front_dropped (x ∷ xs) ys = front_dropped xs ys

-- each group of the one has a number below those of the other
abbrev AreLower : InterchangeRow → InterchangeRow → Type 0
AreLower e f = All (λ g. All (λ h. g.number < h.number) f.groups) e.groups

of_all : (book : Numbers) (least : ℕ) (es : List InterchangeRow) → All IsWholeEntry es → All (λ e. AreSendable e.groups) es → All (λ e. All (λ g. g.number ≤ book.group) e.groups) es → All (λ e. All (λ g. least ≤ g.number) e.groups) es → AllPairs AreLower es
    → AreOfAll book least (map (λ (e : InterchangeRow). e.icn) es) (flat_map rows_of_entry es)
unfolding rows_of_entry
of_all book least [] whole can used low lower = refl
of_all book least (e ∷ es) whole can used low lower =
    let own = rows_of_groups e.icn e.groups in
    let later = flat_map (λ (f : InterchangeRow). rows_of_groups f.icn f.groups) es in
    let next = max least (above_groups e.groups) in
    let w : IsWholeEntry e = All-head IsWholeEntry e es whole in
    let up : All (λ f. All (λ g. next ≤ g.number) f.groups) es = λ k f at j h inside.
    let above : above_groups e.groups ≤ (get_or (get_or es k f).groups j h).number = above_least (get_or (get_or es k f).groups j h).number e.groups (λ i g within. lower 0 (suc k) f (omega arith) (omega arith) i g within j h inside) in
    let from = All-tail (λ (f : InterchangeRow). All (λ g. least ≤ g.number) f.groups) e es low k f at j h inside in
    omega (arith, above, from) in (
      length own,
      next,
      record {
        groups = e.groups;
        rows_are = sym (front_taken own later);
        whole = record { laid = w.laid; sets = w.sets };
        sendable = All-head (λ (f : InterchangeRow). AreSendable f.groups) e es can;
        used = between least book.group e.groups (All-head (λ (f : InterchangeRow). All (λ g. least ≤ g.number) f.groups) e es low) (All-head (λ (f : InterchangeRow). All (λ g. g.number ≤ book.group) f.groups) e es used);
        next_is = refl;
      },
      subst (AreOfAll book next (map (λ (f : InterchangeRow). f.icn) es)) (sym (front_dropped own later))
          (of_all book next es (All-tail IsWholeEntry e es whole) (All-tail (λ (f : InterchangeRow). AreSendable f.groups) e es can) (All-tail (λ (f : InterchangeRow). All (λ g. g.number ≤ book.group) f.groups) e es used) up
          (λ i j d before within. lower (suc i) (suc j) d (omega arith) (omega arith))),
    )

-- the numbers of sound records' transaction sets have 32 bits
sound_narrow : (s : Stored) → IsSound s → s.book.interchange ≤ MAX_CONTROL_NUMBER → s.book.group ≤ MAX_CONTROL_NUMBER → AllByRecursion IsNarrowSet s.sets
sound_narrow s sound icn gcn =
    let me = s.origin.me in
    let es = entries s in
    let can : All (λ e. AreSendable e.groups) es = λ k e at. can_be_sent me (get_or es k e) (all_from_map (submission_of_entry me) IsSendable es (sound.in_order me).sendable k e at) in
    subst (AllByRecursion IsNarrowSet) (sym sound.rows) (entries_narrow s.book es icn gcn sound.used can)

-- the transaction sets of sound records are those of their submissions, one after the other
pub sound_of_all : (s : Stored) → IsSound s → AreOfAll s.book 0 (map (λ (e : InterchangeRow). e.icn) (entries s)) s.sets
sound_of_all s sound =
    let me = s.origin.me in
    let es = entries s in
    let order = sound.in_order me in
    let can : All (λ e. AreSendable e.groups) es = λ k e at. can_be_sent me (get_or es k e) (all_from_map (submission_of_entry me) IsSendable es order.sendable k e at) in
    let before = pairs_from_map (submission_of_entry me) IsBefore es order.before in
    let lower : AllPairs AreLower es = λ i j d low high. λ a g within. λ b h inside.
    all_from_map submitted_group_of_row (λ x. (submitted_group_of_row (get_or (get_or es i d).groups a g)).number < x.number) (get_or es j d).groups
    (all_from_map submitted_group_of_row (λ y. All (λ x. y.number < x.number) (map submitted_group_of_row (get_or es j d).groups)) (get_or es i d).groups (before i j d low high).groups a g within) b h inside in
    subst (AreOfAll s.book 0 (map (λ (e : InterchangeRow). e.icn) es)) (sym sound.rows)
    (of_all s.book 0 es (entries_whole s sound) can (λ k e at. (sound.used k e at).groups) (λ k e at j h inside. omega arith) lower)

rising_above : (last : ℕ) (ns : List ℕ) → All (λ n. last < n) ns → AllPairs (λ m n. m < n) ns → AreAbove last ns
rising_above last [] above rise = tt
rising_above last (n ∷ ns) above rise =
    (All-head (λ k. last < k) n ns above, rising_above n ns (pairs_head (λ (k : ℕ). k) n ns rise) (pairs_tail (λ (k : ℕ). k) n ns rise))

same_numbers : (sets : List StoredSet) (rs : List StoredSubmission) → map (λ (e : InterchangeRow). e.icn) (map (entry_of_row sets) rs) ≡ map (λ (r : StoredSubmission). r.icn) rs
same_numbers sets [] = refl
same_numbers sets (r ∷ rs) = ap (λ ns. r.icn ∷ ns) (same_numbers sets rs)

module _ (old new : State) (h : HoldsStation old.now) (rows : List Row) where
  abbrev Kept : Stored
  Kept = content_of old.now.trees

  abbrev icns : List ℕ
  icns = map (λ (r : StoredSubmission). r.icn) Kept.submitted

  pub sets_taken : Shown sets_text [] old new rows → (next : ℕ) × AreSetRows 1 next rows × AreRowsOfAll Kept.book icns rows
  unfolding entries
  sets_taken shown =
      let exact = lists_all sets_text old new h.holds.has.schema 4 sets_shows sets_names sets_is row_of_set (enumerate_from 1 Kept.sets) h.holds.has.sets set_row_shown (λ x. refl) rows shown in
      let got = set_rows 1 Kept.sets h.holds.has.wide (sound_narrow Kept h.sound h.holds.has.numbers.book.0 h.holds.has.numbers.book.1) in
      let back : map set_read rows ≡ Kept.sets = ap (map set_read) exact ∙ sets_back 1 Kept.sets in
      let above : All (λ n. 0 < n) icns = all_map_of in
      let all = subst (λ ns. AreOfAll Kept.book 0 ns Kept.sets) (same_numbers Kept.sets Kept.submitted) (sound_of_all Kept h.sound) in (
        got.0,
        subst (AreSetRows 1 got.0) (sym exact) got.1,
        record {
          wide = subst (AllByRecursion HasSetRow) (sym exact) got.2;
          above = rising_above 0 icns above (pairs_to_map (λ (r : StoredSubmission). r.icn) (λ m n. m < n) Kept.submitted h.holds.has.submitted.rise);
          all = subst (AreOfAll Kept.book 0 icns) (sym back) all;
        },
      )
    where
      all_map_of : All (λ n. 0 < n) icns
      all_map_of = All-map (λ n. 0 < n) (λ (r : StoredSubmission). r.icn) Kept.submitted (λ k d at. All-from_recursion (λ (r : StoredSubmission). 0 < r.icn) Kept.submitted h.holds.has.submitted.numbered k d at)
