-- The open submissions as they are loaded, one after the other.
use Rattle.std.proofs.Common.{if◌then◌else◌, ◌≡◌, ◌≢◌, ◌<◌, ◌≤◌, ◌+◌, ◌==◌, ◌&&◌, ◌||◌, ◌++◌, ◌∙◌, max, nat_le, zero, suc, ℕ, pos, Bool, true, false, List, [], ◌∷◌, codes, length, get_or, drop, map, filter, find, flat_map, Some, Result, Ok, Err, OnOk, All, AllPairs, refl, sym, ap, ap₂, subst, inl, inr, arith, append-nil, append_assoc}
use Rattle.std.specs.Prelude.{option_to_list}
use Rattle.std.specs.List.{AllByRecursion, enumerate_from, list_any}
use Rattle.std.proofs.lemmas.Bool.{cases_Bool, and_parts}
use Rattle.std.proofs.lemmas.Bool.Decides.{nat_tests}
use Rattle.std.proofs.lemmas.List.{map-append}
use Rattle.std.proofs.lemmas.List.Elements.{All-cons, All-nil, All-head, All-tail, All-map, filter-append}
use Rattle.sqlite.specs.Command.TheVariants.{Select}
use Rattle.sqlite.specs.Listing.{understood, reads_listing}
use Rattle.sqlite.specs.declared.types.Value.TheVariants.{Int}
use Rattle.sqlite.specs.Order.{Row}
use Rattle.sqlite.specs.State.{State, Shown}
use Rattle.sqlite.specs.Term.{Term, col}
use Rattle.sqlite.proofs.Callers.{IsPlain, command_of}
use Rattle.sqlite_tied.specs.Compute.{everything}
use Rattle.sql_rows.proofs.Selects.{one_table}
use Rattle.sql_rows.proofs.Tests.{int_test}
use Rattle.sql_rows.specs.Query.{IsQuery}
use Rattle.sql_rows.proofs.Queries.{select_asks}
use Rattle.x12_acks.specs.Submission.{IsBefore, SubmittedGroup}
use Rattle.x12_envelopes.specs.declared.party.Party.{Party}
use Rattle.x12_inbound.proofs.PutLemmas.{all_pairs_append}
use Rattle.x12_numbers.specs.Book.{Numbers}
use Rattle.x12_outbound.specs.declared.fate.Fate.{Fate}
use Rattle.x12_outbound.specs.declared.entry.Entry.{Entry}
use Rattle.x12_outbound.specs.Entry.{InterchangeRow, GroupRow, SetRow, entry_row, group_row, row_is_open, submission_of_entry, submitted_group_of_row, IsSendable}
use Rattle.x12_outbound.specs.Fate.{is_pending}
use Rattle.x12_station.specs.Closed.{above_groups}
use Rattle.x12_station.specs.Record.{HasNoneOut}
use Rattle.x12_station.specs.Stored.{Stored, StoredSet, IsSound, IsNumberedBy, entries, open_entries, rows_of_group, rows_of_entry}
use Rattle.x12_station.proofs.EntryLemmas.{NumbersRise, rise_head, rise_tail, entries_rise}
use Rattle.x12_numbers.proofs.Shelf.{all_push, drop_at_place}
use Rattle.x12_tables.proofs.KeyLemmas.{is}
use Rattle.x12_station_records.proofs.StationListings.{by_at, lists_some}
use Rattle.x12_station_records.specs.StationEntries.{IsFit, entry_numbered}
use Rattle.x12_station_records.specs.StationOpen.{open_numbers, number_shown, are_between, AreBelow, AreOpen, MayFollow, IsOpened, Pushes, entries_by}
use Rattle.x12_station_records.specs.StationSchema.{station_schema}
use Rattle.x12_station_records.specs.StationTables.{fate_number, row_of_set, HasTables}
use Rattle.x12_station_records.specs.declared.station_loading.Opened.{Opened}
use Rattle.x12_outbound.specs.declared.fate.Fate.TheVariants.{Pending, Accepted, Noted, Rejected}

abbrev pub open_text : List ℕ
open_text = codes "SELECT icn FROM outset WHERE fate = ?1 ORDER BY at"

abbrev open_wheres : List Term
open_wheres = is 8 0 ∷ []

abbrev open_shows : List Term
open_shows = col 1 2 ∷ []

pub open_is : (command_of (understood station_schema open_text) ≡ Select (record { lets = []; body = one_table 4 open_wheres open_shows by_at }) (codes "icn" ∷ [])) × (reads_listing station_schema open_text ≡ false) × IsPlain (understood station_schema open_text)
unfolding understood everything
open_is = (refl, refl, (refl, refl))

pub open_asks : IsQuery open_text
unfolding everything
open_asks = select_asks open_text ((λ s base. refl), (λ s. refl))

pending_test : (f : Fate) → (fate_number f == 0) && true ≡ is_pending f
pending_test Pending = refl
pending_test Accepted = refl
pending_test Rejected = refl
pending_test Noted = refl

abbrev pends : ℕ × StoredSet → Bool
pends x = is_pending x.1.fate

abbrev number_row : ℕ × StoredSet → Row
number_row x = Int (pos x.1.icn) ∷ []

numbers_back : (n : ℕ) (ts : List StoredSet) → map number_shown (map number_row (filter pends (enumerate_from n ts))) ≡ open_numbers ts
numbers_back n [] = refl
numbers_back n (t ∷ ts) = elim (cases_Bool (is_pending t.fate)) [
  | inl yes1 ↦ rw (yes1, numbers_back (n + 1) ts) refl
  | inr no1 ↦ rw no1 (numbers_back (n + 1) ts)
]

pub loads_open : (old new : State) (next : ℕ) (rows : List Row) (s : Stored) → HasTables next old.now s → Shown open_text (Int (pos 0) ∷ []) old new rows → map number_shown rows ≡ open_numbers s.sets
loads_open old new next rows s has h =
    ap (map number_shown) (lists_some open_text (Int (pos 0) ∷ []) old new has.schema 4 open_wheres open_shows (codes "icn" ∷ []) open_is row_of_set (enumerate_from 1 s.sets) has.sets pends number_row (λ x. rw (int_test (fate_number x.1.fate) 0) (pending_test x.1.fate)) (λ x. refl) rows h)
    ∙ numbers_back 1 s.sets

-- One more behind the others.
pub map_last : {X Y : Type 0} (f : X → Y) (xs : List X) (x : X) → map f (xs ++ x ∷ []) ≡ map f xs ++ f x ∷ []
map_last f xs x = map-append f xs (x ∷ [])

pub all_between : (least most : ℕ) (gs : List GroupRow) → are_between least most gs ≡ true → All (λ g. (least ≤ g.number) × (g.number ≤ most)) gs
all_between least most [] h = All-nil (λ g. (least ≤ g.number) × (g.number ≤ most))
all_between least most (g ∷ gs) h =
    let parts = and_parts (nat_le least g.number && nat_le g.number most) (are_between least most gs) h in
    let ends = and_parts (nat_le least g.number) (nat_le g.number most) parts.0 in
    let low : least ≤ g.number = grind (arith, nat_tests, ends.0) in
    let high : g.number ≤ most = grind (arith, nat_tests, ends.1) in
    All-cons (λ g. (least ≤ g.number) × (g.number ≤ most)) g gs (low, high) (all_between least most gs parts.1)

pub below_above : (gs : List GroupRow) → All (λ g. g.number < above_groups gs) gs
below_above [] = All-nil (λ g. g.number < 0)
below_above (g ∷ gs) = All-cons (λ h. h.number < above_groups (g ∷ gs)) g gs (omega arith) (λ i d within. let later = below_above gs i d within in omega (arith, later))

module _ (book : Numbers) (icn gcn : ℕ) (es : List InterchangeRow) (e : InterchangeRow) (open1 : AreOpen book es) (below : AreBelow icn gcn es) (fit : IsFit e) (follows : MayFollow book icn gcn e) where
  ends : All (λ g. (gcn ≤ g.number) × (g.number ≤ book.group)) e.groups
  ends = all_between gcn book.group e.groups follows.groups

  before_it : (me : Party) (d : InterchangeRow) → d.icn < icn → All (λ g. g.number < gcn) d.groups → IsBefore (submission_of_entry me d) (submission_of_entry me e)
  before_it me d low groups = record {
    interchange = let up = follows.number in omega (arith, low, up);
    groups =
        All-map (λ (g : SubmittedGroup). All (λ h. g.number < h.number) (map submitted_group_of_row e.groups)) submitted_group_of_row d.groups
        (λ i x within. All-map (λ (h : SubmittedGroup). (submitted_group_of_row (get_or d.groups i x)).number < h.number) submitted_group_of_row e.groups (λ j y inside. let a = groups i x within in let b = (ends j y inside).0 in omega (arith, a, b)));
  }

  pub push_open : AreOpen book (es ++ e ∷ [])
  push_open = record {
    in_order = λ me. record {
      sendable = subst (All IsSendable) (sym (map_last (submission_of_entry me) es e)) (all_push IsSendable (map (submission_of_entry me) es) (submission_of_entry me e) (open1.in_order me).sendable (fit.sendable me));
      before = subst (AllPairs IsBefore) (sym (map_last (submission_of_entry me) es e))
          (all_pairs_append IsBefore (map (submission_of_entry me) es) (submission_of_entry me e ∷ []) (open1.in_order me).before (λ i j d before within. absurd (omega (arith, before, within)))
          (All-map (λ d. All (IsBefore d) (submission_of_entry me e ∷ [])) (submission_of_entry me) es (λ i d within. All-cons (IsBefore (submission_of_entry me (get_or es i d))) (submission_of_entry me e) [] (before_it me (get_or es i d) (below.numbers i d within) (below.groups i d within)) (All-nil (IsBefore (submission_of_entry me (get_or es i d)))))));
    };
    used = all_push (IsNumberedBy book) es e open1.used (record { interchange = follows.used; groups = λ i d within. (ends i d within).1 });
    laid = all_push HasNoneOut es e open1.laid fit.laid;
    pending = all_push (λ x. row_is_open x ≡ true) es e open1.pending follows.pending;
  }

  pub push_below : AreBelow (e.icn + 1) (max gcn (above_groups e.groups)) (es ++ e ∷ [])
  push_below = record {
    numbers = all_push (λ x. x.icn < e.icn + 1) es e (λ i d within. let low = below.numbers i d within in let up = follows.number in omega (arith, low, up)) (omega arith);
    groups = all_push (λ x. All (λ g. g.number < max gcn (above_groups e.groups)) x.groups) es e
        (λ i d within. λ j x inside. let low = below.groups i d within j x inside in omega (arith, low))
        (λ j x inside. let low = below_above e.groups j x inside in omega (arith, low));
  }

-- the code's values
module _ (book : Numbers) (old new : Opened) (e : Entry) (is1 : new.entries.items ≡ old.entries.items ++ e ∷ []) (icn : new.icn ≡ e.icn + 1) where
  pub pushes : Pushes (entry_row e) old new
  pushes = record { entries = ap (map entry_row) is1 ∙ map_last entry_row old.entries.items e; next = icn }

  pub pushed : new.gcn ≡ max old.gcn (above_groups (map group_row e.groups.items)) → IsOpened book old → IsFit (entry_row e) → MayFollow book old.icn old.gcn (entry_row e) → IsOpened book new
  pushed gcn holds fit follows =
      let items = pushes.entries in record {
        are_open = subst (AreOpen book) (sym items) (push_open book old.icn old.gcn (map entry_row old.entries.items) (entry_row e) holds.are_open holds.below fit follows);
        below = rw (icn, gcn, items) (push_below book old.icn old.gcn (map entry_row old.entries.items) (entry_row e) holds.are_open holds.below fit follows);
      }

pub on_ok : {A E : Type 0} {P Q : Type 0} (r : Result A E) → (P → Q) → OnOk r P → OnOk r Q
on_ok (Ok a) f h = f h
on_ok (Err e) f h = tt

pub none_open : (book : Numbers) → AreOpen book []
none_open book = record {
  in_order = λ me. record { sendable = All-nil IsSendable; before = λ i j d before within. absurd (omega (arith, within)) };
  used = All-nil (IsNumberedBy book);
  laid = All-nil HasNoneOut;
  pending = All-nil (λ x. row_is_open x ≡ true);
}

pub none_below : AreBelow 0 0 []
none_below = record { numbers = All-nil (λ x. x.icn < 0); groups = All-nil (λ x. All (λ g. g.number < 0) x.groups) }

-- What was loaded, and what is left.
pub loaded_before_test : (s : Stored) (least n : ℕ) (ns : List ℕ) → (n + 1 == least) ≡ true → entries_by s least ns ≡ entries_by s least (n ∷ ns)
loaded_before_test s least n ns test = rw test refl

pub taken_next : (s : Stored) (old new : Opened) (e : InterchangeRow) (n : ℕ) (ns : List ℕ) → Pushes e old new → (n + 1 == old.icn) ≡ false → e.icn ≡ n → Some e ≡ entry_numbered s n
    → map entry_row new.entries.items ++ entries_by s new.icn ns ≡ map entry_row old.entries.items ++ entries_by s old.icn (n ∷ ns)
taken_next s old new e n ns pushed1 test is1 found =
    let es = map entry_row old.entries.items in
    ap₂ (λ xs m. xs ++ entries_by s m ns) pushed1.entries pushed1.next
    ∙ append_assoc es (e ∷ []) (entries_by s (e.icn + 1) ns) ∙ ap (λ m. es ++ e ∷ entries_by s (m + 1) ns) is1
    ∙ ap (λ o. es ++ (option_to_list o ++ entries_by s (n + 1) ns)) found ∙ rw test refl

-- All open submissions.
module _ (s : Stored) where
  -- a number that stands behind itself adds nothing
  skipped : (n : ℕ) (xs rest : List ℕ) → AllByRecursion (λ m. m ≡ n) xs → entries_by s (n + 1) (xs ++ rest) ≡ entries_by s (n + 1) rest
  skipped n [] rest h = refl
  skipped n (x ∷ xs) rest h = let test : (x + 1 == n + 1) ≡ true = grind (arith, nat_tests, h.0) in rw test (skipped n xs rest h.1)

  all_joined : {X : Type 0} (P : X → Type 0) (xs ys : List X) → AllByRecursion P xs → AllByRecursion P ys → AllByRecursion P (xs ++ ys)
  all_joined P [] ys h k = k
  all_joined P (x ∷ xs) ys h k = (h.0, all_joined P xs ys h.1 k)

  in_group : (icn n : ℕ) (g : GroupRow) (ys : List (ℕ × SetRow)) → AllByRecursion (λ (t : StoredSet). t.icn ≡ icn) (map (λ (x : ℕ × SetRow). record { icn = icn; group = n; set = x.0; functional = g.functional; gcn = g.number; number = x.1.number; fate = x.1.fate }) ys)
  in_group icn n g [] = tt
  in_group icn n g (y ∷ ys) = (refl, in_group icn n g ys)

  in_groups : (icn n : ℕ) (gs : List GroupRow) → AllByRecursion (λ (t : StoredSet). t.icn ≡ icn) (flat_map (rows_of_group icn) (enumerate_from n gs))
  in_groups icn n [] = tt
  in_groups icn n (g ∷ gs) = all_joined (λ (t : StoredSet). t.icn ≡ icn) (rows_of_group icn (n, g)) (flat_map (rows_of_group icn) (enumerate_from (n + 1) gs)) (in_group icn n g (enumerate_from 1 g.sets)) (in_groups icn (n + 1) gs)

  numbers_kept_of : (icn : ℕ) (ts : List StoredSet) → AllByRecursion (λ t. t.icn ≡ icn) ts → AllByRecursion (λ m. m ≡ icn) (open_numbers ts)
  numbers_kept_of icn [] h = tt
  numbers_kept_of icn (t ∷ ts) h = elim (cases_Bool (is_pending t.fate)) [
    | inl yes1 ↦ rw yes1 (h.0, numbers_kept_of icn ts h.1)
    | inr no1 ↦ rw no1 (numbers_kept_of icn ts h.1)
  ]

  any_joined : {X : Type 0} (p : X → Bool) (xs ys : List X) → list_any p (xs ++ ys) ≡ (if list_any p xs then true else list_any p ys)
  any_joined p [] ys = refl
  any_joined p (x ∷ xs) ys = elim (cases_Bool (p x)) [
    | inl yes1 ↦ rw yes1 refl
    | inr no1 ↦ rw no1 (any_joined p xs ys)
  ]

  pending_in : (icn n from : ℕ) (g : GroupRow) (ss : List SetRow) → list_any (λ (t : StoredSet). is_pending t.fate) (map (λ (x : ℕ × SetRow). record { icn = icn; group = n; set = x.0; functional = g.functional; gcn = g.number; number = x.1.number; fate = x.1.fate }) (enumerate_from from ss)) ≡ list_any (λ (x : SetRow). is_pending x.fate) ss
  pending_in icn n from g [] = refl
  pending_in icn n from g (x ∷ ss) = elim (cases_Bool (is_pending x.fate)) [
    | inl yes1 ↦ rw yes1 refl
    | inr no1 ↦ rw no1 (pending_in icn n (from + 1) g ss)
  ]

  either : (b c : Bool) → (if b then true else c) ≡ b || c
  either true c = refl
  either false c = refl

  pending_among : (icn n : ℕ) (gs : List GroupRow) → list_any (λ (t : StoredSet). is_pending t.fate) (flat_map (rows_of_group icn) (enumerate_from n gs)) ≡ list_any (λ (g : GroupRow). list_any (λ (x : SetRow). is_pending x.fate) g.sets) gs
  pending_among icn n [] = refl
  pending_among icn n (g ∷ gs) =
      any_joined (λ (t : StoredSet). is_pending t.fate) (rows_of_group icn (n, g)) (flat_map (rows_of_group icn) (enumerate_from (n + 1) gs))
      ∙ ap₂ (λ b c. if b then true else c) (pending_in icn n 1 g g.sets) (pending_among icn (n + 1) gs)
      ∙ (either (list_any (λ (x : SetRow). is_pending x.fate) g.sets) (list_any (λ (g : GroupRow). list_any (λ (x : SetRow). is_pending x.fate) g.sets) gs))

  none_pending : (ts : List StoredSet) → list_any (λ (t : StoredSet). is_pending t.fate) ts ≡ false → open_numbers ts ≡ []
  none_pending [] h = refl
  none_pending (t ∷ ts) h = elim (cases_Bool (is_pending t.fate)) [
    | inl yes1 ↦ absurd (let e = rw yes1 at h in cc)
    | inr no1 ↦ rw no1 (none_pending ts (rw no1 at h))
  ]

  some_pending : (ts : List StoredSet) → list_any (λ (t : StoredSet). is_pending t.fate) ts ≡ true → open_numbers ts ≢ []
  some_pending [] h none = absurd cc
  some_pending (t ∷ ts) h none = elim (cases_Bool (is_pending t.fate)) [
    | inl yes1 ↦ absurd (let e = rw yes1 at none in cc)
    | inr no1 ↦ some_pending ts (rw no1 at h) (rw no1 at none)
  ]

  -- the submissions of the numbers of one's pending sets, and then others
  of_one : (least : ℕ) (e : InterchangeRow) (xs rest : List ℕ) → least ≤ e.icn → Some e ≡ entry_numbered s e.icn → AllByRecursion (λ m. m ≡ e.icn) xs → xs ≢ [] → entries_by s least (xs ++ rest) ≡ e ∷ entries_by s (e.icn + 1) rest
  of_one least e [] rest low found all some = absurd (some refl)
  of_one least e (x ∷ xs) rest low found all some =
      let test : (x + 1 == least) ≡ false = grind (arith, nat_tests, low, all.0) in
      let first : entries_by s least ((x ∷ xs) ++ rest) ≡ option_to_list (entry_numbered s x) ++ entries_by s (x + 1) (xs ++ rest) = rw test refl in
      first ∙ ap (λ n. option_to_list (entry_numbered s n) ++ entries_by s (n + 1) (xs ++ rest)) all.0
      ∙ ap (λ o. option_to_list o ++ entries_by s (e.icn + 1) (xs ++ rest)) (sym found)
      ∙ ap (λ es. e ∷ es) (skipped e.icn xs rest all.1)

  open_of : (least : ℕ) (es : List InterchangeRow) → NumbersRise es → All (λ e. Some e ≡ entry_numbered s e.icn) es → All (λ e. least ≤ e.icn) es → entries_by s least (open_numbers (flat_map rows_of_entry es)) ≡ filter row_is_open es
  unfolding rows_of_entry
  open_of least [] rise found low = refl
  open_of least (e ∷ es) rise found low =
      let parts : open_numbers (rows_of_entry e ++ flat_map rows_of_entry es) ≡ open_numbers (rows_of_entry e) ++ open_numbers (flat_map rows_of_entry es) =
      ap (map (λ (t : StoredSet). t.icn)) (filter-append (λ (t : StoredSet). is_pending t.fate) (rows_of_entry e) (flat_map rows_of_entry es)) ∙ map-append (λ (t : StoredSet). t.icn) (filter (λ t. is_pending t.fate) (rows_of_entry e)) (filter (λ t. is_pending t.fate) (flat_map rows_of_entry es)) in
      let later = All-tail (λ e. Some e ≡ entry_numbered s e.icn) e es found in
      let pends1 = pending_among e.icn 1 e.groups in
      ap (entries_by s least) parts ∙ elim (cases_Bool (row_is_open e)) [
        | inl yes1 ↦ of_one least e (open_numbers (rows_of_entry e)) (open_numbers (flat_map rows_of_entry es)) (All-head (λ e. least ≤ e.icn) e es low) (All-head (λ e. Some e ≡ entry_numbered s e.icn) e es found) (numbers_kept_of e.icn (rows_of_entry e) (in_groups e.icn 1 e.groups)) (some_pending (rows_of_entry e) (pends1 ∙ yes1))
            ∙ ap (λ more. e ∷ more) (open_of (e.icn + 1) es (rise_tail e es rise) later (λ k d within. let up = rise_head e es rise k d within in omega (arith, up)))
            ∙ rw yes1 refl
        | inr no1 ↦ ap (λ xs. entries_by s least (xs ++ open_numbers (flat_map rows_of_entry es))) (none_pending (rows_of_entry e) (pends1 ∙ no1))
            ∙ open_of least es (rise_tail e es rise) later (All-tail (λ e. least ≤ e.icn) e es low)
            ∙ rw no1 refl
      ]

  found_first : (e : InterchangeRow) (es : List InterchangeRow) → NumbersRise (e ∷ es) → (f : InterchangeRow) → e.icn < f.icn → find (λ (x : InterchangeRow). x.icn == f.icn) (e ∷ es) ≡ find (λ (x : InterchangeRow). x.icn == f.icn) es
  found_first e es rise f low = let other : (e.icn == f.icn) ≡ false = grind (arith, nat_tests, low) in rw other refl

  all_found : (es : List InterchangeRow) → NumbersRise es → All (λ e. Some e ≡ find (λ (x : InterchangeRow). x.icn == e.icn) es) es
  all_found [] rise = All-nil (λ e. Some e ≡ find (λ (x : InterchangeRow). x.icn == e.icn) [])
  all_found (e ∷ es) rise =
      let self : (e.icn == e.icn) ≡ true = grind (arith, nat_tests) in
      All-cons (λ f. Some f ≡ find (λ (x : InterchangeRow). x.icn == f.icn) (e ∷ es)) e es (rw self refl)
      (λ k d within. all_found es (rise_tail e es rise) k d within ∙ sym (found_first e es rise (get_or es k d) (rise_head e es rise k d within)))

  pub open_are : IsSound s → entries_by s 0 (open_numbers s.sets) ≡ open_entries s
  open_are sound =
      ap (λ ts. entries_by s 0 (open_numbers ts)) sound.rows
      ∙ open_of 0 (entries s) (entries_rise s sound) (all_found (entries s) (entries_rise s sound)) (λ k d within. omega arith)

ended : (i : ℕ) (xs : List ℕ) → length xs ≤ i → drop i xs ≡ []
ended zero [] low = refl
ended (suc i) [] low = refl
ended zero (x ∷ xs) low = absurd (omega (arith, low))
ended (suc i) (x ∷ xs) low = ended i xs (omega (arith, low))

pub step_left : (t s : Stored) (old new : Opened) (i : ℕ) (xs : List ℕ) → i < length xs → map entry_row new.entries.items ++ entries_by t new.icn (drop (i + 1) xs) ≡ map entry_row old.entries.items ++ entries_by t old.icn (get_or xs i 0 ∷ drop (i + 1) xs)
    → t ≡ s → map entry_row old.entries.items ++ entries_by s old.icn (drop i xs) ≡ entries_by s 0 xs → map entry_row new.entries.items ++ entries_by s new.icn (drop (i + 1) xs) ≡ entries_by s 0 xs
step_left t s old new i xs low step same so_far =
    ap (λ u. map entry_row new.entries.items ++ entries_by u new.icn (drop (i + 1) xs)) (sym same)
    ∙ step ∙ ap (λ u. map entry_row old.entries.items ++ entries_by u old.icn (get_or xs i 0 ∷ drop (i + 1) xs)) same
    ∙ ap (λ ns. map entry_row old.entries.items ++ entries_by s old.icn ns) (sym (drop_at_place i xs low)) ∙ so_far

pub none_left : (s : Stored) (o : Opened) (i : ℕ) (xs : List ℕ) → length xs ≤ i → map entry_row o.entries.items ++ entries_by s o.icn (drop i xs) ≡ entries_by s 0 xs → map entry_row o.entries.items ≡ entries_by s 0 xs
none_left s o i xs low so_far = sym (append-nil (map entry_row o.entries.items)) ∙ ap (λ ns. map entry_row o.entries.items ++ entries_by s o.icn ns) (sym (ended i xs low)) ∙ so_far
