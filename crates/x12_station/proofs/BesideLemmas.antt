-- A ledger of closed submissions beside the station's, and what one more makes of it.
use Rattle.std.specs.Prelude.{◌≡◌, ◌≢◌, ℕ, zero, suc, ◌-◌, ◌+◌, ◌<◌, ◌≤◌, ◌==◌, ◌&&◌, max, nat_le, List, [], ◌∷◌, ◌++◌, Bool, true, false, if◌then◌else◌, map, Option, Some, None, is_some, option_map, option_and_then, option_to_list, slice_get, Contains, refl, ◌⊎◌, AllPairs}
use Rattle.std.specs.List.{list_any, list_all}
use mathlib.Core.Path.{sym, ap, subst, ◌∙◌}
use mathlib.Core.Logic.{inl, inr}
use native.Mathlib.Omega.{arith}
use Rattle.std.proofs.Common.{drop, get_or, length, eqb-true}
use Rattle.std.proofs.lemmas.List.{append-nil, map-append}
use Rattle.std.proofs.lemmas.List.Elements.{All-contains, Contains-push_cases, Contains-append_cases, Contains-append_left, Contains-push}
use Rattle.x12_station.specs.Record.{IsSoundClosed}
use Rattle.x12_station.proofs.SeqLemmas.{pairs_head, pairs_tail}
use Rattle.std.proofs.lemmas.Bool.Decides.{eqb_tells, nat_tests}
use Rattle.x12_judge.specs.Agreement.{is_same_party}
use Rattle.x12_acks.specs.Submission.{Submission, TransactionSetKey}
use Rattle.std.proofs.lemmas.Bool.{and_parts}
use Rattle.x12_acks.proofs.FindLemmas.{none_passes, clash}
use Rattle.x12_numbers.proofs.Shelf.{found_passes, drop_at_place, none_in_nil, contains_cons, contains_head, contains_tail, eq_itself}
use Rattle.x12_outbound.specs.declared.fate.Fate.TheVariants.{Pending}
use Rattle.x12_outbound.specs.Entry.{SetRow, GroupRow, InterchangeRow, submission_of_entry, row_is_open, at_place, set_row_at}
use Rattle.x12_outbound.specs.Fate.{is_pending}
use Rattle.x12_outbound.specs.declared.schedule.Schedule.{Schedule}
use Rattle.x12_outbound.specs.Ledger.{OutboundLedger, LedgerRow, MayBeAdded, empty_ledger, fates, interchange_numbered, with_interchange}
use Rattle.x12_outbound.specs.Plan.{IsClosedBeside}
use Rattle.x12_station.specs.Closed.{HoldsClosed, IsBeside, LooksAt, above_groups, above_entries, next_closed}
use Rattle.x12_station.specs.Stored.{Stored, IsSound, entries, open_entries, closed_entry}
use Rattle.x12_station.proofs.ClosedLemmas.{one_stored, closed_is, closed_above, above_pushed, may_follow}
use Rattle.x12_station.proofs.HeldLemmas.{any_holds}
use Rattle.x12_station.proofs.ListLemmas.{contains_option, contains_map, get_contains, contains_filter}
use Rattle.x12_station.proofs.OwnLemmas.{entry_in, fates_are, interchange_in_is}
use Rattle.x12_station.proofs.PieceLemmas.{passes_filter, sent_are}

-- what stands at a place is in the list
at_contains : {X : Type 0} (i : ℕ) (xs : List X) (x : X) → at_place i xs ≡ Some x → Contains xs x
at_contains i xs x is = elim (eqb_tells i 0) [
  | inl none ↦ let nothing : None ≡ Some x = ap (λ (b : Bool). if b then None else slice_get xs (i - 1)) (sym none.0) ∙ is in absurd (let no : ⊥ = cc in no)
  | inr some ↦ get_contains xs (i - 1) x (ap (λ (b : Bool). if b then None else slice_get xs (i - 1)) (sym some.0) ∙ is)
]

-- a pending set makes an entry open
open_by_set : (group set : ℕ) (e : InterchangeRow) (t : SetRow) → set_row_at group set e ≡ Some t → is_pending t.fate ≡ true → row_is_open e ≡ true
unfolding set_row_at
open_by_set group set e t is pending = by (at_place group e.groups) refl is
  where
    by : (o : Option GroupRow) → at_place group e.groups ≡ o → option_and_then (λ g. at_place set g.sets) o ≡ Some t → row_is_open e ≡ true
    by None there is = absurd (let no : ⊥ = cc in no)
    by (Some g) there is = any_holds (λ (g : GroupRow). list_any (λ s. is_pending s.fate) g.sets) e.groups g (at_contains group e.groups g there) (any_holds (λ (s : SetRow). is_pending s.fate) g.sets t (at_contains set g.sets t is) pending)

module _ (v c : OutboundLedger) (c_me : c.me ≡ v.me) (beside : (e : InterchangeRow) → Contains (map (λ r. r.interchange) c.rows) e → IsBeside v e) where
  abbrev far : List InterchangeRow
  far = map (λ (r : LedgerRow). r.interchange) c.rows

  never_pending : (key : TransactionSetKey) → fates c key ≢ Some Pending
  never_pending key is = party (is_same_party key.sender c.me) (sym (fates_are c key) ∙ is)
    where
      set_is : (e : InterchangeRow) → row_is_open e ≡ false → (o : Option SetRow) → set_row_at key.group key.set e ≡ o → option_map (λ (s : SetRow). s.fate) o ≡ Some Pending → ⊥
      set_is e ended None there is = let no : ⊥ = cc in no
      set_is e ended (Some t) there is = let fate : t.fate ≡ Pending = cc in clash (row_is_open e) (open_by_set key.group key.set e t there (ap is_pending fate)) ended

      found : (o : Option InterchangeRow) → entry_in far key.icn ≡ o → option_map (λ (s : SetRow). s.fate) (option_and_then (set_row_at key.group key.set) o) ≡ Some Pending → ⊥
      found None there is = let no : ⊥ = cc in no
      found (Some e) there is = set_is e (beside e (found_passes (λ (d : InterchangeRow). d.icn == key.icn) far e there).0).ended (set_row_at key.group key.set e) refl is

      party : (b : Bool) → option_map (λ (s : SetRow). s.fate) (if b then option_and_then (set_row_at key.group key.set) (entry_in far key.icn) else None) ≡ Some Pending → ⊥
      party true is = found (entry_in far key.icn) refl is
      party false is = let no : ⊥ = cc in no

  pub closed_beside_is : IsClosedBeside v c
  closed_beside_is = record {
    me = c_me;
    ended = never_pending;
    apart = λ e d at_e at_d same.
        let near = map (λ (r : LedgerRow). r.interchange) v.rows in
        let q = contains_map (submission_of_entry v.me) near e (subst (λ l. Contains l e) (sent_are v.me v.rows) at_e) in
        let r = contains_map (submission_of_entry c.me) far d (subst (λ l. Contains l d) (sent_are c.me c.rows) at_d) in
        let none : entry_in near r.0.icn ≡ None = sym (interchange_in_is v.rows r.0.icn) ∙ (beside r.0 r.1).apart in
        let icn : q.0.icn ≡ r.0.icn = ap (λ (x : Submission). x.icn) q.2 ∙ same ∙ sym (ap (λ (x : Submission). x.icn) r.2) in
        clash (q.0.icn == r.0.icn) (ap (λ n. n == r.0.icn) icn ∙ eq_itself r.0.icn) (none_passes (λ (x : InterchangeRow). x.icn == r.0.icn) near q.0 none q.1);
  }

-- One number more.

all_at : (p : GroupRow → Bool) (gs : List GroupRow) (g : GroupRow) → list_all p gs ≡ true → Contains gs g → p g ≡ true
all_at p [] g all at = none_in_nil g at
all_at p (h ∷ gs) g all at =
    let parts = and_parts (p h) (list_all p gs) all in
    elim (contains_cons g h gs at) [ inl same ↦ subst (λ (x : GroupRow). p x ≡ true) same parts.0 | inr later ↦ all_at p gs g parts.1 later ]

all_hold_at : (p : GroupRow → Bool) (gs : List GroupRow) → ((g : GroupRow) → Contains gs g → p g ≡ true) → list_all p gs ≡ true
all_hold_at p [] each = refl
all_hold_at p (g ∷ gs) each = rw (each g (contains_head g gs)) (all_hold_at p gs (λ h at. each h (contains_tail h g gs at)))

below_test : (m n : ℕ) → nat_le m n ≡ true → m ≤ n
below_test m n is = grind (arith, nat_tests)

test_below : (m n : ℕ) → m ≤ n → nat_le m n ≡ true
test_below m n le = grind (arith, nat_tests)

pub groups_from : (least : ℕ) (gs : List GroupRow) → list_all (λ g. nat_le least g.number) gs ≡ true → (g : GroupRow) → Contains gs g → least ≤ g.number
groups_from least gs all g at = below_test least g.number (all_at (λ g. nat_le least g.number) gs g all at)

module _ (v : OutboundLedger) (s : Stored) (sound : IsSound s) (near_are : map (λ r. r.interchange) v.rows ≡ open_entries s) (n : ℕ) (held : List InterchangeRow) (numbers : List ℕ)
    (holds : HoldsClosed s numbers held) (lower : (e : InterchangeRow) → Contains held e → e.icn < n) where
  not_open : (e : InterchangeRow) → closed_entry s n ≡ Some e → interchange_numbered v n ≡ None
  not_open e is = interchange_in_is v.rows n ∙ by (entry_in (map (λ (r : LedgerRow). r.interchange) v.rows) n) refl
    where
      by : (o : Option InterchangeRow) → entry_in (map (λ (r : LedgerRow). r.interchange) v.rows) n ≡ o → entry_in (map (λ (r : LedgerRow). r.interchange) v.rows) n ≡ None
      by None there = there
      by (Some q) there =
          let passes = found_passes (λ (x : InterchangeRow). x.icn == n) (map (λ (r : LedgerRow). r.interchange) v.rows) q there in
          let at = subst (λ l. Contains l q) near_are passes.0 in
          let its = closed_is s sound n e is in
          let same = one_stored s sound q e (contains_filter row_is_open (entries s) q at) its.0 (eqb-true q.icn n passes.1 ∙ sym its.1) in
          clash (row_is_open e) (subst (λ x. row_is_open x ≡ true) same (passes_filter row_is_open (entries s) q at)) its.2

  -- the closed one of this number may follow
  next_is : (e : InterchangeRow) → closed_entry s n ≡ Some e → next_closed v n (above_entries held) (closed_entry s n) ≡ Some e
  next_is e is =
      let its = closed_is s sound n e is in
      let icn : (e.icn == n) ≡ true = ap (λ m. m == n) its.1 ∙ eq_itself n in
      let groups : list_all (λ g. nat_le (above_entries held) g.number) e.groups ≡ true =
      all_hold_at (λ g. nat_le (above_entries held) g.number) e.groups (λ g at. test_below (above_entries held) g.number
      (closed_above s sound held e holds.stored (λ r in_held. subst (λ m. r.icn < m) (sym its.1) (lower r in_held)) its.0 g at)) in
      rw (not_open e is, is, icn, groups) refl

  next_found : (o : Option InterchangeRow) (e : InterchangeRow) → o ≡ closed_entry s n → next_closed v n (above_entries held) o ≡ Some e → closed_entry s n ≡ Some e
  next_found o e is next = by (is_some (interchange_numbered v n)) o is next
    where
      one : (t : Bool) (d : InterchangeRow) → Some d ≡ closed_entry s n → (if t then Some d else None) ≡ Some e → closed_entry s n ≡ Some e
      one true d is next = sym is ∙ next
      one false d is next = absurd (let no : ⊥ = cc in no)

      by : (t : Bool) (o : Option InterchangeRow) → o ≡ closed_entry s n
          → (if t then None else option_and_then (λ (e : InterchangeRow). if e.icn == n && list_all (λ g. nat_le (above_entries held) g.number) e.groups then Some e else None) o) ≡ Some e → closed_entry s n ≡ Some e
      by true o is next = absurd (let no : ⊥ = cc in no)
      by false None is next = absurd (let no : ⊥ = cc in no)
      by false (Some d) is next = one (d.icn == n && list_all (λ g. nat_le (above_entries held) g.number) d.groups) d is next

  pub holds_more : (more : List InterchangeRow) → more ≡ held ++ option_to_list (next_closed v n (above_entries held) (closed_entry s n)) → HoldsClosed s (numbers ++ n ∷ []) more
  holds_more more is = by (next_closed v n (above_entries held) (closed_entry s n)) refl
    where
      by : (o : Option InterchangeRow) → next_closed v n (above_entries held) (closed_entry s n) ≡ o → HoldsClosed s (numbers ++ n ∷ []) more
      by None none =
          let same : more ≡ held = is ∙ ap (λ o. held ++ option_to_list o) none ∙ append-nil held in
          record {
            stored = λ e at. holds.stored e (subst (λ l. Contains l e) same at);
            numbered = λ m e at found. elim (Contains-push_cases numbers n m at) [
              | inl before ↦ subst (λ l. Contains l e) (sym same) (holds.numbered m e before found)
              | inr here ↦ let there = next_is e (ap (closed_entry s) here ∙ found) in let wrong : None ≡ Some e = sym none ∙ there in absurd (let no : ⊥ = cc in no)
            ];
          }
      by (Some d) next =
          let more_is : more ≡ held ++ d ∷ [] = is ∙ ap (λ o. held ++ option_to_list o) next in
          let d_is = next_found (closed_entry s n) d refl next in
          record {
            stored = λ e at. elim (Contains-push_cases held d e (subst (λ l. Contains l e) more_is at)) [ inl before ↦ holds.stored e before | inr here ↦ subst (λ x. Contains (entries s) x) here (closed_is s sound n d d_is).0 ];
            numbered = λ m e at found. subst (λ l. Contains l e) (sym more_is) (elim (Contains-push_cases numbers n m at) [
              | inl before ↦ Contains-append_left held (d ∷ []) e (holds.numbered m e before found)
              | inr here ↦ let both_are : Some d ≡ Some e = sym d_is ∙ ap (closed_entry s) here ∙ found in let same : d ≡ e = cc in subst (λ x. Contains (held ++ d ∷ []) x) same (Contains-push held d)
            ]);
          }

-- What is added.

module _ (v old new : OutboundLedger) (e : InterchangeRow) (n least next : ℕ) (sound : IsSoundClosed e) (icn : e.icn ≡ n) (apart : interchange_numbered v n ≡ None)
    (least_is : least ≡ above_entries (map (λ r. r.interchange) old.rows)) (groups : list_all (λ g. nat_le least g.number) e.groups ≡ true) where
  pub next_follows : ((d : InterchangeRow) → Contains (map (λ r. r.interchange) old.rows) d → d.icn < n) → MayBeAdded old e
  next_follows lower = may_follow old e sound (λ r at. subst (λ m. r.icn < m) (sym icn) (lower r at)) (λ g at. subst (λ m. m ≤ g.number) least_is (groups_from least e.groups groups g at))

  rows_pushed : (sch : Schedule) → new ≡ with_interchange e sch old → map (λ (r : LedgerRow). r.interchange) new.rows ≡ map (λ (r : LedgerRow). r.interchange) old.rows ++ e ∷ []
  unfolding with_interchange
  rows_pushed sch is = ap (λ (u : OutboundLedger). map (λ (r : LedgerRow). r.interchange) u.rows) is ∙ map-append (λ (r : LedgerRow). r.interchange) old.rows _

  pub looks_more : (sch : Schedule) → new ≡ with_interchange e sch old → next ≡ max least (above_groups e.groups) → LooksAt v old new n next
  unfolding with_interchange
  looks_more sch is next_is = record {
    more = Some e;
    me = ap (λ (u : OutboundLedger). u.me) is;
    rows = rows_pushed sch is;
    beside = λ d same. let is_e : e ≡ d = cc in subst (λ x. IsBeside v x × (x.icn ≡ n)) is_e (record { ended = sound.ended; apart = ap (interchange_numbered v) icn ∙ apart }, icn);
    above = next_is ∙ ap (λ m. max m (above_groups e.groups)) least_is ∙ sym (ap above_entries (rows_pushed sch is) ∙ above_pushed (map (λ (r : LedgerRow). r.interchange) old.rows) e);
  }

  pub found_more : (sch : Schedule) → new ≡ with_interchange e sch old → (o : Option InterchangeRow) → Some e ≡ o → map (λ (r : LedgerRow). r.interchange) new.rows ≡ map (λ (r : LedgerRow). r.interchange) old.rows ++ option_to_list o
  found_more sch is o some = rows_pushed sch is ∙ ap (λ o. map (λ (r : LedgerRow). r.interchange) old.rows ++ option_to_list o) some

-- The numbers that are left.

pairs_left : (i : ℕ) (xs : List ℕ) → AllPairs (λ a b. a < b) xs → AllPairs (λ a b. a < b) (drop i xs)
pairs_left zero xs rising = rising
pairs_left (suc i) [] rising = rising
pairs_left (suc i) (x ∷ xs) rising = pairs_left i xs (pairs_tail (λ a b. a < b) x xs rising)

pub next_left : (i : ℕ) (xs : List ℕ) → i < length xs → Contains (drop i xs) (get_or xs i 0)
next_left i xs within = subst (λ l. Contains l (get_or xs i 0)) (sym (drop_at_place i xs within)) (contains_head (get_or xs i 0) (drop (i + 1) xs))

module _ (v old new : OutboundLedger) (i : ℕ) (xs : List ℕ) (within : i < length xs) (rising : AllPairs (λ a b. a < b) xs) (least : ℕ) (looks : LooksAt v old new (get_or xs i 0) least) where
  split : (e : InterchangeRow) → Contains (map (λ r. r.interchange) new.rows) e → Contains (map (λ r. r.interchange) old.rows) e ⊎ (looks.more ≡ Some e)
  split e at = elim (Contains-append_cases (map (λ (r : LedgerRow). r.interchange) old.rows) (option_to_list looks.more) e (subst (λ l. Contains l e) looks.rows at)) [
    | inl before ↦ inl before
    | inr more ↦ inr (contains_option looks.more e more)
  ]

  pub beside_more : ((e : InterchangeRow) → Contains (map (λ r. r.interchange) old.rows) e → IsBeside v e) → (e : InterchangeRow) → Contains (map (λ r. r.interchange) new.rows) e → IsBeside v e
  beside_more was e at = elim (split e at) [ inl before ↦ was e before | inr more ↦ (looks.beside e more).0 ]

  pub lower_more : ((e : InterchangeRow) (n : ℕ) → Contains (map (λ r. r.interchange) old.rows) e → Contains (drop i xs) n → e.icn < n) → (e : InterchangeRow) (n : ℕ) → Contains (map (λ r. r.interchange) new.rows) e → Contains (drop (i + 1) xs) n → e.icn < n
  lower_more was e n at there = elim (split e at) [
    | inl before ↦ was e n before (subst (λ l. Contains l n) (sym (drop_at_place i xs within)) (contains_tail n (get_or xs i 0) (drop (i + 1) xs) there))
    | inr more ↦ subst (λ m. m < n) (sym (looks.beside e more).1) (All-contains (λ m. get_or xs i 0 < m) (drop (i + 1) xs) n (pairs_head (λ a b. a < b) (get_or xs i 0) (drop (i + 1) xs) (subst (AllPairs (λ a b. a < b)) (drop_at_place i xs within) (pairs_left i xs rising))) there)
  ]

-- A ledger that holds nothing.
pub none_held : (v c : OutboundLedger) → c ≡ empty_ledger v.me v.hubs → (c.me ≡ v.me) × (map (λ (r : LedgerRow). r.interchange) c.rows ≡ [])
unfolding empty_ledger
none_held v c is = (ap (λ (u : OutboundLedger). u.me) is, ap (λ (u : OutboundLedger). map (λ (r : LedgerRow). r.interchange) u.rows) is)

pub holds_none : (s : Stored) (held : List InterchangeRow) → held ≡ [] → HoldsClosed s [] held
holds_none s held is = record {
  stored = λ e at. none_in_nil e (subst (λ l. Contains l e) is at);
  numbered = λ n e at found. none_in_nil n at;
}
