-- A ledger that settled an arrival's evidence holds the open entries of the history then, and what it still sends is as it was scheduled.
use Rattle.std.specs.Prelude.{◌≡◌, ℕ, ◌<◌, ◌==◌, List, [], ◌∷◌, Bool, true, false, ◌||◌, if◌then◌else◌, map, filter, Option, Some, None, option_map, IfSome, Contains, AllPairs, refl}
use Rattle.std.specs.List.{list_any}
use mathlib.Core.Path.{sym, ap, ap₂, subst, ◌∙◌}
use mathlib.Core.Logic.{inl, inr}
use Rattle.std.proofs.lemmas.Bool.{cases_Bool}
use Rattle.std.proofs.lemmas.List.Kept.{AllPairs-filter}
use Rattle.x12_envelopes.specs.declared.party.Party.{Party}
use Rattle.x12_acks.specs.Submission.{Submission, TransactionSetKey, KeyedSet, IsBefore}
use Rattle.x12_acks.proofs.CutLemmas.{any_is}
use Rattle.std.proofs.Common.{eqb-true}
use Rattle.x12_acks.proofs.FindLemmas.{none_passes, clash}
use Rattle.x12_numbers.proofs.Shelf.{found_passes, pairs_from_map, all_from_contains, map_twice, list_any-map, none_in_nil, contains_cons, contains_head, contains_tail, contains_mapped, eq_itself, contains_in_filter}
use Rattle.x12_outbound.specs.declared.fate.Fate.{Fate}
use Rattle.x12_outbound.specs.declared.fate.Fate.TheVariants.{Pending, Accepted, Noted, Rejected}
use Rattle.x12_outbound.specs.declared.schedule.Schedule.{Schedule}
use Rattle.x12_outbound.specs.Entry.{SetRow, InterchangeRow, submission_of_entry, row_is_open, set_row_at}
use Rattle.x12_outbound.specs.Fate.{is_pending}
use Rattle.x12_outbound.specs.Ledger.{OutboundLedger, LedgerRow, NoneIsOut, fates, ledger_submissions, row_of}
use Rattle.x12_outbound.specs.Plan.{HoldsWhatIsOpen, is_open_by, is_pending_at, scheduled}
use Rattle.x12_outbound.specs.Settling.{Fates, settled_fates}
use Rattle.x12_acks.proofs.ReplyGroupLemmas.{same_party_itself}
use Rattle.x12_profile.specs.Interchange.{Bytes}
use Rattle.x12_station.specs.Durable.{items_of, fared_entries, IsHistoryOf, IsOwnSubmission}
use Rattle.x12_station.specs.Stored.{Stored, entries, open_entries}
use Rattle.x12_station.proofs.ArrivedLemmas.{edition_of, all_rise, history_fates, all_stay, cell_now, items_now, own_now}
use Rattle.x12_station.proofs.CellLemmas.{Cell, cells_of, entry_by, cell_is_pending, keyed_by, keys_by, open_by, map_same_at, any_same_at}
use Rattle.x12_outbound.specs.FirstEvidence.{first_about}
use Rattle.x12_station.proofs.FateLemmas.{brought, fate_then, as_told}
use Rattle.x12_station.proofs.TargetLemmas.{told_is_settled}
use Rattle.x12_station.proofs.KnownLemmas.{one_submission, known, all_submitted, fate_at, entry_of, entries_are, AreOfAll, all_of_all, all_hold, key_in, cell_fares_in}
use Rattle.x12_station.proofs.LedgerLemmas.{one_by_key, entry_known}
use Rattle.x12_station.proofs.ListLemmas.{contains_map, contains_filter}
use Rattle.x12_station.proofs.OwnLemmas.{submitted_entry, fates_are, interchange_in_is, row_in_is, entry_in}
use Rattle.x12_outbound.specs.declared.evidence.Counts.{Counts}
use Rattle.x12_profile.specs.X12.{x12}
use Rattle.std.proofs.lemmas.List.Elements.{All-contains}
use Rattle.x12_station.specs.History.{submissions as submissions_in}
use Rattle.x12_station.specs.Schedule.{Sending}
use Rattle.x12_station.specs.Seen.{sending_of, station_of}
use Rattle.x12_station.specs.StationStep.{still_open}
use Rattle.x12_station.proofs.OpenLemmas.{pending_at, entries_open, entry_numbers}
use Rattle.x12_station.proofs.PieceLemmas.{passes_filter, sent_are}

-- Filters.

module _ {X Y : Type 0} where
  pub filter_map_is : (p : Y → Bool) (f : X → Y) (xs : List X) → filter p (map f xs) ≡ map f (filter (λ x. p (f x)) xs)
  filter_map_is p f [] = refl
  filter_map_is p f (x ∷ xs) = by (p (f x)) (filter_map_is p f xs)
    where
      by : (t : Bool) → filter p (map f xs) ≡ map f (filter (λ x. p (f x)) xs) → (if t then f x ∷ filter p (map f xs) else filter p (map f xs)) ≡ map f (if t then x ∷ filter (λ x. p (f x)) xs else filter (λ x. p (f x)) xs)
      by true more = ap (λ l. f x ∷ l) more
      by false more = more

module _ {X : Type 0} where
  pub filter_same_at : (p q : X → Bool) (xs : List X) → ((x : X) → Contains xs x → p x ≡ q x) → filter p xs ≡ filter q xs
  filter_same_at p q [] same = refl
  filter_same_at p q (x ∷ xs) same = ap₂ (λ (t : Bool) (l : List X). if t then x ∷ l else l) (same x (contains_head x xs)) (filter_same_at p q xs (λ z at. same z (contains_tail z x xs at)))

  -- what passes the second passed the first already
  pub filter_twice : (p q : X → Bool) (xs : List X) → ((x : X) → Contains xs x → p x ≡ true → q x ≡ true) → filter p (filter q xs) ≡ filter p xs
  filter_twice p q [] stronger = refl
  filter_twice p q (x ∷ xs) stronger = by (q x) refl (p x) refl (filter_twice p q xs (λ z at is. stronger z (contains_tail z x xs at) is))
    where
      by : (t : Bool) → q x ≡ t → (u : Bool) → p x ≡ u → filter p (filter q xs) ≡ filter p xs → filter p (if t then x ∷ filter q xs else filter q xs) ≡ (if u then x ∷ filter p xs else filter p xs)
      by true is true was more = rw was (ap (λ l. x ∷ l) more)
      by true is false was more = rw was more
      by false is true was more = clash (q x) (stronger x (contains_head x xs) was) is
      by false is false was more = more

pub any_holds : {X : Type 0} (p : X → Bool) (xs : List X) (x : X) → Contains xs x → p x ≡ true → list_any p xs ≡ true
any_holds p [] x at is = none_in_nil x at
any_holds p (y ∷ ys) x at is = elim (contains_cons x y ys at) [ inl same ↦ left (p y) (list_any p ys) (subst (λ z. p z ≡ true) (sym same) is) | inr later ↦ right (p y) (list_any p ys) (any_holds p ys x later is) ]
  where
    left : (a b : Bool) → a ≡ true → (a || b) ≡ true
    left true b e = refl
    left false b e = absurd (let no : ⊥ = cc in no)

    right : (a b : Bool) → b ≡ true → (a || b) ≡ true
    right true b e = refl
    right false b e = e

-- whether a set that was settled is pending still, it was
pending_before : (f g : Fate) → is_pending (fate_then f g) ≡ true → is_pending f ≡ true
pending_before Pending g is = refl
pending_before Accepted g is = is
pending_before Noted g is = is
pending_before Rejected g is = is

module _ (v w : OutboundLedger) (s : Stored) (d : IsHistoryOf v.me v.hubs s) (near_are : map (λ r. r.interchange) v.rows ≡ open_entries s) (b : Bytes) (r : Option Bytes)
    (held : HoldsWhatIsOpen v w (settled_fates (fates v) (brought (edition_of s) v.me v.hubs (items_of s) b))) (none_out : NoneIsOut w) where
  abbrev all : List Submission
  all = all_submitted (items_of s)

  abbrev near : List InterchangeRow
  near = map (λ (r : LedgerRow). r.interchange) v.rows

  abbrev left : List InterchangeRow
  left = map (λ (r : LedgerRow). r.interchange) w.rows

  abbrev entry : Submission → InterchangeRow
  entry e = entry_of v.me v.hubs (items_of s) d.own e

  abbrev fate_then_at : Submission → ℕ → ℕ → Fate
  fate_then_at e = fate_at v.me v.hubs (items_now v.me v.hubs s d b r) e

  abbrev entry_now : Submission → InterchangeRow
  entry_now e = entry_by (fate_then_at e) e

  abbrev fare : Fates
  fare = settled_fates (fates v) (brought (edition_of s) v.me v.hubs (items_of s) b)

  abbrev key : Submission → Cell → TransactionSetKey
  key e c = key_in v.me v.hubs (items_of s) d.own (all_rise v.me v.hubs s d) e c

  stored_is : entries s ≡ map entry all
  stored_is = d.fates ∙ entries_are v.me v.hubs (items_of s) d.own

  near_is : near ≡ map entry (filter (λ e. row_is_open (entry e)) all)
  near_is = near_are ∙ ap (filter row_is_open) stored_is ∙ filter_map_is row_is_open entry all

  near_of : AreOfAll v.me v.hubs (items_of s) d.own (all_rise v.me v.hubs s d) near
  near_of q at =
      let from = contains_map entry (filter (λ e. row_is_open (entry e)) all) q (subst (λ l. Contains l q) near_is at) in
      (from.0, contains_filter (λ e. row_is_open (entry e)) all from.0 from.1, from.2)

  sender_is : (e : Submission) → Contains all e → e.sender ≡ v.me
  sender_is e at = (known v.me v.hubs (items_of s) d.own e at).sender

  -- the fate of a set of an open submission, after the evidence
  fare_is : (e : Submission) → Contains all e → row_is_open (entry e) ≡ true → (c : Cell) → Contains (cells_of e.groups) c → fare (key e c) ≡ Some (fate_then_at e c.group c.set)
  fare_is e at is_open c cell =
      let here : Contains near (entry e) = subst (λ l. Contains l (entry e)) (sym near_is) (contains_mapped entry (filter (λ e. row_is_open (entry e)) all) e (contains_in_filter (λ e. row_is_open (entry e)) all e at is_open)) in
      cell_now v.me v.hubs s d b r e c at (fates v)
      (fates_are v (key e c) ∙ cell_fares_in v.me v.hubs (items_of s) d.own (all_rise v.me v.hubs s d) near near_of e at here c cell)

  -- open after the evidence, by the fates as by the entry
  open_is : (e : Submission) → Contains all e → row_is_open (entry e) ≡ true → is_open_by fare e ≡ row_is_open (entry_now e)
  unfolding is_open_by
  open_is e at is_open =
      ap (list_any (λ (s : KeyedSet). is_pending_at (fare s.key))) (keys_by e) ∙ list_any-map (λ (s : KeyedSet). is_pending_at (fare s.key)) (keyed_by e) (cells_of e.groups)
      ∙ any_same_at (λ (c : Cell). is_pending_at (fare (keyed_by e c).key)) (cell_is_pending (fate_then_at e)) (cells_of e.groups)
      (λ c cell. ap is_pending_at (ap fare (ap (λ p. keyed p e.icn c) (sender_is e at)) ∙ fare_is e at is_open c cell))
      ∙ sym (open_by (fate_then_at e) e)
    where
      keyed : Party → ℕ → Cell → TransactionSetKey
      keyed p n c = record { sender = p; icn = n; group = c.group; set = c.set }

  -- what is open after it was open before
  open_before : (e : Submission) → Contains all e → row_is_open (entry_now e) ≡ true → row_is_open (entry e) ≡ true
  open_before e at is =
      let found = any_is (cell_is_pending (fate_then_at e)) (cells_of e.groups) (sym (open_by (fate_then_at e) e) ∙ is) in
      let c = found.0 in
      let fates_before = history_fates v.me v.hubs s d in
      let was = cell_fares_in v.me v.hubs (items_of s) d.own (all_rise v.me v.hubs s d) (fared_entries v.me v.hubs (items_of s)) (all_of_all v.me v.hubs (items_of s) d.own (all_rise v.me v.hubs s d)) e at (all_hold v.me v.hubs (items_of s) d.own (all_rise v.me v.hubs s d) e at) c found.1 in
      let now_is = told_is_settled fates_before (brought (edition_of s) v.me v.hubs (items_of s) b) (key e c) (fate_at v.me v.hubs (items_of s) e c.group c.set) (fate_then_at e c.group c.set) was (cell_now v.me v.hubs s d b r e c at fates_before was) in
      open_by (fate_at v.me v.hubs (items_of s) e) e
      ∙ any_holds (cell_is_pending (fate_at v.me v.hubs (items_of s) e)) (cells_of e.groups) c found.1
      (pending_before (fate_at v.me v.hubs (items_of s) e c.group c.set) (as_told (first_about (key e c) (brought (edition_of s) v.me v.hubs (items_of s) b))) (ap is_pending now_is ∙ found.2))

  scheduled_sent : (u : OutboundLedger) → map (λ (q : Submission × Schedule). q.0) (scheduled u) ≡ ledger_submissions u
  unfolding scheduled
  scheduled_sent u = map_twice (λ (q : Submission × Schedule). q.0) (λ (r : LedgerRow). (submission_of_entry u.me r.interchange, r.schedule)) u.rows
      ∙ sym (sent_are u.me u.rows ∙ map_twice (submission_of_entry u.me) (λ (r : LedgerRow). r.interchange) u.rows)

  near_sent : ledger_submissions v ≡ filter (λ e. row_is_open (entry e)) all
  near_sent =
      sent_are v.me v.rows ∙ ap (map (submission_of_entry v.me)) near_is ∙ map_twice (submission_of_entry v.me) entry (filter (λ e. row_is_open (entry e)) all)
      ∙ map_same_at (λ e. submission_of_entry v.me (entry e)) (λ e. e) (filter (λ e. row_is_open (entry e)) all) (λ e at. let inside = contains_filter (λ e. row_is_open (entry e)) all e at in submitted_entry (fate_at v.me v.hubs (items_of s) e) v.me e (sender_is e inside))
      ∙ same (filter (λ e. row_is_open (entry e)) all)
    where
      same : (xs : List Submission) → map (λ e. e) xs ≡ xs
      same [] = refl
      same (x ∷ xs) = ap (λ l. x ∷ l) (same xs)

  left_sent : ledger_submissions w ≡ filter (λ e. row_is_open (entry_now e)) all
  left_sent =
      sym (scheduled_sent w) ∙ ap (map (λ (q : Submission × Schedule). q.0)) held.scheduled
      ∙ sym (filter_map_is (is_open_by fare) (λ (q : Submission × Schedule). q.0) (scheduled v))
      ∙ ap (filter (is_open_by fare)) (scheduled_sent v ∙ near_sent)
      ∙ filter_same_at (is_open_by fare) (λ e. row_is_open (entry_now e)) (filter (λ e. row_is_open (entry e)) all)
      (λ e at. open_is e (contains_filter (λ e. row_is_open (entry e)) all e at) (passes_filter (λ e. row_is_open (entry e)) all e at))
      ∙ filter_twice (λ e. row_is_open (entry_now e)) (λ e. row_is_open (entry e)) all open_before

  left_rise : AllPairs (λ (a b : InterchangeRow). a.icn < b.icn) left
  left_rise = λ i j x before within.
      (pairs_from_map (submission_of_entry w.me) IsBefore left
      (subst (AllPairs IsBefore) (sym left_sent ∙ sent_are w.me w.rows) (AllPairs-filter IsBefore (λ e. row_is_open (entry_now e)) all (all_rise v.me v.hubs s d)))
      i j x before within).interchange

  -- an entry that is left is found by its number
  found_left : (q : InterchangeRow) → Contains left q → entry_in left q.icn ≡ Some q
  found_left q at = by (entry_in left q.icn) refl
    where
      by : (o : Option InterchangeRow) → entry_in left q.icn ≡ o → entry_in left q.icn ≡ Some q
      by (Some p) is =
          let passes = found_passes (λ (x : InterchangeRow). x.icn == q.icn) left p is in
          is ∙ ap Some (one_by_key (λ (x : InterchangeRow). x.icn) left left_rise p q passes.0 at (eqb-true p.icn q.icn passes.1))
      by None is = clash (q.icn == q.icn) (eq_itself q.icn) (none_passes (λ (x : InterchangeRow). x.icn == q.icn) left q is at)

  -- and is the one with the fates of the history
  left_one : (q : InterchangeRow) → Contains left q → q ≡ entry_now (submission_of_entry w.me q)
  left_one q at =
      let e = submission_of_entry w.me q in
      let sent : Contains (ledger_submissions w) e = subst (λ l. Contains l e) (sym (sent_are w.me w.rows)) (contains_mapped (submission_of_entry w.me) left q at) in
      let open_now : Contains (filter (λ e. row_is_open (entry_now e)) all) e = subst (λ l. Contains l e) left_sent sent in
      let inside = contains_filter (λ e. row_is_open (entry_now e)) all e open_now in
      let is_open = open_before e inside (passes_filter (λ e. row_is_open (entry_now e)) all e open_now) in
      entry_known v.me (fate_then_at e) e q (ap (λ me. submission_of_entry me q) (sym held.me)) (submitted_entry (fate_then_at e) v.me e (sender_is e inside)) (fares e inside is_open refl) laid
    where
      fares : (e : Submission) → Contains all e → row_is_open (entry e) ≡ true → e.icn ≡ q.icn → (c : Cell) → Contains (cells_of e.groups) c → option_map (λ (t : SetRow). t.fate) (set_row_at c.group c.set q) ≡ Some (fate_then_at e c.group c.set)
      fares e inside is_open icn c cell =
          let found : entry_in left e.icn ≡ Some q = ap (entry_in left) icn ∙ found_left q at in
          sym (fates_are w (key e c) ∙ rw (held.me, same_party_itself v.me, found) refl)
          ∙ held.fates (key e c) ∙ rw (interchange_in_is w.rows e.icn, found) (fare_is e inside is_open c cell)

      laid : (group set : ℕ) → IfSome (set_row_at group set q) (λ (t : SetRow). t.is_out ≡ false)
      laid group set =
          let k : TransactionSetKey = record { sender = w.me; icn = q.icn; group = group; set = set } in
          let row_is : row_of w k ≡ set_row_at group set q = row_in_is w.me w.rows k ∙ rw (same_party_itself w.me, found_left q at) refl in
          subst (λ (o : Option SetRow). IfSome o (λ (t : SetRow). t.is_out ≡ false)) row_is (none_out k)

  left_is : left ≡ map entry_now (ledger_submissions w)
  left_is = same left ∙ map_same_at (λ q. q) (λ q. entry_now (submission_of_entry w.me q)) left left_one ∙ sym (ap (map entry_now) (sent_are w.me w.rows) ∙ map_twice entry_now (submission_of_entry w.me) left)
    where
      same : (xs : List InterchangeRow) → xs ≡ map (λ q. q) xs
      same [] = refl
      same (x ∷ xs) = ap (λ l. x ∷ l) (same xs)

  -- the ledger holds the open entries of the history
  pub left_open : left ≡ filter row_is_open (fared_entries v.me v.hubs (items_now v.me v.hubs s d b r))
  left_open =
      left_is ∙ ap (map entry_now) left_sent ∙ sym (filter_map_is row_is_open entry_now all)
      ∙ ap (filter row_is_open) (sym (entries_are v.me v.hubs (items_now v.me v.hubs s d b r) (own_now v.me v.hubs s d b r) ∙ ap (map entry_now) (all_stay v.me v.hubs s d b r)))

  -- What is sent still.

  abbrev of_pair : Submission × Schedule → Sending
  of_pair q = record { number = q.0.icn; schedule = q.1 }

  pairs_are : (u : OutboundLedger) → map sending_of u.rows ≡ map of_pair (scheduled u)
  unfolding scheduled
  pairs_are u = sym (map_twice of_pair (λ (r : LedgerRow). (submission_of_entry u.me r.interchange, r.schedule)) u.rows)

  numbers_left : map (λ (q : InterchangeRow). q.icn) left ≡ map (λ (e : Submission). e.icn) (filter (λ e. row_is_open (entry_now e)) all)
  numbers_left = ap (map (λ (q : InterchangeRow). q.icn)) left_is ∙ map_twice (λ (q : InterchangeRow). q.icn) entry_now (ledger_submissions w) ∙ ap (map (λ (e : Submission). e.icn)) left_sent

  -- a submission of the ledger is open after where its number is left
  open_where_left : (e : Submission) → Contains (ledger_submissions v) e → is_open_by fare e ≡ list_any (λ n. n == e.icn) (map (λ (q : InterchangeRow). q.icn) left)
  open_where_left e at =
      let was : Contains (filter (λ e. row_is_open (entry e)) all) e = subst (λ l. Contains l e) near_sent at in
      let inside = contains_filter (λ e. row_is_open (entry e)) all e was in
      open_is e inside (passes_filter (λ e. row_is_open (entry e)) all e was) ∙ by inside (row_is_open (entry_now e)) refl
      ∙ sym (ap (list_any (λ n. n == e.icn)) numbers_left ∙ list_any-map (λ n. n == e.icn) (λ (x : Submission). x.icn) (filter (λ e. row_is_open (entry_now e)) all))
    where
      by : Contains all e → (t : Bool) → row_is_open (entry_now e) ≡ t → row_is_open (entry_now e) ≡ list_any (λ x. x.icn == e.icn) (filter (λ e. row_is_open (entry_now e)) all)
      by inside true is = is ∙ sym (any_holds (λ (x : Submission). x.icn == e.icn) (filter (λ e. row_is_open (entry_now e)) all) e (contains_in_filter (λ e. row_is_open (entry_now e)) all e inside is) (eq_itself e.icn))
      by inside false is = is ∙ elim (cases_Bool (list_any (λ (x : Submission). x.icn == e.icn) (filter (λ e. row_is_open (entry_now e)) all))) [
        | inl some ↦
            let x = any_is (λ (x : Submission). x.icn == e.icn) (filter (λ e. row_is_open (entry_now e)) all) some in
            let x_at = contains_filter (λ e. row_is_open (entry_now e)) all x.0 x.1 in
            let same = one_submission v.me v.hubs (items_of s) d.own (all_rise v.me v.hubs s d) x.0 e x_at inside (eqb-true x.0.icn e.icn x.2) in
            clash (row_is_open (entry_now e)) (subst (λ z. row_is_open (entry_now z) ≡ true) same (passes_filter (λ e. row_is_open (entry_now e)) all x.0 x.1)) is
        | inr none ↦ sym none
      ]

  sent_left : map sending_of w.rows ≡ filter (λ q. list_any (λ n. n == q.number) (map (λ (q : InterchangeRow). q.icn) left)) (map sending_of v.rows)
  sent_left =
      pairs_are w ∙ ap (map of_pair) (held.scheduled ∙ filter_same_at (λ q. is_open_by fare q.0) (λ q. list_any (λ n. n == q.0.icn) (map (λ (q : InterchangeRow). q.icn) left)) (scheduled v)
      (λ q at. open_where_left q.0 (subst (λ l. Contains l q.0) (scheduled_sent v) (contains_mapped (λ (q : Submission × Schedule). q.0) (scheduled v) q at))))
      ∙ sym (filter_map_is (λ (q : Sending). list_any (λ n. n == q.number) (map (λ (q : InterchangeRow). q.icn) left)) of_pair (scheduled v))
      ∙ ap (filter (λ (q : Sending). list_any (λ n. n == q.number) (map (λ (q : InterchangeRow). q.icn) left))) (sym (pairs_are v))

  -- the numbers of what the history has open
  abbrev then_open : Bytes → Bool
  then_open x = list_any (pending_at v.me v.hubs (items_now v.me v.hubs s d b r) x) (x12.sets x)

  open_numbers : map x12.number (filter then_open (submissions_in (items_now v.me v.hubs s d b r))) ≡ map (λ (q : InterchangeRow). q.icn) left
  unfolding fared_entries
  open_numbers =
      let items = items_now v.me v.hubs s d b r in
      let mine = own_now v.me v.hubs s d b r in
      let still = all_from_contains (IsOwnSubmission v.me) (filter then_open (submissions_in items)) (λ x at. All-contains (IsOwnSubmission v.me) (submissions_in items) x mine (contains_filter then_open (submissions_in items) x at)) in
      sym (entry_numbers v.me v.hubs items (filter then_open (submissions_in items)) still)
      ∙ ap (map (λ (q : InterchangeRow). q.icn)) (sym (entries_open v.me v.hubs items (submissions_in items) mine) ∙ sym left_open)

  -- what is sent still is what the station sends still
  pub sends_still : (counts : Counts) → map sending_of w.rows ≡ still_open x12 (record (station_of v counts s) { items = items_now v.me v.hubs s d b r })
  sends_still counts =
      sent_left ∙ filter_same_at (λ (q : Sending). list_any (λ n. n == q.number) (map (λ (q : InterchangeRow). q.icn) left))
      (λ (q : Sending). list_any (λ x. x12.number x == q.number) (filter then_open (submissions_in (items_now v.me v.hubs s d b r)))) (map sending_of v.rows)
      (λ q at. ap (list_any (λ n. n == q.number)) (sym open_numbers) ∙ list_any-map (λ n. n == q.number) x12.number (filter then_open (submissions_in (items_now v.me v.hubs s d b r))))
