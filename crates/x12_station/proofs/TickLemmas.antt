-- A tick over a ledger that holds the open submissions: what is sent, and what the schedules are then.
use Rattle.std.proofs.Common.{ℕ, ◌≡◌, ◌<◌, ◌≤◌, ◌&&◌, ◌==◌, ◌∙◌, ap, ap₂, sym, subst, refl, inl, inr, Bool, true, false, cond, Some, List, [], ◌∷◌, map, filter, find, All, AllPairs, arith}
use Rattle.std.specs.Prelude.{count_by, flat_map, length, nat_le, if◌then◌else◌, unwrap_or, option_map, Contains}
use Rattle.std.proofs.lemmas.Bool.Decides.{eqb_tells}
use Rattle.std.proofs.lemmas.List.{length-map}
use Rattle.std.proofs.lemmas.List.Sums.{length-filter}
use Rattle.std.proofs.lemmas.List.Elements.{All-contains, All-cons, All-filter, All-map, All-nil}
use Rattle.x12_outbound.specs.Entry.{InterchangeRow, row_is_open}
use Rattle.x12_outbound.specs.Ledger.{LedgerInMemory, OutboundLedger, LedgerRow, IcnsRise, NoneIsOut, after_tick, bytes_due, open_interchanges, interchange_in, row_in, row_is_due, row_sent_if_due}
use Rattle.x12_outbound.specs.Schedule.{sent_at, tick_seen, unsent_schedule}
use Rattle.x12_profile.specs.Interchange.{Bytes}
use Rattle.x12_profile.specs.X12.{x12, submission_in_bytes}
use Rattle.x12_station.specs.declared.cached.Cached.{Cached}
use Rattle.x12_station.specs.Durable.{IsHistoryOf, IsOwnSubmission, items_of, fared_entry, fared_entries}
use Rattle.x12_station.specs.History.{submissions}
use Rattle.x12_station.specs.Keeps.{Caches, IsReady}
use Rattle.x12_station.specs.Schedule.{schedule_of}
use Rattle.x12_station.specs.Schedule as station
use Rattle.x12_station.specs.Seen.{station_of, sending_of}
use Rattle.x12_station.specs.Station.{Station}
use Rattle.x12_station.specs.StationStep.{open_submissions, is_open, tick}
use Rattle.x12_station.specs.Stored.{Stored, entries, IsNumberedBy}
use Rattle.x12_numbers.proofs.Shelf.{contains_head, contains_tail, contains_cons, eq_itself, all_from_map, map_twice, pairs_from_map}
use Rattle.x12_station.proofs.OpenLemmas.{entries_open, entry_bytes, entry_numbers}
use Rattle.x12_station.proofs.SeqLemmas.{pairs_head, pairs_tail}
use Rattle.x12_station.proofs.EntryLemmas.{entries_rise}
use Rattle.std.proofs.lemmas.List.Kept.{AllPairs-filter}
use Rattle.x12_station.proofs.CellLemmas.{map_same_at}

-- Lists.

-- a filter of what is mapped, by a test of what it is mapped from
pub filter_at : {X Y : Type 0} (p : Y → Bool) (q : X → Bool) (g : X → Y) (xs : List X) → ((x : X) → Contains xs x → p (g x) ≡ q x) → filter p (map g xs) ≡ map g (filter q xs)
filter_at p q g [] same = refl
filter_at p q g (x ∷ xs) same = rw (same x (contains_head x xs)) (by (q x) (filter_at p q g xs (λ y at. same y (contains_tail y x xs at))))
  where
    by : (t : Bool) → filter p (map g xs) ≡ map g (filter q xs) → cond t (g x ∷ filter p (map g xs)) (filter p (map g xs)) ≡ map g (cond t (x ∷ filter q xs) (filter q xs))
    by true rest = ap (λ ys. g x ∷ ys) rest
    by false rest = rest

-- what two maps agree on
pub same_from_maps : {X Y : Type 0} (f g : X → Y) (xs : List X) → map f xs ≡ map g xs → (x : X) → Contains xs x → f x ≡ g x
same_from_maps f g [] e x at = let lt = at.1 in absurd (omega arith)
same_from_maps f g (y ∷ ys) e x at = elim (contains_cons x y ys at) [
  | inl is ↦ let head : f y ≡ g y = cc in rw (← is) head
  | inr rest ↦ let tail : map f ys ≡ map g ys = cc in same_from_maps f g ys tail x rest
]

pub all_passed : {X : Type 0} (p : X → Bool) (xs : List X) → All (λ x. p x ≡ true) (filter p xs)
all_passed p [] = All-nil (λ x. p x ≡ true)
all_passed p (x ∷ xs) = by (p x) refl (all_passed p xs)
  where
    by : (t : Bool) → p x ≡ t → All (λ y. p y ≡ true) (filter p xs) → All (λ y. p y ≡ true) (cond t (x ∷ filter p xs) (filter p xs))
    by true e rest = All-cons (λ y. p y ≡ true) x (filter p xs) e rest
    by false e rest = rest

-- Rows whose numbers rise.

-- a row is found by its number
pub row_found : (rows : List LedgerRow) → IcnsRise rows → (r : LedgerRow) → Contains rows r → find (λ q. q.interchange.icn == r.interchange.icn) rows ≡ Some r
row_found [] rise r at = let lt = at.1 in absurd (omega arith)
row_found (q ∷ rows) rise r at = elim (contains_cons r q rows at) [
  | inl is ↦ rw (← is, eq_itself q.interchange.icn) refl
  | inr rest ↦
      let above : q.interchange.icn < r.interchange.icn = All-contains (λ z. q.interchange.icn < z.interchange.icn) rows r (pairs_head (λ a b. a.interchange.icn < b.interchange.icn) q rows rise) rest in
      elim (eqb_tells q.interchange.icn r.interchange.icn) [
        | inl same ↦ let e = same.1 in absurd (omega (arith, e, above))
        | inr apart ↦ rw (apart.0) (row_found rows (pairs_tail (λ a b. a.interchange.icn < b.interchange.icn) q rows rise) r rest)
      ]
]

-- and its schedule
pub schedule_found : (rows : List LedgerRow) (n : ℕ) → schedule_of (map sending_of rows) n ≡ unwrap_or (option_map (λ r. r.schedule) (find (λ r. r.interchange.icn == n) rows)) unsent_schedule
schedule_found [] n = refl
schedule_found (r ∷ rows) n = by (r.interchange.icn == n) (schedule_found rows n)
  where
    by : (t : Bool) → schedule_of (map sending_of rows) n ≡ unwrap_or (option_map (λ q. q.schedule) (find (λ q. q.interchange.icn == n) rows)) unsent_schedule
        → unwrap_or (option_map (λ q. q.schedule) (cond t (Some (sending_of r)) (find (λ q. q.number == n) (map sending_of rows)))) unsent_schedule ≡ unwrap_or (option_map (λ q. q.schedule) (cond t (Some r) (find (λ q. q.interchange.icn == n) rows))) unsent_schedule
    by true rest = refl
    by false rest = rest

-- A tick keeps the interchanges.

pub same_interchange : (now : ℕ) (r : LedgerRow) → (row_sent_if_due now r).interchange ≡ r.interchange
same_interchange now r = by (row_is_due now r)
  where
    by : (t : Bool) → (if t then record r { schedule = sent_at now r.schedule } else r).interchange ≡ r.interchange
    by true = refl
    by false = refl

pub same_interchanges : (now : ℕ) (rows : List LedgerRow) → map (λ (r : LedgerRow). r.interchange) (map (row_sent_if_due now) rows) ≡ map (λ (r : LedgerRow). r.interchange) rows
same_interchanges now [] = refl
same_interchanges now (r ∷ rows) = ap₂ (λ x xs. x ∷ xs) (same_interchange now r) (same_interchanges now rows)

same_found : (now icn : ℕ) (rows : List LedgerRow) → interchange_in (map (row_sent_if_due now) rows) icn ≡ interchange_in rows icn
unfolding interchange_in
same_found now icn [] = refl
same_found now icn (r ∷ rows) = rw (same_interchange now r) (by (r.interchange.icn == icn) (same_found now icn rows))
  where
    by : (t : Bool) → option_map (λ (q : LedgerRow). q.interchange) (find (λ q. q.interchange.icn == icn) (map (row_sent_if_due now) rows)) ≡ option_map (λ (q : LedgerRow). q.interchange) (find (λ q. q.interchange.icn == icn) rows)
        → option_map (λ (q : LedgerRow). q.interchange) (cond t (Some (row_sent_if_due now r)) (find (λ q. q.interchange.icn == icn) (map (row_sent_if_due now) rows))) ≡ option_map (λ (q : LedgerRow). q.interchange) (cond t (Some r) (find (λ q. q.interchange.icn == icn) rows))
    by true rest = ap Some (same_interchange now r)
    by false rest = rest

none_out_after : (now : ℕ) (l : OutboundLedger) → NoneIsOut l → NoneIsOut (after_tick now l)
unfolding after_tick row_in
none_out_after now l none = λ key. rw (same_found (tick_seen l.tick now) key.icn l.rows) (none key)

module _ (now : ℕ) (m : Cached) (l : LedgerInMemory) (is : l.holds ≡ after_tick now m.ledger.holds) where
  -- memory once the tick was seen
  abbrev pub ticked : Cached
  ticked = record m { ledger = l }

  rows_are : l.holds.rows ≡ map (row_sent_if_due (tick_seen m.ledger.holds.tick now)) m.ledger.holds.rows
  unfolding after_tick
  rows_are = ap (λ (v : OutboundLedger). v.rows) is

  interchanges_are : map (λ (r : LedgerRow). r.interchange) l.holds.rows ≡ map (λ (r : LedgerRow). r.interchange) m.ledger.holds.rows
  interchanges_are = ap (map (λ (r : LedgerRow). r.interchange)) rows_are ∙ same_interchanges (tick_seen m.ledger.holds.tick now) m.ledger.holds.rows

  pub ready_after : IsReady m → IsReady ticked
  unfolding after_tick
  ready_after ready = record {
    me = ap (λ (v : OutboundLedger). v.me) is ∙ ready.me;
    plain = ready.plain;
    hubs = ap (λ (v : OutboundLedger). v.hubs) is ∙ ready.hubs;
    none_out = rw is (none_out_after now m.ledger.holds ready.none_out);
    used = all_from_map (λ (r : LedgerRow). r.interchange) (IsNumberedBy m.book) l.holds.rows (subst (λ es. All (IsNumberedBy m.book) es) (sym interchanges_are) (All-map (IsNumberedBy m.book) (λ (r : LedgerRow). r.interchange) m.ledger.holds.rows ready.used));
    seq = ready.seq;
  }

  pub keeps_after : (s : Stored) → Caches m s → Caches ticked s
  keeps_after s keeps = record { marks = keeps.marks; book = keeps.book; seq = keeps.seq; agreements = keeps.agreements; open_ones = interchanges_are ∙ keeps.open_ones }

  pub durable_after : (s : Stored) → IsHistoryOf m.ledger.holds.me m.ledger.holds.hubs s → IsHistoryOf l.holds.me l.holds.hubs s
  unfolding after_tick
  durable_after s durable = rw is durable

  module _ (s : Stored) (keeps : Caches m s) (durable : IsHistoryOf m.ledger.holds.me m.ledger.holds.hubs s) where
    rise : IcnsRise m.ledger.holds.rows
    rise = pairs_from_map (λ (r : LedgerRow). r.interchange) (λ e f. e.icn < f.icn) m.ledger.holds.rows (subst (λ es. AllPairs (λ e f. e.icn < f.icn) es) (sym keeps.open_ones) (AllPairs-filter (λ e f. e.icn < f.icn) row_is_open (entries s) (entries_rise s durable.sound)))

    abbrev seen : ℕ
    seen = tick_seen m.ledger.holds.tick now

    abbrev pub state : Station
    state = station_of m.ledger.holds m.counts s

    opened : filter row_is_open (entries s) ≡ map (λ (r : LedgerRow). r.interchange) m.ledger.holds.rows
    opened = sym keeps.open_ones

    is_open_row : (r : LedgerRow) → Contains m.ledger.holds.rows r → row_is_open r.interchange ≡ true
    is_open_row r at = All-contains (λ (q : LedgerRow). row_is_open q.interchange ≡ true) m.ledger.holds.rows r (all_from_map (λ (q : LedgerRow). q.interchange) (λ e. row_is_open e ≡ true) m.ledger.holds.rows (subst (λ es. All (λ e. row_is_open e ≡ true) es) opened (all_passed row_is_open (entries s)))) at

    -- the schedules
    sendings_are : map sending_of (map (row_sent_if_due seen) m.ledger.holds.rows) ≡ map (station.sent_if_due seen) (map sending_of m.ledger.holds.rows)
    sendings_are = map_twice sending_of (row_sent_if_due seen) m.ledger.holds.rows ∙ map_same_at (λ r. sending_of (row_sent_if_due seen r)) (λ r. station.sent_if_due seen (sending_of r)) m.ledger.holds.rows (λ r at. one r (is_open_row r at)) ∙ sym (map_twice (station.sent_if_due seen) sending_of m.ledger.holds.rows)
      where
        one : (r : LedgerRow) → row_is_open r.interchange ≡ true → sending_of (row_sent_if_due seen r) ≡ station.sent_if_due seen (sending_of r)
        one r e = rw e (by (nat_le r.schedule.due seen))
          where
            by : (t : Bool) → sending_of (if t then record r { schedule = sent_at seen r.schedule } else r) ≡ (if t then record (sending_of r) { schedule = sent_at seen r.schedule } else sending_of r)
            by true = refl
            by false = refl

    -- the open submissions, by the rows
    abbrev xs : List Bytes
    xs = open_submissions x12 state

    own : All (IsOwnSubmission m.ledger.holds.me) xs
    own = All-filter (is_open x12 state) (IsOwnSubmission m.ledger.holds.me) (submissions (items_of s)) durable.own

    entries_are : map (λ (r : LedgerRow). r.interchange) m.ledger.holds.rows ≡ map (fared_entry m.ledger.holds.me m.ledger.holds.hubs (items_of s)) (flat_map submission_in_bytes xs)
    unfolding fared_entries
    entries_are = keeps.open_ones ∙ ap (filter row_is_open) durable.fates ∙ entries_open m.ledger.holds.me m.ledger.holds.hubs (items_of s) (submissions (items_of s)) durable.own

    bytes_are : map (λ (r : LedgerRow). r.interchange.bytes) m.ledger.holds.rows ≡ xs
    bytes_are = sym (map_twice (λ (e : InterchangeRow). e.bytes) (λ (r : LedgerRow). r.interchange) m.ledger.holds.rows) ∙ ap (map (λ (e : InterchangeRow). e.bytes)) entries_are ∙ entry_bytes m.ledger.holds.me m.ledger.holds.hubs (items_of s) xs own

    numbers_are : map (λ (r : LedgerRow). r.interchange.icn) m.ledger.holds.rows ≡ map (λ (r : LedgerRow). x12.number r.interchange.bytes) m.ledger.holds.rows
    numbers_are =
        sym (map_twice (λ (e : InterchangeRow). e.icn) (λ (r : LedgerRow). r.interchange) m.ledger.holds.rows) ∙ ap (map (λ (e : InterchangeRow). e.icn)) entries_are ∙ entry_numbers m.ledger.holds.me m.ledger.holds.hubs (items_of s) xs own
        ∙ ap (map x12.number) (sym bytes_are) ∙ map_twice x12.number (λ (r : LedgerRow). r.interchange.bytes) m.ledger.holds.rows

    number_is : (r : LedgerRow) → Contains m.ledger.holds.rows r → r.interchange.icn ≡ x12.number r.interchange.bytes
    number_is = same_from_maps (λ (r : LedgerRow). r.interchange.icn) (λ (r : LedgerRow). x12.number r.interchange.bytes) m.ledger.holds.rows numbers_are

    schedule_is : (r : LedgerRow) → Contains m.ledger.holds.rows r → schedule_of (map sending_of m.ledger.holds.rows) (x12.number r.interchange.bytes) ≡ r.schedule
    schedule_is r at = rw (← number_is r at, schedule_found m.ledger.holds.rows r.interchange.icn, row_found m.ledger.holds.rows rise r at) refl

    -- what is due
    due_are : filter (λ x. nat_le (schedule_of (map sending_of m.ledger.holds.rows) (x12.number x)).due seen) xs ≡ map (λ (r : LedgerRow). r.interchange.bytes) (filter (row_is_due seen) m.ledger.holds.rows)
    due_are = ap (filter (λ x. nat_le (schedule_of (map sending_of m.ledger.holds.rows) (x12.number x)).due seen)) (sym bytes_are)
        ∙ filter_at (λ x. nat_le (schedule_of (map sending_of m.ledger.holds.rows) (x12.number x)).due seen) (row_is_due seen) (λ (r : LedgerRow). r.interchange.bytes) m.ledger.holds.rows (λ r at. rw (schedule_is r at, is_open_row r at) refl)

    pub ticks : tick x12 state now ≡ record { station = station_of l.holds m.counts s; sends = bytes_due now m.ledger.holds }
    unfolding after_tick bytes_due
    ticks = rw (is, due_are, sendings_are) refl

-- The open submissions are as many as the ledger's rows.

all_kept : {X : Type 0} (p : X → Bool) (ys : List X) → ((x : X) → Contains ys x → p x ≡ true) → filter p ys ≡ ys
all_kept p [] all = refl
all_kept p (y ∷ ys) all = rw (all y (contains_head y ys)) (ap (λ l. y ∷ l) (all_kept p ys (λ x at. all x (contains_tail x y ys at))))

count_all : {X : Type 0} (p : X → Bool) (ys : List X) → ((x : X) → Contains ys x → p x ≡ true) → count_by p ys ≡ length ys
count_all p ys all = sym (length-filter p ys) ∙ ap length (all_kept p ys all)

pub open_is : (m : Cached) (s : Stored) → Caches m s → IsHistoryOf m.ledger.holds.me m.ledger.holds.hubs s → open_interchanges m.ledger.holds ≡ length (open_submissions x12 (station_of m.ledger.holds m.counts s))
unfolding open_interchanges
open_is m s caches history =
    count_all (λ (r : LedgerRow). row_is_open r.interchange) m.ledger.holds.rows (is_open_row 0 m (record m.ledger { holds = after_tick 0 m.ledger.holds }) refl s caches history)
    ∙ sym (length-map m.ledger.holds.rows (λ (r : LedgerRow). r.interchange.bytes))
    ∙ ap length (bytes_are 0 m (record m.ledger { holds = after_tick 0 m.ledger.holds }) refl s caches history)

-- what is due is open
due_open : (t : ℕ) (rows : List LedgerRow) → length (filter (row_is_due t) rows) ≤ length (filter (λ (r : LedgerRow). row_is_open r.interchange) rows)
due_open t [] = omega arith
due_open t (r ∷ rows) = by (row_is_open r.interchange) (nat_le r.schedule.due t) (due_open t rows)
  where
    due_rows : List LedgerRow
    due_rows = filter (row_is_due t) rows

    open_rows : List LedgerRow
    open_rows = filter (λ (x : LedgerRow). row_is_open x.interchange) rows

    by : (is_open is_due : Bool) → length due_rows ≤ length open_rows → length (cond (is_open && is_due) (r ∷ due_rows) due_rows) ≤ length (cond is_open (r ∷ open_rows) open_rows)
    by true true le = omega arith
    by true false le = omega arith
    by false is_due le = le

pub due_bounded : (now : ℕ) (v : OutboundLedger) → length (bytes_due now v) ≤ open_interchanges v
unfolding bytes_due open_interchanges
due_bounded now v =
    let t = tick_seen v.tick now in
    let due = length-map (filter (row_is_due t) v.rows) (λ (r : LedgerRow). r.interchange.bytes) in
    let all = length-filter (λ (r : LedgerRow). row_is_open r.interchange) v.rows in
    let le = due_open t v.rows in
    omega (arith, due, all, le)
