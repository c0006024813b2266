-- What a stop leaves of a station, by what it leaves of its records.
use Rattle.std.specs.Prelude.{◌≡◌, Bool, true, false, IsTrue, List, Option, None, Result, refl}
use mathlib.Core.Logic.{inl, inr}
use mathlib.Core.Path.{ap, subst, sym}
use Rattle.x12_numbers.specs.Book.{Numbers}
use Rattle.x12_envelopes.specs.declared.moment.Moment.{Moment}
use Rattle.x12_envelopes.specs.declared.party.Party.{Party}
use Rattle.x12_outbound.specs.declared.evidence.Counts.{Counts}
use Rattle.x12_outbound.specs.Entry.{InterchangeRow}
use Rattle.x12_outbound.specs.Ledger.{OutboundLedger}
use Rattle.x12_profile.specs.Interchange.{Bytes, Order, book_for, is_within}
use Rattle.x12_profile.specs.Stop.{OnlyAsks}
use Rattle.x12_profile.specs.X12.{x12}
use Rattle.x12_station.specs.declared.cached.Cached.{Cached}
use Rattle.x12_station.specs.declared.records.Records.{Ghosts}
use Rattle.x12_station.specs.Durable.{items_of}
use Rattle.x12_station.specs.Entering.{IsHeld}
use Rattle.x12_station.specs.Fault.{prepared_fault}
use Rattle.x12_station.specs.Keeps.{Caches, IsReady}
use Rattle.x12_station.specs.Opened.{HoldsState}
use Rattle.x12_station.specs.Plan.{Commit, TakesNumbers, stored_after}
use Rattle.x12_station.specs.Seen.{StationMemory, StationView, station_of}
use Rattle.x12_station.specs.Standing.{LeavesNoMore, MayLeave}
use Rattle.x12_station.specs.Station.{Station}
use Rattle.x12_station.specs.StationStep.{StationStep, arrive_other, entered, submit, submit_orders}
use Rattle.x12_station.specs.Stopped.{HoldsStep, LeavesStep, LeavesWhole}
use Rattle.x12_station.specs.Stored.{Stored, marks_of}
use Rattle.x12_station.specs.working.Orders.{IsOrdered}
use Rattle.x12_station.specs.working.Prepared.{Knows, MayEnter}
use Rattle.x12_station.proofs.ArrivingLemmas.{left_noted}
use Rattle.x12_station.proofs.EnteringLemmas.{holds_planned, plan_of}
use Rattle.x12_station.proofs.OrdersLemmas.{orders_held}
use Rattle.x12_station.proofs.SubmittingLemmas.{knows_held, submit_held}

pub answers_of : {R : Type 0} {v w : StationView R} → v ≡ w → IsTrue w.answers → IsTrue v.answers
answers_of is answers = subst (λ (u : StationView _). IsTrue u.answers) (sym is) answers

-- records that weren't touched, or were asked
pub step_untouched : {R : Type 0} (g : Ghosts R) (step : Option StationStep) {a : R} → LeavesStep g step a a
step_untouched g step = record { left = λ _ _ may. inl may }

pub step_asked : {R : Type 0} (g : Ghosts R) (step : Option StationStep) {a b : R} → LeavesNoMore g a b → LeavesStep g step a b
step_asked g step leaves = record { left = λ clean d may. inl (leaves.left clean d may) }

pub step_only_asked : {R A E : Type 0} (g : Ghosts R) (step : Option StationStep) {r : Result A E} {a b : R} → OnlyAsks r (g.clean a) (g.clean b) (g.answers b) (g.may_leave a) (g.may_leave b) → LeavesStep g step a b
step_only_asked g step asks = record { left = λ clean d may. inl (asks.left clean d may) }

-- and records to which a plan was written, with which they hold the station after this step
pub step_committed : {R A E : Type 0} (g : Ghosts R) (step : Option StationStep) (plan : Commit) {r : Result A E} {a b : R} → MayLeave g plan r a b
    → (IsTrue (g.answers a) → HoldsStep step (stored_after plan (g.content a))) → LeavesStep g step a b
step_committed g step plan leaves holds = record {
  left = λ clean d may. elim (leaves.left clean d may) [
    | inl old ↦ inl old
    | inr done ↦ inr (done.0, subst (HoldsStep step) (sym done.1) (holds done.0))
  ];
}

-- records that were asked first
pub step_then : {R : Type 0} (g : Ghosts R) (mid step : Option StationStep) {a b c : R} → LeavesNoMore g a b → (IsTrue (g.answers b) → IsTrue (g.answers a))
    → (IsTrue (g.clean c) → IsTrue (g.clean b)) → LeavesStep g mid b c → (IsTrue (g.answers b) → mid ≡ step) → LeavesStep g step a c
step_then g mid step asked won clean_before next same = record {
  left = λ clean d may. elim (next.left clean d may) [
    | inl old ↦ inl (asked.left (clean_before clean) d old)
    | inr done ↦ inr (won done.0, subst (λ s. HoldsStep s d) (same done.0) done.1)
  ];
}

held_by : (v : OutboundLedger) (c : Counts) (s d : Stored) → d ≡ s → HoldsState (station_of v c s) d
held_by v c s d is = record { marks = ap (λ (z : Stored). marks_of z.origin) is; items = ap items_of is; agreements = ap (λ (z : Stored). z.agreements) is; book = ap (λ (z : Stored). z.book) is }

-- a station as it is seen
abbrev pub seen : {R : Type 0} → Ghosts R → OutboundLedger → Counts → StationMemory → R → StationView R
seen g v c m a = record {
  records = a;
  state = station_of v c (g.content a);
  failures = g.failed a;
  answers = g.answers a;
  clean = g.clean a;
  memory = m;
}

-- what is left of its records is left of it
pub whole : {R : Type 0} (g : Ghosts R) (step : Option StationStep) (v w : OutboundLedger) (c k : Counts) {m n : StationMemory} {a b : R}
    → ((d : Stored) → IsTrue (g.answers b) → g.may_leave b d → d ≡ g.content b) → LeavesStep g step a b → LeavesWhole g step (seen g v c m a) (seen g w k n b)
whole g step v w c k {b = b} law leaves = record {
  left = leaves.left;
  kept = λ answers d may. held_by w k (g.content b) d (law d answers may);
}

-- The steps of a station that writes.

pub submit_left : (m : Cached) (ready : IsReady m) (book : Numbers) (e : InterchangeRow) (may : MayEnter m book e) (s : Stored) (held : IsHeld m s) (x : Bytes) → e.bytes ≡ x
    → ((t : Station) → Knows m t → prepared_fault t x ≡ None) → HoldsStep (submit x12 (station_of m.ledger.holds m.counts s) x) (stored_after (plan_of m book e) s)
submit_left m ready book e may s held x same allowed =
    let old = station_of m.ledger.holds m.counts s in
    submit_held old x (stored_after (plan_of m book e) s) (allowed old (knows_held m s ready held))
    (subst (λ b. HoldsState (entered x12 old b) (stored_after (plan_of m book e) s)) same (holds_planned m ready book e may s held))

pub orders_left : (m : Cached) (ready : IsReady m) (book : Numbers) (e : InterchangeRow) (may : MayEnter m book e) (s : Stored) (held : IsHeld m s) (to : Party) (at : Moment) (texts : List Order) (x : Bytes) → e.bytes ≡ x
    → ((t : Station) → Knows m t → IsOrdered t to at texts x) → HoldsStep (submit_orders x12 (station_of m.ledger.holds m.counts s) to at texts) (stored_after (plan_of m book e) s)
orders_left m ready book e may s held to at texts x same ordered =
    let old = station_of m.ledger.holds m.counts s in
    orders_held old to at texts x (stored_after (plan_of m book e) s) (ordered old (knows_held m s ready held))
    (subst (λ b. HoldsState (entered x12 old b) (stored_after (plan_of m book e) s)) same (holds_planned m ready book e may s held))

-- the refusal of other bytes, where a number is left for it
pub step_noted : {R A E : Type 0} (g : Ghosts R) (m : Cached) (at : Moment) (b : Bytes) {r : Result A E} {a c : R} → (IsTrue (g.answers a) → Caches m (g.content a)) → x12.is_silent b ≡ false
    → (is_within (book_for m.book (record { reply = true; group = false })) ≡ false → LeavesNoMore g a c)
    → MayLeave g (record { book = book_for m.book (record { reply = true; group = false }); seq = m.seq; change = TakesNumbers }) r a c
    → LeavesStep g (arrive_other x12 (station_of m.ledger.holds m.counts (g.content a)) at b (book_for (g.content a).book (record { reply = true; group = false }))) a c
step_noted g m at b {r = r} {a = a} {c = c} keeps loud spent leaves = by (is_within (book_for m.book (record { reply = true; group = false }))) refl
  where
    by : (t : Bool) → is_within (book_for m.book (record { reply = true; group = false })) ≡ t
        → LeavesStep g (arrive_other x12 (station_of m.ledger.holds m.counts (g.content a)) at b (book_for (g.content a).book (record { reply = true; group = false }))) a c
    by true is = step_committed g _ (record { book = book_for m.book (record { reply = true; group = false }); seq = m.seq; change = TakesNumbers }) leaves (λ answers. left_noted m (g.content a) (keeps answers) at b loud is)
    by false is = step_asked g _ (spent is)
