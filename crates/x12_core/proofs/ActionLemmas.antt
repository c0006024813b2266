-- Of what a node is asked, action by action: how many packets it sends at most, what it submits, and that
-- a hub stays one.
use Rattle.std.specs.Prelude.{◌≡◌, ◌≤◌, ◌+◌, ℕ, suc, List, [], ◌∷◌, ◌++◌, Bool, true, false, Option, Some, None, bytes_eq, filter, if◌then◌else◌, is_none, length, option_to_list, refl}
use mathlib.Core.Path.{sym, ap, subst, ◌∙◌}
use native.Mathlib.Omega.{arith}
use Rattle.std.proofs.lemmas.List.{length-append, length-map}
use Rattle.x12_numbers.proofs.Shelf.{if_some_parts, some_inj}
use Rattle.x12_envelopes.specs.declared.moment.Moment.{Moment}
use Rattle.x12_profile.specs.Interchange.{Bytes, book_for}
use Rattle.x12_profile.specs.X12.{x12}
use Rattle.x12_station.specs.History.{KeptArrival, filed}
use Rattle.x12_station.specs.Station.{Station, edition_next}
use Rattle.x12_station.specs.StationStep.{StationStep, submit, submit_orders, may_submit, entered, arrive, arrive_at, writes, tick, open_submissions}
use Rattle.x12_station.specs.StationRefusal.{orders_refusal, written_orders}
use Rattle.x12_hub.specs.Hub.{Hub, HubStep, HubOutcome, Boxed, Refused, collect, deposit}
use Rattle.x12_core.specs.declared.packet.Site.{Site}
use Rattle.x12_core.specs.Effect.{Effect, from_station, from_hub, refusals, deposits, items_to, reports_taken}
use Rattle.x12_core.specs.Packet.{Packet, Deposit, Item, Refusal, Taken}
use Rattle.x12_core.specs.Node.{IsHub, IsStation, is_hub}
use Rattle.x12_core.specs.Action.{Action, Orders, Prepared, Tick, Collect, Agree, Enrol, Dismiss, Restart, acts, submits}
use Rattle.x12_core.specs.Ask.{Ask, Do, Comes, Outside, Fate, does_at}
use Rattle.x12_core.specs.Submission.{submitted_numbers}

filter_short : {X : Type 0} (p : X → Bool) (xs : List X) → length (filter p xs) ≤ length xs
filter_short p [] = omega arith
filter_short p (x ∷ xs) = by (p x) (filter_short p xs)
  where
    by : (t : Bool) → length (filter p xs) ≤ length xs → length (if t then x ∷ filter p xs else filter p xs) ≤ suc (length xs)
    by true le = omega arith
    by false le = omega arith

-- a step that sends so many interchanges
AtMost : ℕ → Option StationStep → Type 0
AtMost n None = Unit {0}
AtMost n (Some step) = length step.sends ≤ n

from_bounded : (i : Site) (n : ℕ) (first : List Packet) (o : Option StationStep) (e : Effect) → AtMost n o → from_station i first o ≡ Some e → length e.sends ≤ length first + n
unfolding AtMost
from_bounded i n first None e le is = absurd cc
from_bounded i n first (Some step) e le is = subst (λ (f : Effect). length f.sends ≤ length first + n) (some_inj is) (let m : length (first ++ deposits i step.sends) ≡ length first + length (deposits i step.sends) = length-append first (deposits i step.sends) in let k : length (deposits i step.sends) ≡ length step.sends = length-map step.sends (λ b. record { from = i.node; to = i.hub; load = Deposit b }) in omega (arith, m, k, le))

both_ways : (n : ℕ) (t : Bool) (a b : Option StationStep) → AtMost n a → AtMost n b → AtMost n (if t then a else b)
both_ways n true a b x y = x
both_ways n false a b x y = y

option_short : {A : Type 0} (o : Option A) → length (option_to_list o) ≤ 1
option_short None = omega arith
option_short (Some x) = omega arith

submit_one : (s : Station) (x : Bytes) → AtMost 1 (submit x12 s x)
unfolding AtMost
submit_one s x = both_ways 1 (may_submit x12 s x) (Some (record { station = entered x12 s x; sends = x ∷ [] })) None (omega arith) tt

orders_one : (s : Station) (i : Site) (e : Effect) (o : Option StationStep) (t : Bool) → AtMost 1 o → AtMost 1 (if t then o else None)
unfolding AtMost
orders_one s i e o t le = both_ways 1 t o None le tt

found_one : (s : Station) (m : Moment) (b : Bytes) (found : Option KeptArrival) → AtMost 1 (arrive_at x12 s m b found)
unfolding AtMost
found_one s m b None = both_ways 1 (x12.needs (edition_next s) s.me s.agreements b).reply (writes x12 (book_for s.book (x12.needs (edition_next s) s.me s.agreements b)) _) _ (both_ways 1 _ (Some _) None (omega arith) tt) (omega arith)
found_one s m b (Some f) = both_ways 1 (bytes_eq f.body b) (Some (record { station = s; sends = option_to_list f.reply })) _ (option_short f.reply)
    (both_ways 1 (x12.is_silent b) (Some (record { station = s; sends = [] })) _ (omega arith) (both_ways 1 _ (Some _) None (omega arith) tt))

arrive_one : (s : Station) (m : Moment) (b : Bytes) → AtMost 1 (arrive x12 s m b)
unfolding AtMost
arrive_one s m b = both_ways 1 (x12.has_header b) (arrive_at x12 s m b (filed x12 s.items (x12.sender b) (x12.number b))) None (found_one s m b (filed x12 s.items (x12.sender b) (x12.number b))) tt

-- a station: two where it acts otherwise than at a tick
acts_two : (i : Site) (a : Action) (s : Station) (e : Effect) → ((now : ℕ) → a ≡ Tick now → ⊥) → acts x12 i a (IsStation s) ≡ Some e → length e.sends ≤ 2
acts_two i (Orders to m os) s e other is = let n = from_bounded i 1 [] _ e (orders_one s i e (submit x12 s (written_orders x12 s to m os)) (is_none (orders_refusal x12 s to m os)) (submit_one s (written_orders x12 s to m os))) is in omega arith
acts_two i (Prepared x) s e other is = let n = from_bounded i 1 [] _ e (submit_one s x) is in omega arith
acts_two i (Tick now) s e other is = absurd (other now refl)
acts_two i (Collect j) s e other is = absurd cc
acts_two i (Agree t) s e other is = subst (λ (f : Effect). length f.sends ≤ 2) (some_inj is) (omega arith)
acts_two i (Enrol party j) s e other is = absurd cc
acts_two i (Dismiss party) s e other is = absurd cc
acts_two i Restart s e other is = subst (λ (f : Effect). length f.sends ≤ 2) (some_inj is) (omega arith)

pub station_two : (i : Site) (k : Ask) (s : Station) (e : Effect) → ((now : ℕ) → k ≡ Do (Tick now) → ⊥) → does_at x12 i k (IsStation s) ≡ Some e → length e.sends ≤ 2
station_two i (Do a) s e other is = acts_two i a s e (λ now tick. other now (ap Do tick)) is
station_two i (Comes name from (Item item b) m) s e other is = let n = from_bounded i 1 (reports_taken i.node from item ∷ []) _ e (arrive_one s m b) is in omega arith
station_two i (Comes name from (Refusal b) m) s e other is = let n = from_bounded i 1 [] _ e (arrive_one s m b) is in omega arith
station_two i (Comes name from (Deposit b) m) s e other is = absurd cc
station_two i (Comes name from (Taken item) m) s e other is = absurd cc
station_two i (Outside b m) s e other is = let n = from_bounded i 1 [] _ e (arrive_one s m b) is in omega arith
station_two i (Fate key) s e other is = absurd cc

-- at a tick: what is open
pub tick_open : (i : Site) (now : ℕ) (s : Station) (e : Effect) → does_at x12 i (Do (Tick now)) (IsStation s) ≡ Some e → length e.sends ≤ length (open_submissions x12 s)
unfolding AtMost
tick_open i now s e is = let n = from_bounded i (length (open_submissions x12 s)) [] (Some (tick x12 s now)) e (short s now) is in omega arith
  where
    short : (s : Station) (now : ℕ) → AtMost (length (open_submissions x12 s)) (Some (tick x12 s now))
    short s now = filter_short _ (open_submissions x12 s)

hub_refusals : (hub : ℕ) (to : Option ℕ) (o : HubOutcome) → length (refusals hub to o) ≤ 1
hub_refusals hub (Some to) (Refused reply) = omega arith
hub_refusals hub (Some to) (Boxed node item) = omega arith
hub_refusals hub None o = omega arith

from_hub_two : (hub : ℕ) (first : List Packet) (to : Option ℕ) (o : Option HubStep) (e : Effect) → length first ≤ 1 → from_hub hub first to o ≡ Some e → length e.sends ≤ 2
from_hub_two hub first to None e le is = absurd cc
from_hub_two hub first to (Some step) e le is = subst (λ (f : Effect). length f.sends ≤ 2) (some_inj is) (let m : length (first ++ refusals hub to step.outcome) ≡ length first + length (refusals hub to step.outcome) = length-append first (refusals hub to step.outcome) in let k = hub_refusals hub to step.outcome in omega (arith, m, k, le))

-- a hub: two where it acts otherwise than at a collection
hub_acts_two : (i : Site) (a : Action) (h : Hub) (e : Effect) → ((j : ℕ) → a ≡ Collect j → ⊥) → acts x12 i a (IsHub h) ≡ Some e → length e.sends ≤ 2
hub_acts_two i (Orders to m os) h e other is = absurd cc
hub_acts_two i (Prepared x) h e other is = absurd cc
hub_acts_two i (Tick now) h e other is = absurd cc
hub_acts_two i (Collect j) h e other is = absurd (other j refl)
hub_acts_two i (Agree t) h e other is = absurd cc
hub_acts_two i (Enrol party j) h e other is = subst (λ (f : Effect). length f.sends ≤ 2) (some_inj is) (omega arith)
hub_acts_two i (Dismiss party) h e other is = subst (λ (f : Effect). length f.sends ≤ 2) (some_inj is) (omega arith)
hub_acts_two i Restart h e other is = subst (λ (f : Effect). length f.sends ≤ 2) (some_inj is) (omega arith)

pub hub_two : (i : Site) (k : Ask) (h : Hub) (e : Effect) → ((j : ℕ) → k ≡ Do (Collect j) → ⊥) → does_at x12 i k (IsHub h) ≡ Some e → length e.sends ≤ 2
hub_two i (Do a) h e other is = hub_acts_two i a h e (λ j collects. other j (ap Do collects)) is
hub_two i (Comes name from (Deposit b) m) h e other is = from_hub_two i.node [] (Some from) (deposit x12 h m b) e (omega arith) is
hub_two i (Comes name from (Taken item) m) h e other is = subst (λ (f : Effect). length f.sends ≤ 2) (some_inj is) (omega arith)
hub_two i (Comes name from (Item item b) m) h e other is = from_hub_two i.node (reports_taken i.node from item ∷ []) (Some from) (deposit x12 h m b) e (omega arith) is
hub_two i (Comes name from (Refusal b) m) h e other is = from_hub_two i.node [] None (deposit x12 h m b) e (omega arith) is
hub_two i (Outside b m) h e other is = from_hub_two i.node [] None (deposit x12 h m b) e (omega arith) is
hub_two i (Fate key) h e other is = absurd cc

-- at a collection: what waits
pub collect_waiting : (i : Site) (j : ℕ) (h : Hub) (e : Effect) → does_at x12 i (Do (Collect j)) (IsHub h) ≡ Some e → length e.sends ≤ length (collect h j)
collect_waiting i j h e is = subst (λ (f : Effect). length f.sends ≤ length (collect h j)) (some_inj is) (let n : length (items_to x12 i.node j (collect h j)) ≡ length (collect h j) = length-map (collect h j) (λ c. record { from = i.node; to = j; load = Item c.0 c.1 }) in omega (arith, n))

-- What a station submits by an action: an interchange, or nothing.
pub data Submits (i : Site) (a : Action) (s : Station) (e : Effect) : Type 0 where
  submits_one : (x : Bytes) → submits a ≡ true → from_station i [] (submit x12 s x) ≡ Some e → Submits i a s e
  submits_none : (t : Station) → submits a ≡ false → e.node ≡ IsStation t → submitted_numbers t ≡ submitted_numbers s → Submits i a s e

step_of : (i : Site) (first : List Packet) (o : Option StationStep) (e : Effect) → from_station i first o ≡ Some e → (step : StationStep) × (o ≡ Some step) × (e.node ≡ IsStation step.station)
step_of i first None e is = absurd cc
step_of i first (Some step) e is = (step, refl, sym (ap (λ (f : Effect). f.node) (some_inj is)))

pub acts_submit : (i : Site) (a : Action) (s : Station) (e : Effect) → acts x12 i a (IsStation s) ≡ Some e → Submits i a s e
acts_submit i (Orders to m os) s e is =
    let f = step_of i [] (submit_orders x12 s to m os) e is in
    let y = written_orders x12 s to m os in
    let asked : submit x12 s y ≡ submit_orders x12 s to m os =
    (if_some_parts (is_none (orders_refusal x12 s to m os)) (submit x12 s y) f.0 f.1).1 ∙ sym f.1 in
    submits_one y refl (ap (from_station i []) asked ∙ is)
acts_submit i (Prepared x) s e is = submits_one x refl is
acts_submit i (Tick now) s e is = let f = step_of i [] (Some (tick x12 s now)) e is in submits_none f.0.station refl f.2 (ap (λ (t : StationStep). submitted_numbers t.station) (sym (some_inj f.1)))
acts_submit i (Collect j) s e is = absurd cc
acts_submit i (Agree t) s e is = submits_none _ refl (sym (ap (λ (f : Effect). f.node) (some_inj is))) refl
acts_submit i (Enrol party j) s e is = absurd cc
acts_submit i (Dismiss party) s e is = absurd cc
acts_submit i Restart s e is = submits_none _ refl (sym (ap (λ (f : Effect). f.node) (some_inj is))) refl

-- a hub that acts submits nothing, and stays a hub
pub hub_acts : (i : Site) (a : Action) (h : Hub) (e : Effect) → acts x12 i a (IsHub h) ≡ Some e → (submits a ≡ false) × (is_hub (Some e.node) ≡ true)
hub_acts i (Orders to m os) h e is = absurd cc
hub_acts i (Prepared x) h e is = absurd cc
hub_acts i (Tick now) h e is = absurd cc
hub_acts i (Collect j) h e is = (refl, ap (λ (f : Effect). is_hub (Some f.node)) (sym (some_inj is)))
hub_acts i (Agree t) h e is = absurd cc
hub_acts i (Enrol party j) h e is = (refl, ap (λ (f : Effect). is_hub (Some f.node)) (sym (some_inj is)))
hub_acts i (Dismiss party) h e is = (refl, ap (λ (f : Effect). is_hub (Some f.node)) (sym (some_inj is)))
hub_acts i Restart h e is = (refl, ap (λ (f : Effect). is_hub (Some f.node)) (sym (some_inj is)))
