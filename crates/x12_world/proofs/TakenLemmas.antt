-- An event that no row refuses is taken: its node has an effect. And where a node did as it was asked,
-- no row of its own table refuses it.
use Rattle.std.specs.Prelude.{◌≡◌, ◌≢◌, ℕ, suc, ◌+◌, List, [], ◌∷◌, Bool, true, false, ◌&&◌, not, nat_le, if◌then◌else◌, Option, Some, None, is_some, is_none, refl, option_map, option_and_then, bytes_eq}
use mathlib.Core.Path.{ap, ◌∙◌}
use Rattle.std.proofs.Common.{ne_eqb}
use Rattle.std.proofs.lemmas.Bool.{and_parts, not-false}
use Rattle.x12_numbers.specs.declared.book.TheConstants.{MAX_CONTROL_NUMBER}
use Rattle.x12_numbers.proofs.Shelf.{none_if_not_some, some_inj}
use Rattle.x12_envelopes.specs.declared.party.Party.{Party}
use Rattle.x12_envelopes.specs.declared.moment.Moment.{Moment}
use Rattle.x12_judge.specs.Agreement.{is_same_party}
use Rattle.x12_acks.specs.Submission.{TransactionSetKey}
use Rattle.x12_profile.specs.Interchange.{Bytes, Order, Book, Needs, book_for, is_within}
use Rattle.x12_profile.specs.Profile.{Profile}
use Rattle.x12_station.specs.History.{KeptArrival, filed}
use Rattle.x12_station.specs.Station.{Station, edition_next}
use Rattle.x12_station.specs.StationRefusal.{StationRefusal, prepared_refusal, orders_refusal, book_of_orders, written_orders, arrival_takes, arrival_refusal, is_spent, within_numbers}
use Rattle.x12_station.specs.StationStep.{StationStep, submit, submit_orders, arrive_at, arrive}
use Rattle.x12_hub.specs.Hub.{Hub, HubStep, HubOutcome, decided, mailbox_of, deposit, deposit_at, deposit_new}
use Rattle.x12_hub.specs.HubRefusal.{is_first_deposit, is_unroutable, deposit_refusal}
use Rattle.x12_core.specs.Action.{Action, Orders, Prepared, Tick, Collect, Agree, Enrol, Dismiss, Restart, acts, acts_so, node_served}
use Rattle.x12_core.specs.Ask.{Ask, Do, Comes, Outside, Fate, bytes_refusal, does_at, is_for, node_meant, own_refusal, refusal_of_ask, suits}
use Rattle.x12_core.specs.declared.packet.Site.{Site}
use Rattle.x12_core.specs.Effect.{Effect, reports_taken, from_station, from_hub, comes, comes_outside}
use Rattle.x12_core.specs.Node.{Node, IsHub, IsStation}
use Rattle.x12_core.specs.NodeRefusal.{OfStation, OfHub}
use Rattle.x12_core.specs.Packet.{Packet, PacketName, Load, Deposit, Item, Refusal, Taken}
use Rattle.x12_world.specs.Effect.{Asked, asked_by, asked_to_take, effect_at, after_effect, after_asked}
use Rattle.x12_world.specs.EventRefusal.{has_nodes, is_there, may_be_asked, node_refusal}
use Rattle.x12_world.specs.Nodes.{node_at, site_of}
use Rattle.x12_world.specs.Packet.{SentPacket, packet_of}
use Rattle.x12_world.specs.Refused.{IsRefusedByName}
use Rattle.x12_world.specs.World.{World, Event, At, Deliver}
use Rattle.x12_world.specs.World as event
use Rattle.x12_world.proofs.RefusalLemmas.{row_apart, Admits, admitted}

-- a station's answer
written : {A : Type 0} (w : Bool) (a : A) → not w ≡ false → is_some (if w then Some a else None) ≡ true
written true a e = refl
written false a e = absurd cc

due_or_not : {A : Type 0} (reply w : Bool) (a b : A) → (reply && not w) ≡ false → is_some (if reply then (if w then Some a else None) else Some b) ≡ true
due_or_not true w a b e = written w a e
due_or_not false w a b e = refl

other_or_not : {A : Type 0} (same silent : Bool) (book : Book) (a b c : A) → is_spent book (record { reply = not same && not silent; group = false }) ≡ false
    → is_some (if same then Some a else (if silent then Some b else (if is_within (book_for book (record { reply = true; group = false })) then Some c else None))) ≡ true
other_or_not true silent book a b c e = refl
other_or_not false true book a b c e = refl
other_or_not false false book a b c e = written (is_within (book_for book (record { reply = true; group = false }))) c e

option_map_none : {A B : Type 0} (f : A → B) (o : Option A) → option_map f o ≡ None → o ≡ None
option_map_none f None e = refl
option_map_none f (Some x) e = absurd cc

-- no event asks for a fate
never_fate : (packets : List SentPacket) (e : Event) (a : Asked) → asked_by packets e ≡ Some a → (k : TransactionSetKey) → a.ask ≡ Fate k → ⊥
never_fate packets (At i x) a is k fate = let same : Do x ≡ Fate k = ap (λ (z : Asked). z.ask) (some_inj is) ∙ fate in cc
never_fate packets (Deliver name m) a is k fate = by (packet_of packets name) is
  where
    by : (o : Option Packet) → option_map (asked_to_take name m) o ≡ Some a → ⊥
    by None is = cc
    by (Some q) is = let same : Comes name q.from q.load m ≡ Fate k = ap (λ (z : Asked). z.ask) (some_inj is) ∙ fate in cc
never_fate packets (event.Outside i b m) a is k fate = let same : Outside b m ≡ Fate k = ap (λ (z : Asked). z.ask) (some_inj is) ∙ fate in cc

module _ (p : Profile) where
  arrival_taken : (s : Station) (m : Moment) (b : Bytes) → arrival_refusal p s b ≡ None → is_some (arrive p s m b) ≡ true
  arrival_taken s m b empty =
      let takes : Needs = arrival_takes p s b (filed p s.items (p.sender b) (p.number b)) in
      let header = row_apart (not (p.has_header b)) _ _ empty in
      let spent = row_apart (is_spent s.book takes) _ _ header.1 in
      rw (not-false (p.has_header b) header.0) (by (filed p s.items (p.sender b) (p.number b)) spent.0)
    where
      by : (found : Option KeptArrival) → is_spent s.book (arrival_takes p s b found) ≡ false → is_some (arrive_at p s m b found) ≡ true
      by None within = due_or_not (p.needs (edition_next s) s.me s.agreements b).reply (is_within (book_for s.book (p.needs (edition_next s) s.me s.agreements b))) _ _ within
      by (Some f) within = other_or_not (bytes_eq f.body b) (p.is_silent b) s.book _ _ _ within

  prepared_taken : (s : Station) (x : Bytes) → prepared_refusal p s x ≡ None → is_some (submit p s x) ≡ true
  prepared_taken s x empty = rw empty refl

  orders_taken : (s : Station) (to : Party) (m : Moment) (texts : List Order) → orders_refusal p s to m texts ≡ None → is_some (submit_orders p s to m texts) ≡ true
  orders_taken s to m texts empty =
      let own = row_apart (is_same_party to s.me) _ _ empty in
      let form = row_apart (not (p.may_order to texts)) _ _ own.1 in
      let size = row_apart (not (p.is_submission (p.orders s.me to m (within_numbers (book_of_orders s)) texts))) _ _ form.1 in
      let left = row_apart (not (is_within (book_of_orders s))) _ _ size.1 in
      let may = row_apart (is_some (prepared_refusal p s (written_orders p s to m texts))) _ _ left.1 in
      rw empty (prepared_taken s (written_orders p s to m texts) (none_if_not_some (prepared_refusal p s (written_orders p s to m texts)) may.0))

  deposit_taken : (h : Hub) (m : Moment) (b : Bytes) → deposit_refusal p h b ≡ None → is_some (deposit p h m b) ≡ true
  deposit_taken h m b empty =
      let first = is_first_deposit h b in
      let unroutable = is_unroutable p h b in
      let header = row_apart (not (p.has_header b)) _ _ empty in
      let item = row_apart (first && not (nat_le (h.item + 1) MAX_CONTROL_NUMBER)) _ _ header.1 in
      let icn = row_apart (unroutable && not (nat_le (h.icn + 1) MAX_CONTROL_NUMBER)) _ _ item.1 in
      rw (not-false (p.has_header b) header.0) (by (decided h.decisions b) item.0 icn.0)
    where
      new : (node : Option ℕ) → (is_none node && not (nat_le (h.icn + 1) MAX_CONTROL_NUMBER)) ≡ false → is_some (deposit_new p h m b node) ≡ true
      new (Some node) icn = refl
      new None icn = written (nat_le (h.icn + 1) MAX_CONTROL_NUMBER) _ icn

      by : (o : Option HubOutcome) → (is_none o && not (nat_le (h.item + 1) MAX_CONTROL_NUMBER)) ≡ false
          → ((is_none o && is_none (mailbox_of h.directory (p.receiver b))) && not (nat_le (h.icn + 1) MAX_CONTROL_NUMBER)) ≡ false → is_some (deposit_at p h m b o) ≡ true
      by (Some o) item icn = refl
      by None item icn = rw (not-false (nat_le (h.item + 1) MAX_CONTROL_NUMBER) item) (new (mailbox_of h.directory (p.receiver b)) icn)

  station_effect : (i : Site) (first : List Packet) (o : Option StationStep) → is_some o ≡ true → is_some (from_station i first o) ≡ true
  station_effect i first None e = e
  station_effect i first (Some step) e = refl

  hub_effect : (k : ℕ) (first : List Packet) (to : Option ℕ) (o : Option HubStep) → is_some o ≡ true → is_some (from_hub k first to o) ≡ true
  hub_effect k first to None e = e
  hub_effect k first to (Some step) e = refl

  outside_taken : (i : Site) (b : Bytes) (m : Moment) (n : Node) → bytes_refusal p b n ≡ None → is_some (comes_outside p i b m n) ≡ true
  outside_taken i b m (IsHub h) own = hub_effect i.node [] None (deposit p h m b) (deposit_taken h m b (option_map_none OfHub (deposit_refusal p h b) own))
  outside_taken i b m (IsStation s) own = station_effect i [] (arrive p s m b) (arrival_taken s m b (option_map_none OfStation (arrival_refusal p s b) own))

  load_taken : (i : Site) (name : PacketName) (from : ℕ) (l : Load) (m : Moment) (n : Node) → is_for l (Some n) ≡ true → refusal_of_ask p (Comes name from l m) n ≡ None → is_some (comes p i from l m n) ≡ true
  load_taken i name from (Deposit b) m (IsHub h) fits own = hub_effect i.node [] (Some from) (deposit p h m b) (deposit_taken h m b (option_map_none OfHub (deposit_refusal p h b) own))
  load_taken i name from (Taken k) m (IsHub h) fits own = refl
  load_taken i name from (Item k b) m (IsHub h) fits own = hub_effect i.node (reports_taken i.node from k ∷ []) (Some from) (deposit p h m b) (deposit_taken h m b (option_map_none OfHub (deposit_refusal p h b) own))
  load_taken i name from (Refusal b) m (IsHub h) fits own = hub_effect i.node [] None (deposit p h m b) (deposit_taken h m b (option_map_none OfHub (deposit_refusal p h b) own))
  load_taken i name from (Deposit b) m (IsStation s) fits own = fits
  load_taken i name from (Taken k) m (IsStation s) fits own = fits
  load_taken i name from (Item k b) m (IsStation s) fits own = station_effect i (reports_taken i.node from k ∷ []) (arrive p s m b) (arrival_taken s m b (option_map_none OfStation (arrival_refusal p s b) own))
  load_taken i name from (Refusal b) m (IsStation s) fits own = station_effect i [] (arrive p s m b) (arrival_taken s m b (option_map_none OfStation (arrival_refusal p s b) own))

  acts_taken : (i : Site) (a : Action) (n : Node) → acts_so i.node a n ≡ true → own_refusal p a n ≡ None → is_some (acts p i a n) ≡ true
  acts_taken i (Orders to m texts) (IsStation s) fits own = station_effect i [] (submit_orders p s to m texts) (orders_taken s to m texts (option_map_none OfStation (orders_refusal p s to m texts) own))
  acts_taken i (Prepared x) (IsStation s) fits own = station_effect i [] (submit p s x) (prepared_taken s x (option_map_none OfStation (prepared_refusal p s x) own))
  acts_taken i (Tick now) (IsStation s) fits own = refl
  acts_taken i (Collect j) (IsStation s) fits own = fits
  acts_taken i (Agree t) (IsStation s) fits own = refl
  acts_taken i (Enrol party j) (IsStation s) fits own = fits
  acts_taken i (Dismiss party) (IsStation s) fits own = fits
  acts_taken i Restart (IsStation s) fits own = refl
  acts_taken i (Orders to m texts) (IsHub h) fits own = fits
  acts_taken i (Prepared x) (IsHub h) fits own = fits
  acts_taken i (Tick now) (IsHub h) fits own = fits
  acts_taken i (Collect j) (IsHub h) fits own = refl
  acts_taken i (Agree t) (IsHub h) fits own = fits
  acts_taken i (Enrol party j) (IsHub h) fits own = refl
  acts_taken i (Dismiss party) (IsHub h) fits own = refl
  acts_taken i Restart (IsHub h) fits own = refl

  -- whatever a node of its kind is asked, but for a fate
  asked_taken : (i : Site) (a : Ask) (n : Node) → ((k : TransactionSetKey) → a ≡ Fate k → ⊥) → suits i.node a n ≡ true → refusal_of_ask p a n ≡ None → is_some (does_at p i a n) ≡ true
  asked_taken i (Do a) n event fits own = acts_taken i a n fits own
  asked_taken i (Comes name from l m) n event fits own = load_taken i name from l m n fits own
  asked_taken i (Outside b m) n event fits own = outside_taken i b m n own
  asked_taken i (Fate k) n event fits own = absurd (event k refl)

  at_node : (i : Site) (a : Ask) (o : Option Node) → ((k : TransactionSetKey) → a ≡ Fate k → ⊥) → may_be_asked i.node a o ≡ true → option_and_then (refusal_of_ask p a) o ≡ None → is_some (effect_at p i a o) ≡ true
  at_node i a None event fits own = fits
  at_node i a (Some n) event fits own = asked_taken i a n event fits own

  -- one event more
  one_more : (w : World) (i : ℕ) (e : Option Effect) → is_some e ≡ true → (after_effect p w i e).events ≡ suc w.events
  one_more w i None e = absurd cc
  one_more w i (Some eff) e = refl

  taken_so : (w : World) (e : Event) → Admits p w e → (after_asked p w (asked_by w.packets e)).events ≡ suc w.events
  taken_so w e adm = by (asked_by w.packets e) refl adm.nodes adm.known adm.own
    where
      by : (o : Option Asked) → asked_by w.packets e ≡ o → has_nodes w o ≡ true → is_none o ≡ false → node_refusal p w o ≡ None → (after_asked p w o).events ≡ suc w.events
      by None is nodes known own = absurd cc
      by (Some a) is nodes known own = one_more w a.node (effect_at p (site_of w.nodes a.node) a.ask (node_at w.nodes a.node)) (at_node (site_of w.nodes a.node) a.ask (node_at w.nodes a.node) (never_fate w.packets e a is) (and_parts (may_be_asked a.node a.ask (node_at w.nodes a.node)) (is_there w (node_meant a.ask)) nodes).0 own)

pub refused_by_name : (p : Profile) (w : World) (e : Event) → IsRefusedByName p w e
refused_by_name p w e = record {
  refused = λ r is. rw is refl;
  taken = λ empty. rw empty (taken_so p w e (admitted p w e empty));
}

-- and where a node did as it was asked, its own table is empty
guarded : (i : Site) (first : List Packet) (o : Option StationRefusal) (rest : Option StationStep) (did : Effect) → from_station i first (if is_none o then rest else None) ≡ Some did → option_map OfStation o ≡ None
guarded i first None rest did e = refl
guarded i first (Some r) rest did e = absurd cc

stepped : (i : Site) (first : List Packet) (o : Option StationStep) (did : Effect) → from_station i first o ≡ Some did → (step : StationStep) × (o ≡ Some step)
stepped i first None did e = absurd cc
stepped i first (Some step) did e = (step, refl)

-- an arrival that was taken is refused by no row
reply_or_none : {A : Type 0} (reply within : Bool) (a b c : A) → (if reply then (if within then Some a else None) else Some b) ≡ Some c → (reply && not within) ≡ false
reply_or_none true true a b c e = refl
reply_or_none true false a b c e = absurd cc
reply_or_none false within a b c e = refl

other_taken : {A : Type 0} (same silent : Bool) (book : Book) (a b c d : A)
    → (if same then Some a else (if silent then Some b else (if is_within (book_for book (record { reply = true; group = false })) then Some c else None))) ≡ Some d
    → is_spent book (record { reply = not same && not silent; group = false }) ≡ false
other_taken true silent book a b c d e = refl
other_taken false true book a b c d e = refl
other_taken false false book a b c d e = written (is_within (book_for book (record { reply = true; group = false }))) e
  where
    written : (t : Bool) → (if t then Some c else None) ≡ Some d → not t ≡ false
    written true e = refl
    written false e = absurd cc

module _ (p : Profile) (s : Station) (m : Moment) (b : Bytes) where
  found_taken : (found : Option KeptArrival) (step : StationStep) → arrive_at p s m b found ≡ Some step → is_spent s.book (arrival_takes p s b found) ≡ false
  found_taken None step e = reply_or_none (p.needs (edition_next s) s.me s.agreements b).reply (is_within (book_for s.book (p.needs (edition_next s) s.me s.agreements b))) _ _ step e
  found_taken (Some f) step e = other_taken (bytes_eq f.body b) (p.is_silent b) s.book _ _ _ step e

  by_header : (header : Bool) → p.has_header b ≡ header → (step : StationStep) → (if header then arrive_at p s m b (filed p s.items (p.sender b) (p.number b)) else None) ≡ Some step → arrival_refusal p s b ≡ None
  by_header true is step e = rw (is, found_taken (filed p s.items (p.sender b) (p.number b)) step e) refl
  by_header false is step e = absurd cc

  arrival_empty : (step : StationStep) → arrive p s m b ≡ Some step → arrival_refusal p s b ≡ None
  arrival_empty step e = by_header (p.has_header b) refl step e

deposited : (k : ℕ) (first : List Packet) (to : Option ℕ) (o : Option HubStep) (did : Effect) → from_hub k first to o ≡ Some did → (step : HubStep) × (o ≡ Some step)
deposited k first to None did e = absurd cc
deposited k first to (Some step) did e = (step, refl)

module _ (p : Profile) (h : Hub) (m : Moment) (b : Bytes) where
  by_all : (header : Bool) (was : Option HubOutcome) (item : Bool) (box : Option ℕ) (icn : Bool) (step : HubStep) → p.has_header b ≡ header → decided h.decisions b ≡ was → nat_le (h.item + 1) MAX_CONTROL_NUMBER ≡ item → mailbox_of h.directory (p.receiver b) ≡ box → nat_le (h.icn + 1) MAX_CONTROL_NUMBER ≡ icn
      → deposit p h m b ≡ Some step → deposit_refusal p h b ≡ None
  by_all false was item box icn step a d e f g is = absurd (nothing (rw a at is))
    where
      nothing : {A : Type 0} {x : A} → None ≡ Some x → ⊥
      nothing e = cc
  by_all true (Some o) item box icn step a d e f g is = rw (a, d) refl
  by_all true None false box icn step a d e f g is = absurd (nothing (rw (a, d, e) at is))
    where
      nothing : {A : Type 0} {x : A} → None ≡ Some x → ⊥
      nothing e = cc
  by_all true None true (Some node) icn step a d e f g is = rw (a, d, e, f) refl
  by_all true None true None false step a d e f g is = absurd (nothing (rw (a, d, e, f, g) at is))
    where
      nothing : {A : Type 0} {x : A} → None ≡ Some x → ⊥
      nothing e = cc
  by_all true None true None true step a d e f g is = rw (a, d, e, f, g) refl

  deposit_empty : (step : HubStep) → deposit p h m b ≡ Some step → deposit_refusal p h b ≡ None
  deposit_empty step is = by_all _ _ _ _ _ step refl refl refl refl refl is

module _ (p : Profile) where
  acts_empty : (i : Site) (a : Action) (n : Node) (did : Effect) → acts p i a n ≡ Some did → own_refusal p a n ≡ None
  acts_empty i (Orders to m texts) (IsStation s) did e = guarded i [] (orders_refusal p s to m texts) _ did e
  acts_empty i (Prepared x) (IsStation s) did e = guarded i [] (prepared_refusal p s x) _ did e
  acts_empty i (Tick now) (IsStation s) did e = refl
  acts_empty i (Collect j) (IsStation s) did e = refl
  acts_empty i (Agree t) (IsStation s) did e = refl
  acts_empty i (Enrol party j) (IsStation s) did e = refl
  acts_empty i (Dismiss party) (IsStation s) did e = refl
  acts_empty i Restart (IsStation s) did e = refl
  acts_empty i a (IsHub h) did e = refl

  arrived : (i : Site) (first : List Packet) (s : Station) (m : Moment) (b : Bytes) (did : Effect) → from_station i first (arrive p s m b) ≡ Some did → bytes_refusal p b (IsStation s) ≡ None
  arrived i first s m b did e = let step = stepped i first (arrive p s m b) did e in ap (option_map OfStation) (arrival_empty p s m b step.0 step.1)

  hub_told : (k : ℕ) (first : List Packet) (to : Option ℕ) (h : Hub) (m : Moment) (b : Bytes) (did : Effect) → from_hub k first to (deposit p h m b) ≡ Some did → bytes_refusal p b (IsHub h) ≡ None
  hub_told k first to h m b did e = let step = deposited k first to (deposit p h m b) did e in ap (option_map OfHub) (deposit_empty p h m b step.0 step.1)

  pub did_empty : (i : Site) (a : Ask) (n : Node) (did : Effect) → does_at p i a n ≡ Some did → refusal_of_ask p a n ≡ None
  did_empty i (Do a) n did e = acts_empty i a n did e
  did_empty i (Comes name from (Item k b) m) (IsStation s) did e = arrived i (reports_taken i.node from k ∷ []) s m b did e
  did_empty i (Comes name from (Refusal b) m) (IsStation s) did e = arrived i [] s m b did e
  did_empty i (Comes name from (Deposit b) m) (IsStation s) did e = absurd cc
  did_empty i (Comes name from (Taken k) m) (IsStation s) did e = refl
  did_empty i (Comes name from (Deposit b) m) (IsHub h) did e = hub_told i.node [] (Some from) h m b did e
  did_empty i (Comes name from (Item k b) m) (IsHub h) did e = hub_told i.node (reports_taken i.node from k ∷ []) (Some from) h m b did e
  did_empty i (Comes name from (Refusal b) m) (IsHub h) did e = hub_told i.node [] None h m b did e
  did_empty i (Comes name from (Taken k) m) (IsHub h) did e = refl
  did_empty i (Outside b m) (IsStation s) did e = arrived i [] s m b did e
  did_empty i (Outside b m) (IsHub h) did e = hub_told i.node [] None h m b did e
  did_empty i (Fate k) n did e = refl

  -- nor is its kind a reason to refuse, where a hub serves another node
  pub acts_fit : (i : Site) (a : Action) (n : Node) (did : Effect) → ((j : ℕ) → node_served a ≡ Some j → i.node ≢ j) → acts p i a n ≡ Some did → acts_so i.node a n ≡ true
  acts_fit i (Orders to m texts) (IsStation s) did apart e = refl
  acts_fit i (Prepared x) (IsStation s) did apart e = refl
  acts_fit i (Tick now) (IsStation s) did apart e = refl
  acts_fit i (Collect j) (IsStation s) did apart e = absurd cc
  acts_fit i (Agree t) (IsStation s) did apart e = refl
  acts_fit i (Enrol party j) (IsStation s) did apart e = absurd cc
  acts_fit i (Dismiss party) (IsStation s) did apart e = absurd cc
  acts_fit i Restart (IsStation s) did apart e = refl
  acts_fit i (Orders to m texts) (IsHub h) did apart e = absurd cc
  acts_fit i (Prepared x) (IsHub h) did apart e = absurd cc
  acts_fit i (Tick now) (IsHub h) did apart e = absurd cc
  acts_fit i (Collect j) (IsHub h) did apart e = rw (ne_eqb i.node j (apart j refl)) refl
  acts_fit i (Agree t) (IsHub h) did apart e = absurd cc
  acts_fit i (Enrol party j) (IsHub h) did apart e = rw (ne_eqb i.node j (apart j refl)) refl
  acts_fit i (Dismiss party) (IsHub h) did apart e = refl
  acts_fit i Restart (IsHub h) did apart e = refl

  pub load_fits : (i : Site) (from : ℕ) (l : Load) (m : Moment) (n : Node) (did : Effect) → comes p i from l m n ≡ Some did → is_for l (Some n) ≡ true
  load_fits i from (Deposit b) m (IsHub h) did e = refl
  load_fits i from (Taken k) m (IsHub h) did e = refl
  load_fits i from (Item k b) m (IsHub h) did e = refl
  load_fits i from (Refusal b) m (IsHub h) did e = refl
  load_fits i from (Deposit b) m (IsStation s) did e = absurd cc
  load_fits i from (Taken k) m (IsStation s) did e = absurd cc
  load_fits i from (Item k b) m (IsStation s) did e = refl
  load_fits i from (Refusal b) m (IsStation s) did e = refl
