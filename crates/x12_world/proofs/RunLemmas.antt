-- Every event keeps a world sound, so every run does.
use Rattle.std.specs.Prelude.{◌≡◌, ℕ, List, [], ◌∷◌, ◌++◌, Bool, true, false, if◌then◌else◌, ◌==◌, ◌&&◌, Option, Some, None, Contains, refl, map, is_some, is_none, option_map, IsTrue, All, ◌⊎◌}
use mathlib.Core.Path.{sym, ap, subst, ◌∙◌}
use mathlib.Core.Logic.{inl, inr}
use Rattle.x12_envelopes.specs.declared.party.Party.{Party}
use Rattle.x12_envelopes.specs.declared.moment.Moment.{Moment}
use Rattle.x12_profile.specs.Edition.{no_marks}
use Rattle.x12_profile.specs.Interchange.{Bytes, Order}
use Rattle.x12_profile.specs.Profile.{Profile}
use Rattle.x12_profile.specs.Laws.{Laws}
use Rattle.x12_station.specs.History.{Item, Submitted, Came}
use Rattle.x12_station.specs.Station.{Station}
use Rattle.x12_hub.specs.Hub.{Hub, HubStep, Decision, deposit, taken}
use Rattle.x12_core.specs.Packet.{Packet, Load, Deposit, Refusal, Taken, PacketName}
use Rattle.x12_world.specs.Packet.{SentPacket, packet_of}
use Rattle.x12_core.specs.Packet as packet
use Rattle.x12_core.specs.declared.packet.Site.{Site}
use Rattle.x12_core.specs.Node.{Node, IsHub, IsStation, is_hub}
use Rattle.x12_world.specs.Network.{Network, IsNetwork, IsHubNumber, believed_at, parties_in}
use Rattle.x12_world.specs.Nodes.{node_at, home_of, site_of}
use Rattle.x12_world.specs.World.{World, StationAt, HubAt, Event, At, Deliver, Outside, is_named}
use Rattle.x12_station.specs.StationRefusal.{orders_refusal, written_orders}
use Rattle.x12_world.specs.EventRefusal.{EventRefusal, event_refusal, is_spoken_for}
use Rattle.x12_world.proofs.RefusalLemmas.{admitted}
use Rattle.x12_station.proofs.ListLemmas.{if_cases}
use Rattle.x12_numbers.proofs.Shelf.{none_in_nil, contains_cons, contains_head, contains_tail, if_some_parts, some_inj}
use Rattle.x12_world.proofs.NetworkLemmas.{IsNew, a_hub, a_station, new_is, new_hub_at, few_new, second_new, parties_apart, party_or_none, two_hubs}
use Rattle.x12_world.proofs.NodesLemmas.{unnamed}
use Rattle.x12_world.proofs.Traces.{Trace, Answers, DecidedOk, Grows, IsBy, IsCarried, IsWritten, LoadOk}
use Rattle.x12_world.proofs.WorldLemmas.{trace_of, Does, Sound, sound_by, grows_by, read, items_in, decisions_in, IsLater, later_itself, later_still, later_by}
use Rattle.x12_world.proofs.StationLemmas.{OnlyTaken, Brought, quiet, submit_does, arrive_does, tick_does}
use Rattle.x12_world.proofs.HubLemmas.{deposit_does, collect_does, still, taken_same}
use Rattle.x12_world.specs.Run.{happens, run, new_world}
use Rattle.x12_core.specs.Effect.{Effect, from_station, from_hub, refusals, comes, comes_to_station, comes_to_hub, comes_outside, at_station, at_hub, quietly, restart, deposits, reports_taken}
use Rattle.x12_core.specs.Action.{Action, Orders, Prepared, Tick, Collect, Agree, Enrol, Dismiss, Restart, acts}
use Rattle.x12_core.specs.Ask.{Ask, does_at}
use Rattle.x12_world.specs.Effect.{Asked, asked_by, asked_to_take, after_asked, after_effect, effect_at}
use Rattle.x12_station.specs.StationStep.{StationStep, submit, submit_orders, arrive, tick, may_submit, entered, restarted}
use Rattle.x12_world.proofs.HubLemmas as hubs

no_packets : OnlyTaken []
no_packets = record { each = λ q h. none_in_nil q h }

one_taken : (from to item : ℕ) → OnlyTaken (record { from = from; to = to; load = Taken item } ∷ [])
one_taken from to item = record { each = λ q h. elim (contains_cons q (record { from = from; to = to; load = Taken item }) [] h) [ inl e ↦ (item, ap (λ z. z.load) (sym e)) | inr past ↦ none_in_nil q past ] }

-- a packet of this name was sent
pub packet_found : (qs : List SentPacket) (n : PacketName) (q : Packet) → packet_of qs n ≡ Some q → Contains (map (λ z. z.packet) qs) q
packet_found [] n q e = absurd (cc)
packet_found (r ∷ qs) n q e = elim (if_cases ((r.name.event == n.event) && (r.name.place == n.place)) (Some r.packet) (packet_of qs n) (Some q) e) [
  | inl here ↦ subst (λ z. Contains (r.packet ∷ map (λ z. z.packet) qs) z) (some_inj here.1) (contains_head r.packet (map (λ z. z.packet) qs))
  | inr later ↦ contains_tail q r.packet (map (λ z. z.packet) qs) (packet_found qs n q later.1)
]

module _ (p : Profile) (laws : Laws p) (net : Network) (plain : All (λ party. IsTrue (p.is_plain party)) (parties_in net)) (w : World) (was : Sound p net w) where
  abbrev t : Trace
  t = trace_of w

  abbrev site : ℕ → Site
  site = site_of w.nodes

  -- what a node does at an event, if it does anything
  abbrev pub DoesMaybe : ℕ → Node → Option Effect → Type 0
  DoesMaybe i n e = (eff : Effect) → e ≡ Some eff → Does p t i n eff.node eff.sends

  -- a station's step
  from_station_does : (i : ℕ) (s : Station) (first : List Packet) (step : Option StationStep) → ((x : StationStep) → step ≡ Some x → Does p t i (IsStation s) (IsStation x.station) (first ++ deposits (site i) x.sends)) → DoesMaybe i (IsStation s) (from_station (site i) first step)
  from_station_does i s first None does eff e = absurd cc
  from_station_does i s first (Some x) does eff e = subst (λ z. Does p t i (IsStation s) z.node z.sends) (some_inj e) (does x refl)

  -- a deposit, or an item of the other hub
  from_hub_does : (k : ℕ) (h : Hub) (first : List Packet) (to : Option ℕ) (step : Option HubStep) → ((x : HubStep) → step ≡ Some x → Does p t k (IsHub h) (IsHub x.hub) (first ++ refusals k to x.outcome)) → DoesMaybe k (IsHub h) (from_hub k first to step)
  from_hub_does k h first to None does eff e = absurd cc
  from_hub_does k h first to (Some x) does eff e = subst (λ z. Does p t k (IsHub h) z.node z.sends) (some_inj e) (does x refl)

  -- no node has the party of bytes that are nobody's
  no_name : (b : Bytes) → is_named p w b ≡ false → (k : ℕ) → ¬ (IsBy p t k b)
  no_name b out k by = unnamed w.nodes (p.sender b) out k by

  -- bytes from outside are no node's
  outside_brought : (j : ℕ) (b : Bytes) → is_named p w b ≡ false → Brought p t j b
  outside_brought j b e = record { carried = λ k by. absurd (no_name b e k by); routed = λ k by z. absurd (no_name b e k by) }

  outside_decided : (j : ℕ) (b : Bytes) → is_named p w b ≡ false → DecidedOk p t j b
  outside_decided j b e = record { carried = λ k by. absurd (no_name b e k by); brought = λ k by z. absurd (no_name b e k by) }

  -- what the load of a packet is known to be
  load_ok : (q : Packet) → Contains t.packets q → (l : Load) → q.load ≡ l → LoadOk p t q.from q.to l
  load_ok q sent l is = subst (LoadOk p t q.from q.to) is (was.holds.packet q sent)

  -- a refusal is no station's
  no_station : (q : Packet) (b : Bytes) → Contains t.packets q → q.load ≡ Refusal b → (k : ℕ) → IsBy p t k b → ¬ (t.hub k ≡ false)
  no_station q b sent is k by z =
      let ok = load_ok q sent (Refusal b) is in
      let same = was.holds.names_apart k q.from (p.sender b) by ok.0 in
      let no : true ≡ false = sym ok.1 ∙ subst (λ i. t.hub i ≡ false) same z in
      absurd cc

  item_brought : (q : Packet) (n : ℕ) (b : Bytes) → Contains t.packets q → q.load ≡ packet.Item n b → Brought p t q.to b
  item_brought q n b sent is = record { carried = λ k by. record { packet = q; sent = sent; holds = rw is refl }; routed = λ k by z. (q.from, n, load_ok q sent (packet.Item n b) is) }

  refusal_brought : (q : Packet) (b : Bytes) → Contains t.packets q → q.load ≡ Refusal b → Brought p t q.to b
  refusal_brought q b sent is = record { carried = λ k by. record { packet = q; sent = sent; holds = rw is refl }; routed = λ k by z. absurd (no_station q b sent is k by z) }

  deposit_decided : (q : Packet) (b : Bytes) → Contains t.packets q → q.load ≡ Deposit b → DecidedOk p t q.to b
  deposit_decided q b sent is =
      let ok = load_ok q sent (Deposit b) is in
      record { carried = λ k by. record { packet = q; sent = sent; holds = rw is refl }; brought = λ k by z. inl (ap t.home (was.holds.names_apart k q.from (p.sender b) by ok.0) ∙ ok.1) }

  item_decided : (q : Packet) (n : ℕ) (b : Bytes) → Contains t.packets q → q.load ≡ packet.Item n b → DecidedOk p t q.to b
  item_decided q n b sent is = record { carried = λ k by. record { packet = q; sent = sent; holds = rw is refl }; brought = λ k by z. inr (q.from, n, load_ok q sent (packet.Item n b) is) }

  refusal_decided : (q : Packet) (b : Bytes) → Contains t.packets q → q.load ≡ Refusal b → DecidedOk p t q.to b
  refusal_decided q b sent is = record { carried = λ k by. record { packet = q; sent = sent; holds = rw is refl }; brought = λ k by z. absurd (no_station q b sent is k by z) }

  station_comes : (q : Packet) → Contains t.packets q → (m : Moment) (s : Station) → StationAt w q.to s → (l : Load) → q.load ≡ l → DoesMaybe q.to (IsStation s) (comes_to_station p (site q.to) q.from m s l)
  station_comes q sent m s at (packet.Item n b) is eff e = from_station_does q.to s (reports_taken q.to q.from n ∷ []) (arrive p s m b)
      (arrive_does p laws net plain w was q.to s at m b (item_brought q n b sent is) (reports_taken q.to q.from n ∷ []) (one_taken q.to q.from n)) eff e
  station_comes q sent m s at (Refusal b) is eff e = from_station_does q.to s [] (arrive p s m b) (arrive_does p laws net plain w was q.to s at m b (refusal_brought q b sent is) [] no_packets) eff e
  station_comes q sent m s at (Deposit b) is eff e = absurd cc
  station_comes q sent m s at (Taken n) is eff e = absurd cc

  hub_comes : (q : Packet) → Contains t.packets q → (m : Moment) (h : Hub) → HubAt w q.to h → (l : Load) → q.load ≡ l → DoesMaybe q.to (IsHub h) (comes_to_hub p q.to q.from m h l)
  hub_comes q sent m h at (Deposit b) is eff e = from_hub_does q.to h [] (Some q.from) (deposit p h m b) (deposit_does p laws net plain w was q.to h at m b [] no_packets (Some q.from) (deposit_decided q b sent is)) eff e
  hub_comes q sent m h at (packet.Item n b) is eff e = from_hub_does q.to h (reports_taken q.to q.from n ∷ []) (Some q.from) (deposit p h m b)
      (deposit_does p laws net plain w was q.to h at m b (reports_taken q.to q.from n ∷ []) (one_taken q.to q.from n) (Some q.from) (item_decided q n b sent is)) eff e
  hub_comes q sent m h at (Refusal b) is eff e = from_hub_does q.to h [] None (deposit p h m b) (deposit_does p laws net plain w was q.to h at m b [] no_packets None (refusal_decided q b sent is)) eff e
  hub_comes q sent m h at (Taken n) is eff e = subst (λ z. Does p t q.to (IsHub h) z.node z.sends) (some_inj e) (still p laws net plain w was q.to h at (taken h q.from n) (taken_same h q.from n))

  -- the node of a number
  abbrev pub NodeAt : ℕ → Node → Type 0
  NodeAt i n = node_at w.nodes i ≡ Some n

  comes_does : (q : Packet) → Contains t.packets q → (m : Moment) (n : Node) → NodeAt q.to n → DoesMaybe q.to n (comes p (site q.to) q.from q.load m n)
  comes_does q sent m (IsStation s) at eff e = station_comes q sent m s at q.load refl eff e
  comes_does q sent m (IsHub h) at eff e = hub_comes q sent m h at q.load refl eff e

  named_outside : (i : ℕ) (b : Bytes) (m : Moment) → is_named p w b ≡ false → (n : Node) → NodeAt i n → DoesMaybe i n (comes_outside p (site i) b m n)
  named_outside i b m out (IsStation s) at eff e = from_station_does i s [] (arrive p s m b) (arrive_does p laws net plain w was i s at m b (outside_brought i b out) [] no_packets) eff e
  named_outside i b m out (IsHub h) at eff e = from_hub_does i h [] None (deposit p h m b) (deposit_does p laws net plain w was i h at m b [] no_packets None (outside_decided i b out)) eff e

  -- bytes that can't be read do nothing
  unread_outside : (i : ℕ) (b : Bytes) (m : Moment) → p.has_header b ≡ false → (n : Node) → DoesMaybe i n (comes_outside p (site i) b m n)
  unread_outside i b m unread (IsStation s) eff e = absurd (no_effect (rw unread at e))
    where
      no_effect : None ≡ Some eff → ⊥
      no_effect is = cc
  unread_outside i b m unread (IsHub h) eff e = absurd (no_effect (rw unread at e))
    where
      no_effect : None ≡ Some eff → ⊥
      no_effect is = cc

  outside_does : (i : ℕ) (b : Bytes) (m : Moment) → (p.has_header b && is_named p w b) ≡ false → (n : Node) → NodeAt i n → DoesMaybe i n (comes_outside p (site i) b m n)
  outside_does i b m out = by (p.has_header b) refl out
    where
      by : (t : Bool) → p.has_header b ≡ t → (t && is_named p w b) ≡ false → (n : Node) → NodeAt i n → DoesMaybe i n (comes_outside p (site i) b m n)
      by true is out = named_outside i b m out
      by false is out = λ n at. unread_outside i b m is n

  submit_step : (i : ℕ) (s : Station) (x : Bytes) → StationAt w i s → DoesMaybe i (IsStation s) (from_station (site i) [] (submit p s x))
  submit_step i s x at = from_station_does i s [] (submit p s x) (λ y e.
      let ok = if_some_parts (may_submit p s x) (Some (record { station = entered p s x; sends = x ∷ [] })) y e in
      subst (λ z. Does p t i (IsStation s) (IsStation z.station) ([] ++ deposits (site i) z.sends)) (some_inj ok.1) (submit_does p laws net plain w was i s at x ok.0))

  -- orders are submitted as what is written of them
  orders_step : (i : ℕ) (s : Station) (to : Party) (m : Moment) (texts : List Order) → StationAt w i s → DoesMaybe i (IsStation s) (from_station (site i) [] (submit_orders p s to m texts))
  orders_step i s to m texts at = by (is_none (orders_refusal p s to m texts))
    where
      by : (t : Bool) → DoesMaybe i (IsStation s) (from_station (site i) [] (if t then submit p s (written_orders p s to m texts) else None))
      by true = submit_step i s (written_orders p s to m texts) at
      by false = λ eff e. absurd cc

  silent_step : (i : ℕ) (s s' : Station) → StationAt w i s → s'.me ≡ s.me → s'.hubs ≡ s.hubs → s'.marks ≡ s.marks → s'.items ≡ s.items → s'.book ≡ s.book → DoesMaybe i (IsStation s) (quietly (IsStation s'))
  silent_step i s s' at me hubs' marks items book eff e = subst (λ z. Does p t i (IsStation s) z.node z.sends) (some_inj e) (quiet p laws net plain w was i s at s' [] [] no_packets me hubs' marks items book (λ b h. none_in_nil b h))

  still_step : (k : ℕ) (h h' : Hub) → HubAt w k h → hubs.SameHub h h' → DoesMaybe k (IsHub h) (quietly (IsHub h'))
  still_step k h h' at same eff e = subst (λ z. Does p t k (IsHub h) z.node z.sends) (some_inj e) (still p laws net plain w was k h at h' same)

  -- what a station does of itself
  of_station : (i : ℕ) (act : Station → Option Effect) → ((s : Station) → StationAt w i s → DoesMaybe i (IsStation s) (act s)) → (n : Node) → NodeAt i n → DoesMaybe i n (at_station p act n)
  of_station i act each (IsStation s) at eff e = each s at eff e
  of_station i act each (IsHub h) at eff e = absurd cc

  of_hub : (k : ℕ) (act : Hub → Option Effect) → ((h : Hub) → HubAt w k h → DoesMaybe k (IsHub h) (act h)) → (n : Node) → NodeAt k n → DoesMaybe k n (at_hub p act n)
  of_hub k act each (IsHub h) at eff e = each h at eff e
  of_hub k act each (IsStation s) at eff e = absurd cc

  same_hub : (h : Hub) → hubs.SameHub h h
  same_hub h = record { me = refl; decisions = refl; icn = refl }

  restart_does : (i : ℕ) (n : Node) → NodeAt i n → DoesMaybe i n (restart p n)
  restart_does i (IsStation s) at eff e = silent_step i s (restarted p s) at refl refl refl refl refl eff e
  restart_does i (IsHub h) at eff e = still_step i h h at (same_hub h) eff e

  -- what a node does of itself
  acts_does : (i : ℕ) (a : Action) (n : Node) → NodeAt i n → DoesMaybe i n (acts p (site i) a n)
  acts_does i (Orders to m texts) = of_station i _ (λ s at. orders_step i s to m texts at)
  acts_does i (Prepared x) = of_station i _ (λ s at. submit_step i s x at)
  acts_does i (Tick now) = of_station i _ (λ s at. from_station_does i s [] (Some (tick p s now)) (λ x some. subst (λ z. Does p t i (IsStation s) (IsStation z.station) ([] ++ deposits (site i) z.sends)) (some_inj some) (tick_does p laws net plain w was i s at now)))
  acts_does k (Collect i) = of_hub k _ (λ h at eff e. subst (λ z. Does p t k (IsHub h) z.node z.sends) (some_inj e) (collect_does p laws net plain w was k h at i))
  acts_does i (Agree a) = of_station i _ (λ s at. silent_step i s _ at refl refl refl refl refl)
  acts_does k (Enrol party i) = of_hub k _ (λ h at. still_step k h _ at (record { me = refl; decisions = refl; icn = refl }))
  acts_does k (Dismiss party) = of_hub k _ (λ h at. still_step k h _ at (record { me = refl; decisions = refl; icn = refl }))
  acts_does i Restart = restart_does i

  -- what is asked is done
  DoesAsk : Option Asked → Type 0
  DoesAsk None = Unit {0}
  DoesAsk (Some a) = (n : Node) → NodeAt a.node n → DoesMaybe a.node n (does_at p (site a.node) a.ask n)

  delivers_does : (name : PacketName) (m : Moment) (o : Option Packet) → ((q : Packet) → o ≡ Some q → Contains t.packets q) → DoesAsk (option_map (asked_to_take name m) o)
  unfolding DoesAsk
  delivers_does name m None sent = tt
  delivers_does name m (Some q) sent = comes_does q (sent q refl) m

  asked_does : (e : Event) → is_spoken_for p w e ≡ false → DoesAsk (asked_by w.packets e)
  unfolding DoesAsk
  asked_does (At i a) unspoken = acts_does i a
  asked_does (Deliver name m) unspoken = delivers_does name m (packet_of w.packets name) (λ q found. packet_found w.packets name q found)
  asked_does (Outside i b m) unspoken = outside_does i b m unspoken

  -- a sound world, and a later one
  abbrev pub Onward : World → Type 0
  Onward w' = Sound p net w' × IsLater w w'

  effect_onward : (i : ℕ) (a : Ask) (node : Option Node) → node_at w.nodes i ≡ node → ((n : Node) → NodeAt i n → DoesMaybe i n (does_at p (site i) a n)) → (e : Option Effect) → effect_at p (site i) a node ≡ e → Onward (after_effect p w i e)
  effect_onward i a None at each None is = (was, later_itself w)
  effect_onward i a None at each (Some e) is = absurd cc
  effect_onward i a (Some n) at each None is = (was, later_itself w)
  effect_onward i a (Some n) at each (Some e) is = (sound_by p net w i n at e (each n at e is) was, later_by p net w i n at e (each n at e is))

  asked_onward : (a : Option Asked) → DoesAsk a → Onward (after_asked p w a)
  unfolding DoesAsk
  asked_onward None does = (was, later_itself w)
  asked_onward (Some a) does = effect_onward a.node a.ask (node_at w.nodes a.node) refl does (effect_at p (site a.node) a.ask (node_at w.nodes a.node)) refl

  -- an event does nothing, or grows the trace
  abbrev pub GrowsTo : World → Type 0
  GrowsTo w' = (w' ≡ w) ⊎ Grows p (trace_of w) (trace_of w')

  effect_grows : (i : ℕ) (a : Ask) (node : Option Node) → node_at w.nodes i ≡ node → ((n : Node) → NodeAt i n → DoesMaybe i n (does_at p (site i) a n)) → (e : Option Effect) → effect_at p (site i) a node ≡ e → GrowsTo (after_effect p w i e)
  effect_grows i a None at each None is = inl refl
  effect_grows i a None at each (Some e) is = absurd cc
  effect_grows i a (Some n) at each None is = inl refl
  effect_grows i a (Some n) at each (Some e) is = inr (grows_by p net w i n at e (each n at e is))

  asked_grows : (a : Option Asked) → DoesAsk a → GrowsTo (after_asked p w a)
  unfolding DoesAsk
  asked_grows None does = inl refl
  asked_grows (Some a) does = effect_grows a.node a.ask (node_at w.nodes a.node) refl does (effect_at p (site a.node) a.ask (node_at w.nodes a.node)) refl

  pub happens_grows : (e : Event) → GrowsTo (happens p w e)
  happens_grows e = by (event_refusal p w e) refl
    where
      by : (r : Option EventRefusal) → event_refusal p w e ≡ r → GrowsTo (if is_some r then w else after_asked p w (asked_by w.packets e))
      by None empty = asked_grows (asked_by w.packets e) (asked_does e (admitted p w e empty).unspoken)
      by (Some r) is = inl refl

  pub happens_onward : (e : Event) → Onward (happens p w e)
  happens_onward e = by (event_refusal p w e) refl
    where
      by : (r : Option EventRefusal) → event_refusal p w e ≡ r → Onward (if is_some r then w else after_asked p w (asked_by w.packets e))
      by None empty = asked_onward (asked_by w.packets e) (asked_does e (admitted p w e empty).unspoken)
      by (Some r) is = (was, later_itself w)

-- A new world is sound.
module _ (p : Profile) (net : Network) (is : IsNetwork p net) where
  abbrev pub first : World
  first = new_world net

  -- what a node of it has
  nothing : (i : ℕ) (n : Option Node) → node_at first.nodes i ≡ n → (read items_in [] n ≡ []) × (read decisions_in [] n ≡ [])
  nothing i None e = (refl, refl)
  nothing i (Some n) e = by (new_is net i n e)
    where
      by : IsNew net i n → (read items_in [] (Some n) ≡ []) × (read decisions_in [] (Some n) ≡ [])
      by (a_hub me number is) = rw is (refl, refl)
      by (a_station m has home is) = rw is (refl, refl)

  pub no_item : {A : Type 0} (i : ℕ) (c : Item) → Contains ((trace_of first).items i) c → A
  no_item i c h = none_in_nil c (rw ((nothing i (node_at first.nodes i) refl).0) at h)

  no_decision : {A : Type 0} (k : ℕ) (d : Decision) → Contains ((trace_of first).decisions k) d → A
  no_decision k d h = none_in_nil d (rw ((nothing k (node_at first.nodes k) refl).1) at h)

  not_carried : {A : Type 0} (b : Bytes) → IsCarried (trace_of first) b → A
  not_carried b h = none_in_nil h.packet h.sent

  not_written : {A : Type 0} (b : Bytes) → IsWritten (trace_of first) b → A
  not_written b (inl h) = not_carried b h
  not_written b (inr h) = no_decision h.0 _ h.2

  no_answer : {A : Type 0} (x r : Bytes) → Answers (trace_of first) x r → A
  no_answer x r (inl h) = no_item h.0 (Came h.1.0 x (Some r)) h.1.1
  no_answer x r (inr h) = no_decision h.0 _ h.1

  -- a hub has a hub's number
  hub_number : (i : ℕ) (n : Option Node) → node_at first.nodes i ≡ n → is_hub n ≡ true → IsHubNumber net.second i
  hub_number i None e told = absurd cc
  hub_number i (Some n) e told = by (new_is net i n e)
    where
      by : IsNew net i n → IsHubNumber net.second i
      by (a_hub me number is) = number
      by (a_station m has home is) = let no : false ≡ true = rw is at told in absurd cc

  only_hubs : (i : ℕ) (h : Hub) → HubAt first i h → IsHubNumber net.second i
  only_hubs i h at = hub_number i (node_at first.nodes i) refl (ap is_hub at)

  believes : (i : ℕ) (s : Station) → StationAt first i s → s.hubs ≡ believed_at net.hub net.second (home_of first.nodes i)
  believes i s at = by (new_is net i (IsStation s) at)
    where
      inner : {a b : Station} → IsStation a ≡ IsStation b → a ≡ b
      inner e = cc

      by : IsNew net i (IsStation s) → s.hubs ≡ believed_at net.hub net.second (home_of first.nodes i)
      by (a_hub me number is) = absurd cc
      by (a_station m has home is) = ap (λ (z : Station). z.hubs) (inner is) ∙ ap (believed_at net.hub net.second) (sym home)

  unmarked : (i : ℕ) (s : Station) → StationAt first i s → s.marks ≡ no_marks
  unmarked i s at = by (new_is net i (IsStation s) at)
    where
      inner : {a b : Station} → IsStation a ≡ IsStation b → a ≡ b
      inner e = cc

      by : IsNew net i (IsStation s) → s.marks ≡ no_marks
      by (a_hub me number is) = absurd cc
      by (a_station m has home is) = ap (λ (z : Station). z.marks) (inner is)

  pub new_sound : Sound p net first
  new_sound = record {
    names = λ i. refl;
    homes = λ i. refl;
    few = few_new net (λ some. is.few some);
    second = second_new net;
    hub_there = new_hub_at net;
    only_hubs = only_hubs;
    hubs = believes;
    marks = unmarked;
    holds = record {
      names_apart = parties_apart p net is;
      named_or_not = party_or_none p net is;
      two_hubs = λ i j k a b c apart. two_hubs net.second i j k (hub_number i _ refl a) (hub_number j _ refl b) (hub_number k _ refl c) apart;
      at_hub = λ k d h. no_decision k d h;
      sent = λ i x h. no_item i (Submitted x) h;
      came = λ i b r h. no_item i (Came h.0 b r) h.1;
      by_newest = λ i ed b r h. no_item i (Came ed b r) h;
      reply = λ i b r h. no_item i (Came h.0 b (Some r)) h.1;
      decision = λ k d h. no_decision k d h;
      refusal = λ k b r h. no_decision k _ h;
      origin = λ i b h by. not_written b h;
      unique = λ i b c hb hc byb byc e. not_written b hb;
      below = λ i b h by. not_written b h;
      packet = λ q h. none_in_nil q h;
      filed_first = λ i b r h. no_item i (Came h.0 b r) h.1;
      posted = λ i k. rw ((nothing i (node_at first.nodes i) refl).0) refl;
      decided_first = λ k d h. no_decision k d h;
      groups_apart = λ i x y hx hy e. no_item i (Submitted x) hx;
      groups_below = λ i x g h at. no_item i (Submitted x) h;
      answers_once = λ i j x y r byx byy ax ay. no_answer x r ax;
      order = λ i x r k sent came answers. no_item i (Submitted x) sent;
    };
  }

module _ (p : Profile) (laws : Laws p) (net : Network) (is : IsNetwork p net) where
  pub run_onward : (events : List Event) (w : World) → Sound p net w → Sound p net (run p events w) × IsLater w (run p events w)
  run_onward [] w was = (was, later_itself w)
  run_onward (e ∷ es) w was =
      let one = happens_onward p laws net is.plain w was e in
      let rest = run_onward es (happens p w e) one.0 in
      (rest.0, later_still w (happens p w e) (run p es (happens p w e)) one.1 rest.1)

pub run-append : (p : Profile) (events more : List Event) (w : World) → run p (events ++ more) w ≡ run p more (run p events w)
run-append p [] more w = refl
run-append p (e ∷ es) more w = run-append p es more (happens p w e)
