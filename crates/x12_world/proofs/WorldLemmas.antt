-- A node's step is what one event may add: the trace of a world, and how an effect at one node grows it.
use Rattle.std.specs.Prelude.{◌≡◌, ◌≢◌, ℕ, suc, ◌≤◌, List, [], ◌∷◌, ◌++◌, true, false, Option, Some, None, IsSome, Contains, length, refl, map, option_to_list, ◌⊎◌}
use mathlib.Core.Path.{sym, ap, subst, ◌∙◌}
use mathlib.Core.Logic.{inl, inr}
use native.Mathlib.Omega.{arith}
use Rattle.std.proofs.lemmas.List.{map-append, append-nil, append_assoc}
use Rattle.std.proofs.lemmas.Bool.Decides.{eqb_tells}
use Rattle.x12_envelopes.specs.declared.party.Party.{Party}
use Rattle.x12_profile.specs.Edition.{no_marks}
use Rattle.x12_profile.specs.Interchange.{Bytes}
use Rattle.x12_profile.specs.Profile.{Profile}
use Rattle.x12_station.specs.History.{Item}
use Rattle.x12_station.specs.Station.{Station}
use Rattle.x12_hub.specs.Hub.{Hub, Decision}
use Rattle.x12_core.specs.Packet.{Packet}
use Rattle.x12_world.specs.Packet.{named}
use Rattle.x12_core.specs.Node.{Node, IsHub, IsStation, party_of_node, is_hub}
use Rattle.x12_world.specs.Network.{Network, IsHubNumber, believed_at, new_nodes, parties_in}
use Rattle.x12_world.specs.Nodes.{node_at, home_of, party_at}
use Rattle.x12_world.specs.World.{World, StationAt, HubAt}
use Rattle.x12_world.proofs.NodesLemmas.{node_same, node_other, home_same, parties_same, node_listed, option_mapped, few_after, second_cases}
use Rattle.x12_numbers.proofs.Shelf.{some_inj}
use Rattle.x12_world.proofs.NetworkLemmas.{in_network}
use Rattle.x12_world.proofs.Traces.{Trace, News, Grows, Holds}
use Rattle.x12_world.proofs.TraceLemmas.{holds_after}
use Rattle.x12_core.specs.Effect.{Effect}
use Rattle.x12_world.specs.Effect.{after_effect}

abbrev pub items_in : Node → List Item
items_in (IsHub h) = []
items_in (IsStation s) = s.items

abbrev pub last_in : Node → ℕ
last_in (IsHub h) = h.icn
last_in (IsStation s) = s.book.interchange

abbrev pub group_in : Node → ℕ
group_in (IsHub h) = 0
group_in (IsStation s) = s.book.group

abbrev pub decisions_in : Node → List Decision
decisions_in (IsHub h) = h.decisions
decisions_in (IsStation s) = []

abbrev pub read : {A : Type 0} → (Node → A) → A → Option Node → A
read f d None = d
read f d (Some n) = f n

abbrev pub packets_of : World → List Packet
packets_of w = map (λ q. q.packet) w.packets

abbrev pub trace_of : World → Trace
trace_of w = record {
  names = party_at w.nodes;
  hub = λ i. is_hub (node_at w.nodes i);
  home = home_of w.nodes;
  items = λ i. read items_in [] (node_at w.nodes i);
  last = λ i. read last_in 0 (node_at w.nodes i);
  group = λ i. read group_in 0 (node_at w.nodes i);
  decisions = λ i. read decisions_in [] (node_at w.nodes i);
  packets = packets_of w;
}

-- a hub stays a hub, and a station a station that believes the same hubs, with the same marks
abbrev pub SameKind : Node → Node → Type 0
SameKind (IsHub h) (IsHub k) = Unit {0}
SameKind (IsHub h) (IsStation s) = ⊥
SameKind (IsStation s) (IsHub h) = ⊥
SameKind (IsStation s) (IsStation r) = (r.hubs ≡ s.hubs) × (r.marks ≡ s.marks)

module _ (p : Profile) where
  -- what node i, from n to n', does to the trace
  pub record Does (t : Trace) (i : ℕ) (n n' : Node) (sends : List Packet) : Type 0 where
    pub new : Option Item
    pub decision : Option Decision
    pub fresh : Option Bytes
    pub party : party_of_node n' ≡ party_of_node n
    pub kind : SameKind n n'
    pub items : items_in n' ≡ items_in n ++ option_to_list new
    pub last : last_in n ≤ last_in n'
    pub group : group_in n ≤ group_in n'
    pub decisions : decisions_in n' ≡ decisions_in n ++ option_to_list decision
    pub at_hub : is_hub (Some n) ≡ false → decision ≡ None
    pub one : (new ≡ None) ⊎ (decision ≡ None)
    pub news : News p t i new decision sends fresh (last_in n') (group_in n')

  pub record Sound (net : Network) (w : World) : Type 0 where
    pub names : (i : ℕ) → party_at w.nodes i ≡ party_at (new_nodes net) i
    pub homes : (i : ℕ) → home_of w.nodes i ≡ home_of (new_nodes net) i
    pub few : IsSome w.nodes.second → length w.nodes.listed ≤ 17
    pub second : (n : Node) → w.nodes.second ≡ Some n → is_hub (Some n) ≡ true
    pub hub_there : (i : ℕ) → IsHubNumber net.second i → (h : Hub) × HubAt w i h
    pub only_hubs : (i : ℕ) (h : Hub) → HubAt w i h → IsHubNumber net.second i
    pub hubs : (i : ℕ) (s : Station) → StationAt w i s → s.hubs ≡ believed_at net.hub net.second (home_of w.nodes i)
    pub marks : (i : ℕ) (s : Station) → StationAt w i s → s.marks ≡ no_marks
    pub holds : Holds p (trace_of w)

-- the party of a node is one of the network's
pub named_party : (p : Profile) (net : Network) (w : World) → Sound p net w → (i : ℕ) (party : Party) → party_at w.nodes i ≡ Some party → Contains (parties_in net) party
named_party p net w was i party at =
    let found = option_mapped party_of_node (node_at (new_nodes net) i) party (sym (was.names i) ∙ at) in
    subst (Contains (parties_in net)) found.2 (in_network net found.0 (node_listed (new_nodes net) i found.0 found.1))

-- a later world: each station has a longer history, and is the same otherwise
abbrev pub IsLater : World → World → Type 0
IsLater w w' = (j : ℕ) (s : Station) → StationAt w j s → (s' : Station) × (more : List Item) × StationAt w' j s' × (s'.me ≡ s.me) × (s'.hubs ≡ s.hubs) × (s'.items ≡ s.items ++ more)

pub later_itself : (w : World) → IsLater w w
later_itself w j s at = (s, [], at, refl, refl, sym (append-nil s.items))

pub later_still : (u v w : World) → IsLater u v → IsLater v w → IsLater u w
later_still u v w a b j s at =
    let one = a j s at in
    let two = b j one.0 one.2 in
    (two.0, one.1 ++ two.1, two.2, two.3 ∙ one.3, two.4 ∙ one.4, two.5 ∙ ap (λ l. l ++ two.1) one.5 ∙ append_assoc s.items one.1 two.1)

map_named : (event place : ℕ) (qs : List Packet) → map (λ q. q.packet) (named event place qs) ≡ qs
map_named event place [] = refl
map_named event place (q ∷ qs) = ap (λ l. q ∷ l) (map_named event (suc place) qs)

module _ (p : Profile) (net : Network) (w : World) (i : ℕ) (n : Node) (at : node_at w.nodes i ≡ Some n) (e : Effect) (does : Does p (trace_of w) i n e.node e.sends) where
  abbrev pub after : World
  after = after_effect p w i (Some e)

  here : node_at after.nodes i ≡ Some e.node
  here = node_same w.nodes i n e.node at

  else : (j : ℕ) → j ≢ i → node_at after.nodes j ≡ node_at w.nodes j
  else j apart = node_other w.nodes i n e.node j apart

  rises : (f : Node → ℕ) → f n ≤ f e.node → (j : ℕ) → read f 0 (node_at w.nodes j) ≤ read f 0 (node_at after.nodes j)
  rises f up j = elim (eqb_tells j i) [
    | inl same ↦ subst (λ k. read f 0 (node_at w.nodes k) ≤ read f 0 (node_at after.nodes k)) (sym same.1) (rw (at, here) up)
    | inr apart ↦ rw (else j apart.1) (omega arith)
  ]

  same_kind : (m m' : Node) → SameKind m m' → is_hub (Some m') ≡ is_hub (Some m)
  same_kind (IsHub h) (IsHub k) same = refl
  same_kind (IsHub h) (IsStation r) same = absurd same
  same_kind (IsStation s) (IsHub h) same = absurd same
  same_kind (IsStation s) (IsStation r) same = refl

  hubs_now : (j : ℕ) → is_hub (node_at after.nodes j) ≡ is_hub (node_at w.nodes j)
  hubs_now j = elim (eqb_tells j i) [
    | inl same ↦ subst (λ k. is_hub (node_at after.nodes k) ≡ is_hub (node_at w.nodes k)) (sym same.1) (rw (here, at) (same_kind n e.node does.kind))
    | inr apart ↦ ap is_hub (else j apart.1)
  ]

  pub grows_by : Grows p (trace_of w) (trace_of after)
  grows_by = record {
    node = i;
    new = does.new;
    decision = does.decision;
    packets = e.sends;
    fresh = does.fresh;
    names = parties_same w.nodes i n e.node at does.party;
    hubs = hubs_now;
    homes = home_same w.nodes i n e.node;
    items_here = rw (here, at) does.items;
    items_else = λ j apart. ap (read items_in []) (else j apart);
    last_up = rises last_in does.last;
    group_up = rises group_in does.group;
    decisions_here = rw (here, at) does.decisions;
    decisions_else = λ j apart. ap (read decisions_in []) (else j apart);
    all_packets = map-append (λ q. q.packet) w.packets (named (suc w.events) 1 e.sends) ∙ ap (λ l. packets_of w ++ l) (map_named (suc w.events) 1 e.sends);
    one = does.one;
    at_hub = rw at does.at_hub;
    news = rw here does.news;
  }

  station_kind : (m m' : Node) (s' : Station) → SameKind m m' → m' ≡ IsStation s' → (s : Station) × (m ≡ IsStation s) × (s'.hubs ≡ s.hubs) × (s'.marks ≡ s.marks)
  station_kind (IsHub h) (IsHub k) s' same is = absurd cc
  station_kind (IsHub h) (IsStation r) s' same is = absurd same
  station_kind (IsStation s) (IsHub h) s' same is = absurd same
  station_kind (IsStation s) (IsStation r) s' same is = let r_is : r ≡ s' = cc in (s, refl, subst (λ z. z.hubs ≡ s.hubs) r_is same.0, subst (λ z. z.marks ≡ s.marks) r_is same.1)

  hub_kind : (m m' : Node) (h' : Hub) → SameKind m m' → m' ≡ IsHub h' → (h : Hub) × (m ≡ IsHub h)
  hub_kind (IsHub h) (IsHub k) h' same is = (h, refl)
  hub_kind (IsHub h) (IsStation r) h' same is = absurd same
  hub_kind (IsStation s) (IsHub k) h' same is = absurd same
  hub_kind (IsStation s) (IsStation r) h' same is = absurd cc

  hub_stays : (m m' : Node) (h : Hub) → SameKind m m' → m ≡ IsHub h → (h' : Hub) × (m' ≡ IsHub h')
  hub_stays (IsHub h) (IsHub k) h' same is = (k, refl)
  hub_stays (IsHub h) (IsStation r) h' same is = absurd same
  hub_stays (IsStation s) (IsHub k) h' same is = absurd cc
  hub_stays (IsStation s) (IsStation r) h' same is = absurd cc

  hub_after : Sound p net w → (j : ℕ) → IsHubNumber net.second j → (h : Hub) × HubAt after j h
  hub_after was j number = elim (eqb_tells j i) [
    | inl same ↦
        let old = was.hub_there j number in
        let there : node_at w.nodes i ≡ Some (IsHub old.0) = subst (λ k. node_at w.nodes k ≡ Some (IsHub old.0)) same.1 old.1 in
        let both : Some n ≡ Some (IsHub old.0) = sym at ∙ there in
        let is : n ≡ IsHub old.0 = cc in
        let now = hub_stays n e.node old.0 does.kind is in
        (now.0, subst (λ k. node_at after.nodes k ≡ Some (IsHub now.0)) (sym same.1) (here ∙ ap Some now.1))
    | inr apart ↦ let old = was.hub_there j number in (old.0, else j apart.1 ∙ old.1)
  ]

  -- the second hub stays one
  second_after : Sound p net w → (m : Node) → after.nodes.second ≡ Some m → is_hub (Some m) ≡ true
  second_after was m is = by (second_cases w.nodes i e.node m is)
    where
      by : (w.nodes.second ≡ Some m) ⊎ ((m ≡ e.node) × (old : Node) × (w.nodes.second ≡ Some old) × (node_at w.nodes i ≡ Some old)) → is_hub (Some m) ≡ true
      by (inl same) = was.second m same
      by (inr new) = rw new.0 (same_kind n e.node does.kind ∙ ap (λ z. is_hub (Some z)) (some_inj (sym at ∙ new.3)) ∙ was.second new.1 new.2)

  only_after : Sound p net w → (j : ℕ) (h : Hub) → HubAt after j h → IsHubNumber net.second j
  only_after was j h is = elim (eqb_tells j i) [
    | inl same ↦
        let there : node_at after.nodes i ≡ Some (IsHub h) = subst (λ k. node_at after.nodes k ≡ Some (IsHub h)) same.1 is in
        let both : Some e.node ≡ Some (IsHub h) = sym here ∙ there in
        let now : e.node ≡ IsHub h = cc in
        let old = hub_kind n e.node h does.kind now in
        subst (IsHubNumber net.second) (sym same.1) (was.only_hubs i old.0 (at ∙ ap Some old.1))
    | inr apart ↦ was.only_hubs j h (sym (else j apart.1) ∙ is)
  ]

  hubs_after : Sound p net w → (j : ℕ) (s : Station) → StationAt after j s → s.hubs ≡ believed_at net.hub net.second (home_of after.nodes j)
  hubs_after was j s is = rw (home_same w.nodes i n e.node j) (elim (eqb_tells j i) [
    | inl same ↦
        let there : node_at after.nodes i ≡ Some (IsStation s) = subst (λ k. node_at after.nodes k ≡ Some (IsStation s)) same.1 is in
        let both : Some e.node ≡ Some (IsStation s) = sym here ∙ there in
        let now : e.node ≡ IsStation s = cc in
        let old = station_kind n e.node s does.kind now in
        subst (λ k. s.hubs ≡ believed_at net.hub net.second (home_of w.nodes k)) (sym same.1) (old.2 ∙ was.hubs i old.0 (at ∙ ap Some old.1))
    | inr apart ↦ was.hubs j s (sym (else j apart.1) ∙ is)
  ])

  marks_after : Sound p net w → (j : ℕ) (s : Station) → StationAt after j s → s.marks ≡ no_marks
  marks_after was j s is = elim (eqb_tells j i) [
    | inl same ↦
        let there : node_at after.nodes i ≡ Some (IsStation s) = subst (λ k. node_at after.nodes k ≡ Some (IsStation s)) same.1 is in
        let both : Some e.node ≡ Some (IsStation s) = sym here ∙ there in
        let now : e.node ≡ IsStation s = cc in
        let old = station_kind n e.node s does.kind now in
        old.3 ∙ was.marks i old.0 (at ∙ ap Some old.1)
    | inr apart ↦ was.marks j s (sym (else j apart.1) ∙ is)
  ]

  pub sound_by : Sound p net w → Sound p net after
  sound_by was = record {
    names = λ j. parties_same w.nodes i n e.node at does.party j ∙ was.names j;
    homes = λ j. home_same w.nodes i n e.node j ∙ was.homes j;
    few = few_after w.nodes i e.node was.few;
    second = second_after was;
    hub_there = hub_after was;
    only_hubs = only_after was;
    hubs = hubs_after was;
    marks = marks_after was;
    holds = holds_after p (trace_of w) (trace_of after) grows_by was.holds;
  }

  station_now : (m m' : Node) (s : Station) (new : Option Item) → SameKind m m' → party_of_node m' ≡ party_of_node m → items_in m' ≡ items_in m ++ option_to_list new → m ≡ IsStation s
      → (s' : Station) × (m' ≡ IsStation s') × (s'.me ≡ s.me) × (s'.hubs ≡ s.hubs) × (s'.items ≡ s.items ++ option_to_list new)
  station_now (IsHub h) (IsHub k) s new same party items is = absurd cc
  station_now (IsHub h) (IsStation r) s new same party items is = absurd same
  station_now (IsStation z) (IsHub h) s new same party items is = absurd same
  station_now (IsStation z) (IsStation r) s new same party items is =
      let z_is : z ≡ s = cc in
      (r, refl, party ∙ ap (λ y. y.me) z_is, same.0 ∙ ap (λ y. y.hubs) z_is, items ∙ ap (λ y. y.items ++ option_to_list new) z_is)

  pub later_by : IsLater w after
  later_by j s is = elim (eqb_tells j i) [
    | inl same ↦
        let there : node_at w.nodes i ≡ Some (IsStation s) = subst (λ k. node_at w.nodes k ≡ Some (IsStation s)) same.1 is in
        let both : Some n ≡ Some (IsStation s) = sym at ∙ there in
        let old : n ≡ IsStation s = cc in
        let now = station_now n e.node s does.new does.kind does.party does.items old in
        (now.0, option_to_list does.new, subst (λ k. node_at after.nodes k ≡ Some (IsStation now.0)) (sym same.1) (here ∙ ap Some now.1), now.2, now.3, now.4)
    | inr apart ↦ (s, [], else j apart.1 ∙ is, refl, refl, sym (append-nil s.items))
  ]
