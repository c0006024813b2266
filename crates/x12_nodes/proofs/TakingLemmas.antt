-- What a node does where it is asked is an event that the network takes.
use Rattle.std.proofs.Common.{◌≡◌, ◌≢◌, ℕ, suc, List, [], ◌∷◌, ◌++◌, Bool, true, false, ◌&&◌, Option, Some, None, IsSome, Contains, refl, option_map, sym, ap, subst, ◌∙◌, inl, inr}
use Rattle.std.specs.Prelude.{◌≤◌, is_none, is_some, length, option_to_list}
use Rattle.std.specs.List.{list_any}
use Rattle.std.proofs.lemmas.List.Elements.{Contains-append_cases}
use Rattle.x12_core.specs.Action.{Action, node_served}
use Rattle.x12_core.specs.Ask.{Ask, Do, does_at, node_meant, suits}
use Rattle.x12_core.specs.Ask as ask
use Rattle.x12_core.specs.Node.{Node, second_hub_node, party_of_node}
use Rattle.x12_core.specs.Packet.{Load, Packet, PacketName}
use Rattle.x12_core.specs.declared.packet.Site.{Site}
use Rattle.x12_core.specs.Effect.{Effect}
use Rattle.x12_envelopes.specs.declared.moment.Moment.{Moment}
use Rattle.x12_envelopes.specs.declared.party.Party.{Party}
use Rattle.x12_judge.specs.Agreement.{is_same_party}
use Rattle.x12_nodes.specs.Law.{IsAnother, NamesNone, ServesAnother}
use Rattle.x12_acks.proofs.CutLemmas.{any_is}
use Rattle.x12_numbers.proofs.Shelf.{contains_cons, false_is_never_true, none_in_nil, some_inj}
use Rattle.x12_station.proofs.ListLemmas.{contains_map}
use Rattle.x12_station.proofs.HeldLemmas.{any_holds}
use Rattle.x12_profile.specs.Interchange.{Bytes}
use Rattle.x12_profile.specs.X12.{x12}
use Rattle.x12_world.specs.Effect.{Asked, asked_by, asked_to_take}
use Rattle.x12_world.specs.EventRefusal.{network_refusal, is_at_end, has_nodes, is_spoken_for, is_there, may_be_asked}
use Rattle.x12_world.specs.Network.{Network, new_nodes, parties_in}
use Rattle.x12_world.specs.Nodes.{Nodes, all_nodes, node_at, site_of, with_node}
use Rattle.x12_world.specs.Packet.{named, packet_of}
use Rattle.x12_world.specs.Taking.{IsTaken}
use Rattle.x12_world.specs.World.{World, Event, At, Deliver, is_named, parties_of}
use Rattle.x12_world.specs.World as event
use Rattle.x12_world.proofs.ActingLemmas.{took}
use Rattle.x12_world.proofs.NodesLemmas.{contains_get, listed_at}
use Rattle.x12_world.proofs.TakenLemmas.{acts_fit, load_fits}
use Rattle.x12_world.proofs.WorldLemmas.{Sound, named_party}

no_row : (w : World) (e : Event) → is_at_end w ≡ false → has_nodes w (asked_by w.packets e) ≡ true → is_none (asked_by w.packets e) ≡ false → is_spoken_for x12 w e ≡ false → network_refusal x12 w e ≡ None
no_row w e a b c d = rw (a, b, c, d) refl

-- the world after an effect of node i
abbrev pub world_after : World → ℕ → Node → List Packet → World
world_after w i next sends = record {
  nodes = with_node w.nodes i next;
  packets = w.packets ++ named (suc w.events) 1 sends;
  events = suc w.events;
}

-- each node has a number
numbered : (ns : Nodes) → (IsSome ns.second → length ns.listed ≤ 17) → (n : Node) → Contains (all_nodes ns) n → (k : ℕ) × (node_at ns k ≡ Some n)
numbered ns few n h = by ns.second refl few h
  where
    by : (second : Option Node) → ns.second ≡ second → (IsSome second → length ns.listed ≤ 17) → Contains (ns.listed ++ option_to_list second) n → (k : ℕ) × (node_at ns k ≡ Some n)
    by None is few h = elim (Contains-append_cases ns.listed [] n h) [
      | inl there ↦ let place = contains_get ns.listed n there in (place.0, rw is place.1)
      | inr none ↦ none_in_nil n none
    ]
    by (Some m) is few' h = elim (Contains-append_cases ns.listed (m ∷ []) n h) [
      | inl there ↦ let place = contains_get ns.listed n there in (place.0, listed_at ns few place.0 n place.1)
      | inr last ↦ elim (contains_cons n m [] last) [
        | inl same ↦ (second_hub_node, rw is (ap Some same))
        | inr none ↦ none_in_nil n none
      ]
    ]

-- what no party of the network is, no node is named
unnamed : (net : Network) (w : World) → Sound x12 net w → (q : Party) → list_any (is_same_party q) (parties_in net) ≡ false → list_any (is_same_party q) (parties_of w) ≡ false
unnamed net w sound q none = by (list_any (is_same_party q) (parties_of w)) refl
  where
    by : (t : Bool) → list_any (is_same_party q) (parties_of w) ≡ t → t ≡ false
    by false is = refl
    by true is =
        let found = any_is (is_same_party q) (parties_of w) is in
        let node = contains_map party_of_node (all_nodes w.nodes) found.0 found.1 in
        let place = numbered w.nodes sound.few node.0 node.1 in
        let has = named_party x12 net w sound place.0 found.0 (rw (place.1) (ap Some node.2)) in
        false_is_never_true (sym none ∙ any_holds (is_same_party q) (parties_in net) found.0 has found.2)

module _ (net : Network) (w : World) (sound : Sound x12 net w) (room : is_at_end w ≡ false) (i : ℕ) (a next : Node) (sends : List Packet) (at : node_at w.nodes i ≡ Some a) where
  abbrev did : Effect
  did = record { node = next; sends = sends }

  abbrev site : Site
  site = site_of w.nodes i

  -- what is to be shown of each event
  abbrev pub Takes : Event → Type 0
  Takes e = IsTaken w e (with_node w.nodes i next) sends

  abbrev asked_so : Ask → Asked
  asked_so k = record { node = i; ask = k }

  takes : (e : Event) (k : Ask) → asked_by w.packets e ≡ Some (asked_so k) → suits i k a ≡ true → is_there w (node_meant k) ≡ true → is_spoken_for x12 w e ≡ false
      → does_at x12 site k a ≡ Some did → Takes e
  takes e k is fits there unspoken does =
      let asked : has_nodes w (Some (asked_so k)) ≡ true = rw (ap (may_be_asked i k) at, fits, there) refl in
      took w e (asked_so k) (with_node w.nodes i next) sends is
      (no_row w e room (ap (has_nodes w) is ∙ asked) (ap is_none is) unspoken)
      (record { node = a; is = at; next = next; effect = does; nodes = refl })

  -- a hub's mailbox is that of another node
  node_there : (j : ℕ) → IsAnother net i j → is_some (node_at w.nodes j) ≡ true
  node_there j its = named (node_at w.nodes j) ∙ ap is_some (sound.names j) ∙ sym (named (node_at (new_nodes net) j)) ∙ its.0
    where
      named : (o : Option Node) → is_some o ≡ is_some (option_map party_of_node o)
      named None = refl
      named (Some n) = refl

  served : (o : Option ℕ) → ServesAnother net i o → is_there w o ≡ true
  served None its = refl
  served (Some j) its = node_there j its

  apart : (o : Option ℕ) → ServesAnother net i o → (j : ℕ) → o ≡ Some j → i ≢ j
  apart None its j e = absurd cc
  apart (Some k) its j e = subst (λ n. i ≢ n) (some_inj e) its.1

  pub acts : (x : Action) → ServesAnother net i (node_served x) → does_at x12 site (Do x) a ≡ Some did → Takes (At i x)
  acts x its does = takes (At i x) (Do x) refl (acts_fit x12 site x a did (apart (node_served x) its) does) (served (node_served x) its) refl does

  pub comes_outside : (b : Bytes) (m : Moment) → NamesNone (parties_in net) b → does_at x12 site (ask.Outside b m) a ≡ Some did → Takes (event.Outside i b m)
  comes_outside b m none does = takes (event.Outside i b m) (ask.Outside b m) refl refl refl unspoken does
    where
      unspoken : (x12.has_header b && is_named x12 w b) ≡ false
      unspoken = by_header (x12.has_header b) refl none
        where
          by_header : (t : Bool) → x12.has_header b ≡ t → (t && list_any (is_same_party (x12.sender b)) (parties_in net)) ≡ false → (t && is_named x12 w b) ≡ false
          by_header false is e = refl
          by_header true is e = unnamed net w sound (x12.sender b) e

  pub comes : (name : PacketName) (from : ℕ) (load : Load) (m : Moment) (stamped : PacketName) → packet_of w.packets name ≡ Some (record { from = from; to = i; load = load })
      → does_at x12 site (ask.Comes stamped from load m) a ≡ Some did → Takes (Deliver name m)
  comes name from load m stamped known does =
      takes (Deliver name m) (ask.Comes name from load m) (ap (option_map (asked_to_take name m)) known) (load_fits x12 site from load m a did does) refl refl does
