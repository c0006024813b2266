-- What a node did at what it was asked is what the event makes of the network.
use Rattle.std.specs.Prelude.{◌≡◌, ◌≤◌, ℕ, suc, List, ◌++◌, true, false, Bool, ◌&&◌, length, Option, Some, None, is_some, option_and_then, refl, IsTrue, Vec}
use mathlib.Core.Path.{sym, ap, subst, ◌∙◌}
use mathlib.Core.Logic.{inl, inr}
use native.Mathlib.Omega.{arith}
use Rattle.std.proofs.lemmas.Bool.Decides.{eqb_tells}
use Rattle.std.specs.Result.{IsErrAnd}
use Rattle.std.specs.Prelude.{Result, Ok, Err, IfErr}
use Rattle.std.proofs.lemmas.Bool.{and_parts, and_from}
use Rattle.x12_profile.specs.X12.{x12}
use Rattle.x12_station.specs.Seen.{StationView}
use Rattle.x12_core.specs.Ask.{does_at, node_meant, refusal_of_ask}
use Rattle.x12_core.specs.declared.fault.CoreFault.{CoreFault}
use Rattle.x12_core.specs.declared.fault.CoreFault.TheVariants as code
use Rattle.x12_core.specs.Effect.{Effect}
use Rattle.x12_core.specs.Node.{Node, second_hub_node}
use Rattle.x12_core.specs.NodeRefusal.{NodeRefusal}
use Rattle.x12_core.specs.Packet.{Packet}
use Rattle.x12_world.specs.declared.refused.Refused.{Refused}
use Rattle.x12_world.specs.RefusedNumber.{refused_by_core}
use Rattle.x12_world.specs.Asks.{IsAsked, IsAskedInVain}
use Rattle.x12_world.specs.declared.hubs.Hubs.{Hubs as CodeHubs}
use Rattle.x12_world.specs.Nodes.{Nodes, is_hub_number, node_at, site_of, with_node}
use Rattle.x12_world.specs.Effect.{Asked, asked_by, after_asked, after_effect, effect_at}
use Rattle.x12_world.specs.EventRefusal.{EventRefusal, has_nodes, is_there, may_be_asked, network_refusal, node_refusal, or_of_node}
use Rattle.x12_world.specs.Packet.{named}
use Rattle.x12_world.specs.Refusing.{IsNetworkRefusal}
use Rattle.x12_world.specs.Running.{AskedAnswers, AnswersIfStation, all_answer, answers_at, asked_answers, hub_answers, nodes_answer, second_answers, station_answers_at, world_of}
use Rattle.x12_world.specs.Runs.{running}
use Rattle.x12_world.specs.View.{held_view}
use Rattle.std.specs.Global.{Global}
use Rattle.x12_core.specs.declared.packet.Packet.{Packet as CodePacket}
use Rattle.x12_world.specs.Taking.{IsTaken}
use Rattle.x12_world.specs.World.{World, Event}
use Rattle.x12_world.proofs.AnswerLemmas.{founders_parts, number_of_hub, number_of_station}
use Rattle.x12_world.proofs.KeyLemmas.{false_true}
use Rattle.x12_world.proofs.RefusalLemmas.{nodes_there}
use Rattle.x12_world.proofs.TakenLemmas.{did_empty}

both_none : (a : Option EventRefusal) (b : Option NodeRefusal) → a ≡ None → b ≡ None → or_of_node a b ≡ None
both_none a b p q = rw (p, q) refl

-- the world once a node did as it was asked
pub acted : (w : World) (a : Asked) (n next : Node) (sends : List Packet) → node_at w.nodes a.node ≡ Some n → does_at x12 (site_of w.nodes a.node) a.ask n ≡ Some (record { node = next; sends = sends })
    → after_asked x12 w (Some a) ≡ record { nodes = with_node w.nodes a.node next; packets = w.packets ++ named (suc w.events) 1 sends; events = suc w.events }
acted w a n next sends there did =
    ap (λ o. after_effect x12 w a.node (effect_at x12 (site_of w.nodes a.node) a.ask o)) there ∙ ap (after_effect x12 w a.node) did

-- the node that is asked did so
pub took : (w : World) (e : Event) (a : Asked) (nodes : Nodes) (sends : List Packet) → asked_by w.packets e ≡ Some a → network_refusal x12 w e ≡ None → IsAsked a.ask (site_of w.nodes a.node) w.nodes nodes sends → IsTaken w e nodes sends
took w e a nodes sends is empty asked =
    let did : Effect = record { node = asked.next; sends = sends } in
    let own : node_refusal x12 w (Some a) ≡ None = ap (option_and_then (refusal_of_ask x12 a.ask)) asked.is ∙ did_empty x12 (site_of w.nodes a.node) a.ask asked.node did asked.effect in
    record {
      table = both_none (network_refusal x12 w e) (node_refusal x12 w (asked_by w.packets e)) empty (ap (node_refusal x12 w) is ∙ own);
      after =
          ap (after_asked x12 w) is
          ∙ acted w a asked.node asked.next sends asked.is asked.effect
          ∙ ap (λ ns. record { nodes = ns; packets = w.packets ++ named (suc w.events) 1 sends; events = suc w.events }) (sym asked.nodes);
    }

-- what the network's table lets through
pub fits_there : (w : World) (e : Event) (a : Asked) → asked_by w.packets e ≡ Some a → network_refusal x12 w e ≡ None → may_be_asked a.node a.ask (node_at w.nodes a.node) ≡ true
fits_there w e a is empty = (and_parts (may_be_asked a.node a.ask (node_at w.nodes a.node)) (is_there w (node_meant a.ask)) (subst (λ o. has_nodes w o ≡ true) is (nodes_there x12 w e empty))).0

-- it refuses, and its kind is no reason
pub refused : (w : World) (e : Event) (a : Asked) (r : CoreFault) → asked_by w.packets e ≡ Some a → network_refusal x12 w e ≡ None → IsAskedInVain a.ask a.node w.nodes r → IsNetworkRefusal w e (refused_by_core r)
refused w e a (code.Node fault) is empty asked = (empty, (a, asked.node, is, asked.is, asked.why.1))
refused w e a code.Memory is empty asked = empty
refused w e a code.WrongKind is empty asked =
    absurd (false_true (sym asked.why ∙ sym (ap (may_be_asked a.node a.ask) asked.is) ∙ fits_there w e a is empty))

-- what all records answer: those of the hubs, and those of the stations
pub stations_answer : {H R : Type 0} → (h : CodeHubs H) (ss : List (StationView R)) → IsTrue (nodes_answer h ss) → IsTrue (all_answer ss)
stations_answer h ss e = (and_parts (h.first.answers && second_answers h.second) (all_answer ss) (sym (founders_parts h.first h.second ss) ∙ e)).1

-- the same hubs, beside stations that all answer
pub all_answer_so : {H R : Type 0} → (h : CodeHubs H) (ss rs : List (StationView R)) → IsTrue (nodes_answer h rs) → IsTrue (all_answer ss) → IsTrue (nodes_answer h ss)
all_answer_so h ss rs e b =
    let hubs = h.first.answers && second_answers h.second in
    founders_parts h.first h.second ss ∙ and_from hubs (all_answer ss) (and_parts hubs (all_answer rs) (sym (founders_parts h.first h.second rs) ∙ e)).0 b

-- the records of the node that is asked answer: a hub's, or a station's
pub hub_so : {H R : Type 0} → (hubs new : CodeHubs H) (ss : List (StationView R)) (held : List (Vec CodePacket Global)) (e : Event) (a : Asked) → asked_by (held_view held) e ≡ Some a
    → is_some new.second ≡ is_some hubs.second → is_hub_number (is_some hubs.second) a.node ≡ true → AskedAnswers (world_of hubs ss held) e (running new ss held)
    → (i : ℕ) → i ≡ a.node → IsTrue (hub_answers new i)
hub_so hubs new ss held e a is second tells answers i at =
    let asked = subst (λ o. IsTrue (asked_answers (running new ss held) o)) is answers in
    subst (λ k. IsTrue (hub_answers new k)) (sym at) (sym (number_of_hub new ss a.node new.second (ap (λ b. is_hub_number b a.node) second ∙ tells)) ∙ asked)

pub station_so : {H R : Type 0} → (hubs : CodeHubs H) (ss new : List (StationView R)) (held : List (Vec CodePacket Global)) (e : Event) (a : Asked) → asked_by (held_view held) e ≡ Some a
    → is_hub_number (is_some hubs.second) a.node ≡ false → 1 ≤ a.node → a.node ≤ length new → AskedAnswers (world_of hubs ss held) e (running hubs new held)
    → (i : ℕ) → i ≡ a.node → IsTrue (station_answers_at new i)
station_so hubs ss new held e a is isnt low high answers i at =
    let asked = subst (λ o. IsTrue (asked_answers (running hubs new held) o)) is answers in
    subst (λ k. IsTrue (station_answers_at new k)) (sym at) (sym (number_of_station hubs new a.node hubs.second isnt low high) ∙ asked)

-- a number of a station is no hub's
station_number_is : (second : Bool) (i : ℕ) → 1 ≤ i → i ≤ 16 → is_hub_number second i ≡ false
station_number_is second i low high = elim (eqb_tells i 0) [
  | inl zero_is ↦ let e = zero_is.1 in absurd (omega (arith, low, e))
  | inr apart ↦ elim (eqb_tells i second_hub_node) [
    | inl same ↦ let e = same.1 in absurd (omega (arith, high, e))
    | inr other ↦ rw (apart.0, other.0) (never second)
  ]
]
  where
    never : (b : Bool) → (b && false) ≡ false
    never true = refl
    never false = refl

pub station_by_number : {H R : Type 0} → (hubs : CodeHubs H) (ss new : List (StationView R)) (held : List (Vec CodePacket Global)) (i : ℕ) → length ss ≤ 16 → length new ≡ length ss
    → IsTrue (answers_at (running hubs new held) i) → AnswersIfStation ss new i
station_by_number hubs ss new held i few same answers low high =
    sym (number_of_station hubs new i hubs.second (station_number_is (is_some hubs.second) i low (omega (arith, few, high))) low (omega (arith, same, high))) ∙ answers

-- a fault that a core gave, as the network says it
pub told_so : {A : Type 0} (r : Result A Refused) (fault : CoreFault) (P : Refused → Type 0) → IsErrAnd r (λ e. e ≡ refused_by_core fault) → P (refused_by_core fault) → IfErr r P
told_so (Ok x) fault P is why = tt
told_so (Err e) fault P is why = subst P (sym is) why
