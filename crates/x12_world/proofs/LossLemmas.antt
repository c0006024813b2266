-- A world that loses packets goes beside one that loses none.
use Rattle.std.specs.Prelude.{◌≡◌, ℕ, suc, ◌<◌, ◌≤◌, List, [], ◌∷◌, ◌++◌, Bool, true, false, ◌&&◌, ◌==◌, if◌then◌else◌, Option, Some, None, is_none, not, option_map, Contains, refl, ◌⊎◌}
use mathlib.Core.Path.{sym, ap, ap₂, subst, ◌∙◌}
use mathlib.Core.Logic.{inl, inr}
use native.Mathlib.Omega.{arith}
use Rattle.std.proofs.lemmas.Bool.Decides.{eqb_tells}
use Rattle.std.proofs.lemmas.List.Elements.{Contains-append_cases, Contains-append_left, Contains-append_right}
use Rattle.x12_profile.specs.Profile.{Profile}
use Rattle.x12_profile.specs.Laws.{Laws}
use Rattle.x12_core.specs.Packet.{Packet, PacketName}
use Rattle.x12_world.specs.Packet.{SentPacket, packet_of, named}
use Rattle.x12_world.specs.Network.{Network}
use Rattle.x12_world.specs.Nodes.{Nodes, node_at, site_of, with_node}
use Rattle.x12_world.specs.World.{World, Event, At, Deliver, Outside}
use Rattle.x12_core.specs.Effect.{Effect}
use Rattle.x12_world.specs.Effect.{Asked, asked_by, asked_to_take, after_asked, after_effect, effect_at}
use Rattle.x12_world.specs.Run.{happens, run, new_world}
use Rattle.x12_world.specs.EventRefusal.{EventRefusal, NoEventLeft, NoSuchNode, NoSuchPacket, SpokenFor, is_at_end, has_nodes, node_refusal, or_of_node, event_refusal}
use Rattle.x12_envelopes.specs.Row.{first_of_rows}
use Rattle.x12_world.specs.Headline.{Headline}
use Rattle.x12_world.specs.Loss.{Happening, after_loss, happens_so, run_so, Shadows, EveryRunShadows, HeadlineWithLosses}
use Rattle.x12_world.proofs.RunLemmas.{run-append}
use Rattle.x12_world.proofs.HeadlineLemmas.{headline_in_runs}
use Rattle.x12_numbers.proofs.Shelf.{none_in_nil, contains_cons, contains_head, contains_tail}

either : (t : Bool) (p : Packet) (a b : Option Packet) (q : Packet) → (if t then Some p else a) ≡ Some q → (a ≡ Some q → b ≡ Some q) → (if t then Some p else b) ≡ Some q
either true p a b q is later = is
either false p a b q is later = later is

-- what was found in front is found still
in_front : (qs more : List SentPacket) (n : PacketName) (q : Packet) → packet_of qs n ≡ Some q → packet_of (qs ++ more) n ≡ Some q
in_front [] more n q e = absurd (cc)
in_front (r ∷ qs) more n q e = either ((r.name.event == n.event) && (r.name.place == n.place)) r.packet (packet_of qs n) (packet_of (qs ++ more) n) q e (in_front qs more n q)

-- a packet of a later event isn't found in front
behind : (qs more : List SentPacket) (n : PacketName) → ((q : SentPacket) → Contains qs q → q.name.event < n.event) → packet_of (qs ++ more) n ≡ packet_of more n
behind [] more n below = refl
behind (r ∷ qs) more n below = elim (eqb_tells r.name.event n.event) [
  | inl same ↦ let lt = below r (contains_head r qs) in let eq = same.1 in absurd (omega arith)
  | inr apart ↦ rw (apart.0) (behind qs more n (λ q h. below q (contains_tail q r qs h)))
]

-- the packets of an event bear its number
of_event : (event place : ℕ) (qs : List Packet) (n : PacketName) (q : Packet) → packet_of (named event place qs) n ≡ Some q → n.event ≡ event
of_event event place [] n q e = absurd (cc)
of_event event place (r ∷ qs) n q e = elim (eqb_tells event n.event) [
  | inl same ↦ sym same.1
  | inr apart ↦ of_event event (suc place) qs n q (rw (apart.0) at e)
]

names_of_event : (event place : ℕ) (qs : List Packet) (q : SentPacket) → Contains (named event place qs) q → q.name.event ≡ event
names_of_event event place [] q h = none_in_nil q h
names_of_event event place (r ∷ qs) q h = elim (contains_cons q _ _ h) [
  | inl is ↦ ap (λ z. z.name.event) (sym is)
  | inr later ↦ names_of_event event (suc place) qs q later
]

neither : (t : Bool) (p : Packet) (a b c : Option Packet) → (if t then Some p else a) ≡ None → (a ≡ None → c ≡ b) → c ≡ (if t then Some p else b)
neither true p a b c is later = absurd cc
neither false p a b c is later = later is

none_in_front : (qs more : List SentPacket) (n : PacketName) → packet_of qs n ≡ None → packet_of more n ≡ packet_of (qs ++ more) n
none_in_front [] more n e = refl
none_in_front (r ∷ qs) more n e = neither ((r.name.event == n.event) && (r.name.place == n.place)) r.packet (packet_of qs n) (packet_of (qs ++ more) n) (packet_of more n) e (none_in_front qs more n)

names_so : (full : World) (e : Effect) → ((q : SentPacket) → Contains full.packets q → q.name.event ≤ full.events) → (q : SentPacket) → Contains (full.packets ++ named (suc full.events) 1 e.sends) q → q.name.event ≤ suc full.events
names_so full e old q h = elim (Contains-append_cases full.packets (named (suc full.events) 1 e.sends) q h) [
  | inl before ↦ let le = old q before in omega arith
  | inr now ↦ let eq = names_of_event (suc full.events) 1 e.sends q now in omega arith
]

both : (full held : World) (e : Effect) → Shadows full held → (n : PacketName) (q : Packet) (o : Option Packet) → packet_of held.packets n ≡ o → packet_of (held.packets ++ named (suc held.events) 1 e.sends) n ≡ Some q → packet_of (full.packets ++ named (suc full.events) 1 e.sends) n ≡ Some q
both full held e s n q (Some r) is found = in_front full.packets (named (suc full.events) 1 e.sends) n q (s.packets n q (is ∙ (sym (in_front held.packets (named (suc held.events) 1 e.sends) n r is) ∙ found)))
both full held e s n q None is found =
    let new : packet_of (named (suc held.events) 1 e.sends) n ≡ Some q = none_in_front held.packets (named (suc held.events) 1 e.sends) n is ∙ found in
    let event : n.event ≡ suc held.events = of_event (suc held.events) 1 e.sends n q new in
    behind full.packets (named (suc full.events) 1 e.sends) n (λ r h. below r h event) ∙ subst (λ k. packet_of (named (suc k) 1 e.sends) n ≡ Some q) (sym s.events) new
  where
    below : (r : SentPacket) → Contains full.packets r → n.event ≡ suc held.events → r.name.event < n.event
    below r h event = let le = s.named r h in let same = s.events in omega arith

sent_so : (full held : World) (e : Effect) → Shadows full held → (q : SentPacket) → Contains held.packets q ⊎ Contains (named (suc held.events) 1 e.sends) q → Contains (full.packets ++ named (suc full.events) 1 e.sends) q
sent_so full held e s q (inl before) = Contains-append_left full.packets (named (suc full.events) 1 e.sends) q (s.sent q before)
sent_so full held e s q (inr now) = Contains-append_right full.packets (named (suc full.events) 1 e.sends) q (subst (λ k. Contains (named (suc k) 1 e.sends) q) (sym s.events) now)

module _ (p : Profile) where
  -- an effect on both
  effect_so : (lost : Bool) (full held : World) (i : ℕ) (e : Option Effect) → Shadows full held → Shadows (after_effect p full i e) (after_loss lost held (after_effect p held i e))
  effect_so true full held i None s = record { nodes = s.nodes; events = s.events; packets = s.packets; sent = s.sent; named = s.named }
  effect_so false full held i None s = s
  effect_so true full held i (Some e) s = record {
    nodes = ap (λ ns. with_node ns i e.node) s.nodes;
    events = ap suc s.events;
    packets = λ n q found. in_front full.packets (named (suc full.events) 1 e.sends) n q (s.packets n q found);
    sent = λ q h. Contains-append_left full.packets (named (suc full.events) 1 e.sends) q (s.sent q h);
    named = names_so full e s.named;
  }
  effect_so false full held i (Some e) s = record {
    nodes = ap (λ ns. with_node ns i e.node) s.nodes;
    events = ap suc s.events;
    packets = λ n q found. both full held e s n q (packet_of held.packets n) refl found;
    sent = λ q h. sent_so full held e s q (Contains-append_cases held.packets (named (suc held.events) 1 e.sends) q h);
    named = names_so full e s.named;
  }

  -- an event is refused alike and asks alike on both
  abbrev pub Alike : World → World → Event → Type 0
  Alike full held e = (event_refusal p full e ≡ event_refusal p held e) × (asked_by full.packets e ≡ asked_by held.packets e)

  -- or the one that lost packets refuses it
  abbrev pub AlikeOrRefused : World → World → Event → Type 0
  AlikeOrRefused full held e = Alike full held e ⊎ ((r : EventRefusal) × (event_refusal p held e ≡ Some r))

  -- all of a world but its packets
  pub same_but : (full held : World) → Shadows full held → record full { packets = held.packets } ≡ held
  same_but full held s = ap₂ (λ (nodes : Nodes) (events : ℕ). world_by nodes held.packets events) s.nodes s.events
    where
      world_by : Nodes → List SentPacket → ℕ → World
      world_by nodes packets events = record { nodes = nodes; packets = packets; events = events }

  -- why a delivery that asks so is refused
  abbrev pub delivery_refusal : World → Option Asked → Option EventRefusal
  delivery_refusal w o = or_of_node (first_of_rows (
      (is_at_end w, NoEventLeft)
      ∷ (not (has_nodes w o), NoSuchNode)
      ∷ (is_none o, NoSuchPacket)
      ∷ (false, SpokenFor)
      ∷ [])) (node_refusal p w o)

  refused_delivery : (w : World) → (r : EventRefusal) × (delivery_refusal w None ≡ Some r)
  refused_delivery w = by (is_at_end w)
    where
      by : (t : Bool) → (r : EventRefusal) × (or_of_node (if t then Some NoEventLeft else Some NoSuchPacket) None ≡ Some r)
      by true = (NoEventLeft, refl)
      by false = (NoSuchPacket, refl)

  pub alike : (full held : World) → Shadows full held → (e : Event) → AlikeOrRefused full held e
  alike full held s (At i a) = inl (ap (λ w. event_refusal p w (At i a)) (same_but full held s), refl)
  alike full held s (Deliver name at) = delivery (packet_of held.packets name) refl
    where
      take : Option Packet → Option Asked
      take o = option_map (asked_to_take name at) o

      delivery : (o : Option Packet) → packet_of held.packets name ≡ o → AlikeOrRefused full held (Deliver name at)
      delivery None is = let no = refused_delivery held in inr (no.0, ap (λ o. delivery_refusal held (take o)) is ∙ no.1)
      delivery (Some q) is = inl (
        ap (λ o. delivery_refusal full (take o)) (s.packets name q is) ∙ (ap (λ w. delivery_refusal w (take (Some q))) (same_but full held s) ∙ sym (ap (λ o. delivery_refusal held (take o)) is)),
        ap take (s.packets name q is) ∙ sym (ap take is),
      )
  alike full held s (Outside i b at) = inl (ap (λ w. event_refusal p w (Outside i b at)) (same_but full held s), refl)

  asked_so : (lost : Bool) (full held : World) (a : Option Asked) → Shadows full held → Shadows (after_asked p full a) (after_loss lost held (after_asked p held a))
  asked_so true full held None s = record { nodes = s.nodes; events = s.events; packets = s.packets; sent = s.sent; named = s.named }
  asked_so false full held None s = s
  asked_so lost full held (Some a) s =
      let e : Option Effect = effect_at p (site_of full.nodes a.node) a.ask (node_at full.nodes a.node) in
      subst (λ d. Shadows (after_effect p full a.node e) (after_loss lost held (after_effect p held a.node d))) (ap (λ ns. effect_at p (site_of ns a.node) a.ask (node_at ns a.node)) s.nodes) (effect_so lost full held a.node e s)

  nothing_so : (lost : Bool) (full held : World) → Shadows full held → Shadows full (after_loss lost held held)
  nothing_so true full held s = record { nodes = s.nodes; events = s.events; packets = s.packets; sent = s.sent; named = s.named }
  nothing_so false full held s = s

  pub happens_alike : (lost : Bool) (full held : World) (e : Event) → Shadows full held → Alike full held e → Shadows (happens p full e) (after_loss lost held (happens p held e))
  happens_alike lost full held e s same = by (event_refusal p held e) refl
    where
      by : (r : Option EventRefusal) → event_refusal p held e ≡ r → Shadows (happens p full e) (after_loss lost held (happens p held e))
      by (Some r) is = rw (same.0, is) (nothing_so lost full held s)
      by None is = rw (same.0, is) (subst (λ a. Shadows (after_asked p full a) (after_loss lost held (after_asked p held (asked_by held.packets e)))) (sym same.1) (asked_so lost full held (asked_by held.packets e) s))

  pub refused_so : (lost : Bool) (full held : World) (e : Event) → Shadows full held → (r : EventRefusal) → event_refusal p held e ≡ Some r → Shadows full (after_loss lost held (happens p held e))
  refused_so lost full held e s r is = rw is (nothing_so lost full held s)

  step_so : (full held : World) (h : Happening) → Shadows full held → (events : List Event) × Shadows (run p events full) (happens_so p held h)
  step_so full held h s = elim (alike full held s h.event) [
    | inl same ↦ (h.event ∷ [], happens_alike h.lost full held h.event s same)
    | inr none ↦ ([], refused_so h.lost full held h.event s none.0 none.1)
  ]

  pub run_shadows : EveryRunShadows p
  run_shadows full held [] s = ([], s)
  run_shadows full held (h ∷ hs) s =
      let one = step_so full held h s in
      let rest = run_shadows (run p one.0 full) (happens_so p held h) hs one.1 in
      (one.0 ++ rest.0, subst (λ w. Shadows w (run_so p hs (happens_so p held h))) (sym (run-append p one.0 rest.0 full)) rest.1)

  -- the headline speaks of nodes alone
  pub headline_by : (before before' after after' : World) → before.nodes ≡ before'.nodes → after.nodes ≡ after'.nodes → Headline p before after → Headline p before' after'
  headline_by before before' after after' b a h =
      let moved : Headline p (record before { nodes = before'.nodes }) (record after { nodes = after'.nodes }) = subst (λ ns. Headline p (record before { nodes = before'.nodes }) (record after { nodes = ns })) a (subst (λ ns. Headline p (record before { nodes = ns }) after) b h) in
      record { accepted_once = moved.accepted_once; rejected_never = moved.rejected_never; final_stays = moved.final_stays; handled_settles = moved.handled_settles }

  pub new_shadows : (net : Network) → Shadows (new_world net) (new_world net)
  new_shadows net = record { nodes = refl; events = refl; packets = λ n q found. found; sent = λ q h. h; named = λ q h. none_in_nil q h }

  pub run_so-append : (before after : List Happening) (w : World) → run_so p (before ++ after) w ≡ run_so p after (run_so p before w)
  run_so-append [] after w = refl
  run_so-append (h ∷ hs) after w = run_so-append hs after (happens_so p w h)

pub headline_with_losses : (p : Profile) → Laws p → HeadlineWithLosses p
headline_with_losses p laws net is before after =
    let first = run_shadows p (new_world net) (new_world net) before (new_shadows p net) in
    let later = run_shadows p (run p first.0 (new_world net)) (run_so p before (new_world net)) after first.1 in
    subst (λ w. Headline p (run_so p before (new_world net)) w) (sym (run_so-append p before after (new_world net)))
    (headline_by p _ _ _ _ first.1.nodes later.1.nodes (subst (λ w. Headline p (run p first.0 (new_world net)) w) (run-append p first.0 later.0 (new_world net))
    (headline_in_runs p laws net is first.0 later.0)))
