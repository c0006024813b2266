-- What holds of a world that lost no packet holds of the one beside it that lost some.
use Rattle.std.specs.Prelude.{◌≡◌, ℕ, List, [], ◌∷◌, ◌++◌, false, Option, Some, None, IsSome, length, ◌≤◌, option_map, refl}
use mathlib.Core.Path.{sym, ap, subst, ◌∙◌}
use mathlib.Core.Logic.{inl, inr}
use Rattle.x12_profile.specs.Interchange.{Bytes}
use Rattle.x12_profile.specs.Profile.{Profile}
use Rattle.x12_profile.specs.Laws.{Laws}
use Rattle.x12_station.specs.Station.{Station}
use Rattle.x12_core.specs.Packet.{Packet}
use Rattle.x12_world.specs.Packet.{packet_of}
use Rattle.x12_core.specs.Node.{IsStation}
use Rattle.x12_world.specs.Nodes.{Nodes}
use Rattle.x12_world.specs.World.{World, StationAt, is_named, Event, At, Deliver, Outside}
use Rattle.x12_world.specs.EventRefusal.{EventRefusal, event_refusal}
use Rattle.x12_world.specs.Network.{Network, IsNetwork}
use Rattle.x12_world.specs.Run.{happens, run, new_world}
use Rattle.x12_world.specs.Headline.{Headline}
use Rattle.x12_world.specs.Traffic.{TrafficFacts, WasSent}
use Rattle.x12_world.specs.Conflict.{NoConflict}
use Rattle.x12_world.specs.Number.{NumbersAreUsed}
use Rattle.x12_world.specs.Outsider.{MovesNothing, OutsidersMoveNothing, brings, bytes_asked}
use Rattle.x12_world.specs.Effect.{asked_to_take}
use Rattle.x12_world.specs.Audit.{KeysTell, NoAuditIsBad}
use Rattle.x12_world.specs.Exchange.{Exchange, Refines, IsStepOrNone, empty_exchange}
use Rattle.x12_world.specs.Loss.{Happening, Shadows, happens_so, run_so}
use Rattle.x12_world.specs.Reach.{IsReachable, FollowsSo, ReachedFacts, ReachLaws}
use Rattle.x12_world.proofs.RunLemmas.{new_sound, run_onward, happens_onward, run-append}
use Rattle.x12_world.proofs.WorldLemmas.{Sound, trace_of}
use Rattle.x12_world.proofs.StandingLemmas.{Stands}
use Rattle.x12_world.proofs.TrafficLemmas.{traffic_holds, no_conflict}
use Rattle.x12_world.proofs.RiseLemmas.{all_rise}
use Rattle.x12_world.proofs.NumberLemmas.{numbers_are_used}
use Rattle.x12_world.proofs.OutsiderLemmas.{outsiders_move_nothing}
use Rattle.x12_world.proofs.OnceLemmas.{keys_once}
use Rattle.x12_world.proofs.KeyLemmas.{keys_tell}
use Rattle.x12_world.proofs.GoodLemmas.{none_is_bad}
use Rattle.x12_world.proofs.RefinesLemmas.{refines, one_step, stands_after, new_stands}
use Rattle.x12_world.proofs.HeadlineLemmas.{headline_in_runs}
use Rattle.x12_world.proofs.LossLemmas.{same_but, alike, happens_alike, refused_so, run_shadows, headline_by, new_shadows, run_so-append}

module _ (p : Profile) (full held : World) (s : Shadows full held) where
  -- the world without loss, but for the packets that were lost
  abbrev fewer : World
  fewer = record full { packets = held.packets }

  moved : (P : World → Type 0) → P fewer → P held
  moved P h = subst P (same_but p full held s) h

  was_sent : (b : Bytes) → WasSent fewer b → WasSent full b
  was_sent b h = (h.0, s.sent h.0 h.1, h.2)

  traffic_so : TrafficFacts p full → TrafficFacts p held
  traffic_so t = moved (TrafficFacts p) (record {
    one_number = λ b c hb hc node from number. t.one_number b c (was_sent b hb) (was_sent c hc) node from number;
    kept_reply = λ r x sub j a at me b sent. t.kept_reply r x sub j a at me b (was_sent b sent);
    refused_or_boxed = t.refused_or_boxed;
    forwarded_as_boxed = λ q item b sent. t.forwarded_as_boxed q item b (s.sent q sent);
    decided_from = t.decided_from;
    learnt_from = t.learnt_from;
  })

  conflict_so : NoConflict p full → NoConflict p held
  conflict_so t = moved (NoConflict p) (record { one_fate = t.one_fate; never_other = λ b sent. t.never_other b (was_sent b sent) })

  numbers_so : NumbersAreUsed p full → NumbersAreUsed p held
  numbers_so t = moved (NumbersAreUsed p) (record {
    of_station = λ i r b at sent. t.of_station i r b at (was_sent b sent);
    of_submissions = t.of_submissions;
    of_groups = t.of_groups;
    of_hub = λ i h b at sent. t.of_hub i h b at (was_sent b sent);
  })

  keys_so : KeysTell p full → KeysTell p held
  keys_so t = moved (KeysTell p) (record { held = t.held; known = t.known; audited = t.audited; once = t.once; exactly = t.exactly })

  -- an audit asks the nodes alone
  audits_so : NoAuditIsBad p full → NoAuditIsBad p held
  audits_so t = moved (NoAuditIsBad p) t

  refines_so : (e : Exchange) → Refines p full e → Refines p held e
  refines_so e t = moved (λ w. Refines p w e) (record { interchanges = t.interchanges; fates = t.fates; posted = t.posted; no_other = t.no_other })

  -- what an event brings to it, it brings to the other too
  brings_so : (e : Event) (b : Bytes) → brings held e ≡ Some b → brings full e ≡ Some b
  brings_so (At i a) b is = is
  brings_so (Outside i c at) b is = is
  brings_so (Deliver name at) b is = by (packet_of held.packets name) refl is
    where
      by : (o : Option Packet) → packet_of held.packets name ≡ o → bytes_asked (option_map (asked_to_take name at) o) ≡ Some b → bytes_asked (option_map (asked_to_take name at) (packet_of full.packets name)) ≡ Some b
      by None found is = absurd cc
      by (Some q) found is = rw (s.packets name q found) is

-- these speak of nodes alone
moves_by : (p : Profile) (before before' after after' : World) → before.nodes ≡ before'.nodes → after.nodes ≡ after'.nodes → MovesNothing p before after → MovesNothing p before' after'
moves_by p before before' after after' b a m =
    let moved : MovesNothing p (record before { nodes = before'.nodes }) (record after { nodes = after'.nodes }) = subst (λ ns. MovesNothing p (record before { nodes = before'.nodes }) (record after { nodes = ns })) a (subst (λ ns. MovesNothing p (record before { nodes = ns }) after) b m) in
    record { fates = moved.fates; postings = moved.postings }

-- a world that stays moves nothing
stays : (p : Profile) (w : World) → MovesNothing p w w
stays p w = record {
  fates = λ i s s' at at' x h to k. rw (same i s s' at at') refl;
  postings = λ j s s' at at' k node. rw (same j s s' at at') refl;
}
  where
    same : (i : ℕ) (s s' : Station) → StationAt w i s → StationAt w i s' → s' ≡ s
    same i s s' at at' = let e : Some (IsStation s) ≡ Some (IsStation s') = sym at ∙ at' in cc

module _ (p : Profile) (full held : World) (s : Shadows full held) where
  outsiders_so : OutsidersMoveNothing p full → OutsidersMoveNothing p held
  outsiders_so t e b is out = elim (alike p full held s e) [
    | inl same ↦ moves_by p full held (happens p full e) (happens p held e) s.nodes (happens_alike p false full held e s same).nodes
        (t e b (brings_so p full held s e b is) (subst (λ w. is_named p w b ≡ false) (sym (same_but p full held s)) out))
    | inr none ↦ refused none.0 none.1
  ]
    where
      refused : (r : EventRefusal) → event_refusal p held e ≡ Some r → MovesNothing p held (happens p held e)
      refused r no_way = rw no_way (stays p held)

module _ (p : Profile) (laws : Laws p) (w : World) (reached : IsReachable p w) where
  abbrev first : World
  first = new_world reached.net

  -- the run without losses beside its past
  beside : (events : List Event) × Shadows (run p events first) w
  beside = let b = run_shadows p first first reached.past (new_shadows p reached.net) in (b.0, subst (Shadows (run p b.0 first)) (sym reached.is) b.1)

  abbrev full : World
  full = run p beside.0 first

  sound : Sound p reached.net full
  sound = (run_onward p laws reached.net reached.network beside.0 first (new_sound p reached.net reached.network)).0

  -- the exchange that it refines
  followed : (e : Exchange) × Stands p (trace_of full) e
  followed = stands_after p laws reached.net reached.network beside.0 first (new_sound p reached.net reached.network) empty_exchange (new_stands p laws reached.net reached.network)

  keys_of_full : KeysTell p full
  keys_of_full = keys_tell p laws reached.net full sound (keys_once p laws reached.net full sound (all_rise p laws reached.net reached.network beside.0))

  facts : ReachedFacts p w
  facts = record {
    traffic = traffic_so p full w beside.1 (traffic_holds p laws reached.net full sound);
    no_conflict = conflict_so p full w beside.1 (no_conflict p laws reached.net full sound);
    outsiders = outsiders_so p full w beside.1 (outsiders_move_nothing p laws reached.net full sound);
    numbers = numbers_so p full w beside.1 (numbers_are_used p laws reached.net full sound (all_rise p laws reached.net reached.network beside.0));
    keys = keys_so p full w beside.1 keys_of_full;
    audits = audits_so p full w beside.1 (none_is_bad p laws reached.net full sound keys_of_full followed.0 (refines p laws reached.net full sound followed.0 followed.1));
    few = subst (λ (ns : Nodes). IsSome ns.second → length ns.listed ≤ 17) beside.1.nodes sound.few;
  }

  headline : (hs : List Happening) → Headline p w (run_so p hs w)
  headline hs =
      let more = run_shadows p full w hs beside.1 in
      headline_by p full w (run p more.0 full) (run_so p hs w) beside.1.nodes more.1.nodes
      (subst (λ z. Headline p full z) (run-append p beside.0 more.0 first) (headline_in_runs p laws reached.net reached.network beside.0 more.0))

  later : (hs : List Happening) → IsReachable p (run_so p hs w)
  later hs = record {
    net = reached.net;
    network = reached.network;
    past = reached.past ++ hs;
    is = ap (run_so p hs) reached.is ∙ sym (run_so-append p reached.past hs first);
  }

module _ (p : Profile) (laws : Laws p) (net : Network) (is : IsNetwork p net) where
  follows_so : (hs : List Happening) (full held : World) → Shadows full held → Sound p net full → (e : Exchange) → Stands p (trace_of full) e → FollowsSo p held e hs
  follows_so [] full held s was e stands = refines_so p full held s e (refines p laws net full was e stands)
  follows_so (h ∷ hs) full held s was e stands =
      let next : (f : Exchange) × IsStepOrNone p e f × FollowsSo p (happens_so p held h) f hs = elim (alike p full held s h.event) [
        | inl same ↦
            let step = one_step p laws net is h.event full was e stands in
            (step.0, step.2, follows_so hs (happens p full h.event) (happens_so p held h) (happens_alike p h.lost full held h.event s same) (happens_onward p laws net is.plain full was h.event).0 step.0 step.1)
        | inr none ↦ (e, inl (λ x. refl), follows_so hs full (happens_so p held h) (refused_so p h.lost full held h.event s none.0 none.1) was e stands)
      ] in
      (refines_so p full held s e (refines p laws net full was e stands), next.0, next.1, next.2)

pub reach_laws : (p : Profile) → Laws p → ReachLaws p
reach_laws p laws = record {
  new = λ net is. record { net = net; network = is; past = []; is = refl };
  later = λ w reached hs. later p laws w reached hs;
  facts = λ w reached. facts p laws w reached;
  headline = λ w reached hs. headline p laws w reached hs;
  refines = λ w reached.
      let stands = followed p laws w reached in
      (stands.0, λ hs. follows_so p laws reached.net reached.network hs (full p laws w reached) w (beside p laws w reached).1 (sound p laws w reached) stands.0 stands.1);
}
