-- A network whose stations were asked, and stay as they are.
use Rattle.std.specs.Prelude.{◌≡◌, ℕ, zero, suc, ◌<◌, ◌≤◌, List, [], ◌∷◌, Some, All, IsTrue, Vec, Result, IfErr, get_or, is_some, length, map, slice_get, true, refl}
use mathlib.Core.Path.{sym, ap, subst, ◌∙◌}
use native.Mathlib.Omega.{arith}
use Rattle.std.proofs.lemmas.List.{length-map}
use Rattle.std.specs.Global.{Global}
use Rattle.x12_envelopes.specs.declared.party.Party.{Party}
use Rattle.x12_profile.specs.X12.{x12}
use Rattle.x12_station.specs.Seen.{StationView}
use Rattle.x12_station.specs.Station.{Station}
use Rattle.x12_core.specs.declared.packet.Packet.{Packet}
use Rattle.x12_world.specs.declared.refused.Refused.{Refused}
use Rattle.x12_core.specs.declared.submission.Listed.{Listed}
use Rattle.x12_world.specs.Asking.{states_of, IsMissed}
use Rattle.x12_world.specs.Audit.{station_named}
use Rattle.x12_world.specs.Auditing.{station_among}
use Rattle.x12_world.specs.Reach.{IsReachable, ReachedFacts, ReachLaws}
use Rattle.x12_world.specs.declared.hubs.Hubs.{Hubs as CodeHubs}
use Rattle.x12_world.specs.Running.{all_answer, beside, hubs_in, nodes_answer, station_nodes, world_of}
use Rattle.x12_world.specs.Runs.{Runs}
use Rattle.x12_world.specs.Submission.{AreListed, NumbersRise}
use Rattle.x12_core.specs.Node.{IsStation}
use Rattle.x12_world.proofs.ActingLemmas.{all_answer_so, stations_answer}
use Rattle.x12_world.proofs.AskingLemmas.{stations_are}
use Rattle.x12_world.proofs.RunningLemmas.{below, few_numbers, if_err, listed_beside}

-- the nodes are those of the states
nodes_by : {R : Type 0} → (ss : List (StationView R)) → station_nodes ss ≡ map IsStation (states_of ss)
nodes_by [] = refl
nodes_by (s ∷ ss) = ap (λ ns. IsStation s.state ∷ ns) (nodes_by ss)

pub world_same : {H R : Type 0} → (h : CodeHubs H) (ss rs : List (StationView R)) (held : List (Vec Packet Global)) → states_of rs ≡ states_of ss → world_of h rs held ≡ world_of h ss held
world_same h ss rs held same =
    ap (λ ns. record (world_of h ss held) { nodes = beside (hubs_in h) ns }) (nodes_by rs ∙ ap (map IsStation) same ∙ sym (nodes_by ss))

-- what stands at a place
place_at : {R : Type 0} → (ss : List (StationView R)) (k : ℕ) (d : Station) → k < length (states_of ss) → slice_get (station_nodes ss) k ≡ Some (IsStation (get_or (states_of ss) k d))
place_at [] k d within = absurd (omega (arith, within))
place_at (s ∷ ss) zero d within = refl
place_at (s ∷ ss) (suc k) d within = place_at ss k d (omega (arith, within))

module _ {H R : Type 0} (h : CodeHubs H) (ss rs : List (StationView R)) (held : List (Vec Packet Global)) (xs : List Listed) (was : Runs h ss held xs)
    (still : IsTrue (all_answer rs) → IsTrue (all_answer ss)) (same : IsTrue (all_answer rs) → states_of rs ≡ states_of ss) (len : length rs ≡ length ss) where
  pub was_so : IsTrue (nodes_answer h rs) → IsTrue (nodes_answer h ss)
  was_so answers = all_answer_so h ss rs answers (still (stations_answer h rs answers))

  pub is_same : IsTrue (nodes_answer h rs) → world_of h rs held ≡ world_of h ss held
  is_same answers = world_same h ss rs held (same (stations_answer h rs answers))

  pub kept_so : Runs h rs held xs
  kept_so = record {
    few = subst (λ n. n ≤ 16) (sym len) was.few;
    reached = λ answers. subst (IsReachable x12) (sym (is_same answers)) (was.reached (was_so answers));
    listed = λ answers. subst (λ ts. AreListed ts xs) (sym (same (stations_answer h rs answers))) (was.listed (was_so answers));
  }

  -- what holds of the network that was asked
  pub facts_so : ReachLaws x12 → IsTrue (nodes_answer h rs) → ReachedFacts x12 (world_of h ss held)
  facts_so laws answers = laws.facts (world_of h ss held) (was.reached (was_so answers))

  -- the numbers of each station's submissions rise
  pub rise_so : ReachLaws x12 → IsTrue (nodes_answer h rs) → All NumbersRise (states_of ss)
  rise_so laws answers k d within =
      let high : suc k ≤ length ss = let l = length-map ss (λ (s : StationView _). s.state) in omega (arith, within, l) in
      let hubs = hubs_in h in
      let there = listed_beside hubs (station_nodes ss) (suc k) (below hubs ss (suc k) (few_numbers h ss was.few) high) ∙ place_at ss k d within in
      (facts_so laws answers).numbers.of_submissions (suc k) (get_or (states_of ss) k d) there

-- the station of a party, of a network
pub among_is : {H R : Type 0} → (h : CodeHubs H) (ss : List (StationView R)) (held : List (Vec Packet Global)) (party : Party) → station_named (world_of h ss held) party ≡ station_among (states_of ss) party
among_is h ss held party = ap (λ ts. station_among ts party) (stations_are ss)

pub refused_of : {H R : Type 0} → {T : Type 0} (h : CodeHubs H) (ss : List (StationView R)) (held : List (Vec Packet Global)) (party : Party) (r : Result T Refused)
    → IfErr r (λ e. IsMissed e × (is_some (station_among (states_of ss) party) ≡ true)) → IfErr r (λ e. IsMissed e × (is_some (station_named (world_of h ss held) party) ≡ true))
refused_of h ss held party r =
    if_err r (λ e. IsMissed e × (is_some (station_among (states_of ss) party) ≡ true)) (λ e. IsMissed e × (is_some (station_named (world_of h ss held) party) ≡ true))
    (λ e m. (m.0, ap is_some (among_is h ss held party) ∙ m.1))
