-- What a node wrote has numbers up to its last ones.
use Rattle.std.specs.Prelude.{◌≤◌, Some, option_map}
use mathlib.Core.Path.{sym, ap, subst, ◌∙◌}
use mathlib.Core.Logic.{inl}
use Rattle.x12_profile.specs.Profile.{Profile}
use Rattle.x12_profile.specs.Laws.{Laws}
use Rattle.x12_core.specs.Node.{party_of_node}
use Rattle.x12_world.specs.Network.{Network}
use Rattle.x12_world.specs.World.{World}
use Rattle.x12_world.specs.Number.{NumbersAreUsed}
use Rattle.x12_station.proofs.HistoryLemmas.{in_submissions}
use Rattle.x12_world.proofs.WorldLemmas.{trace_of, Sound, read, last_in, group_in}
use Rattle.x12_world.proofs.RiseLemmas.{NumbersRise, AllRise}
use Rattle.x12_world.proofs.LearntLemmas.{name_at, items_at}
use Rattle.x12_world.proofs.TrafficLemmas.{carried_of}

pub numbers_are_used : (p : Profile) → Laws p → (net : Network) (w : World) → Sound p net w → AllRise p (trace_of w) → NumbersAreUsed p w
numbers_are_used p laws net w was rise = record {
  of_submissions = λ i s at. subst (NumbersRise p) (items_at p laws net w was i s at) (rise i);
  of_station = λ i s b at sent from. subst (λ n. p.number b ≤ n) (ap (read last_in 0) at)
      (was.holds.below i b (inl (carried_of p laws net w was b sent)) (name_at p laws net w was i s at ∙ ap Some (sym from)));
  of_groups = λ i s x g at h has. subst (λ n. g ≤ n) (ap (read group_in 0) at)
      (was.holds.groups_below i x g (rw (items_at p laws net w was i s at) (in_submissions s.items x h)) has);
  of_hub = λ i h b at sent from. subst (λ n. p.number b ≤ n) (ap (read last_in 0) at)
      (was.holds.below i b (inl (carried_of p laws net w was b sent)) (ap (option_map party_of_node) at ∙ ap Some (sym from)));
}
