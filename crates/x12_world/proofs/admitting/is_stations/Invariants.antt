-- none of those before has this party
use Rattle.std.proofs.Common.{◌≡◌}
use Rattle.std.specs.Prelude.{drop}
use Rattle.std.specs.List.{list_any}
use Rattle.x12_judge.specs.Agreement.{is_same_party}
use Rattle.x12_world.proofs.admitting.is_stations.Given as goal

abbrev pub invariant-loop-station : goal.invariant-loop-station
invariant-loop-station g l =
    list_any (λ s. is_same_party l.party s.state.me) (drop l.station-index l.stations)
    ≡ list_any (λ s. is_same_party l.party s.state.me) l.stations
