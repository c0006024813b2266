-- the homes of those so far
use Rattle.std.proofs.Common.{◌≡◌, map, take}
use Rattle.x12_world.specs.Founding.{home_among}
use Rattle.x12_world.proofs.founding.homes_of.Given as goal

abbrev pub invariant-loop-station : goal.invariant-loop-station
invariant-loop-station g l = l.homes.items ≡ map (λ s. home_among l.second s.state.hubs) (take l.station-index l.stations)
