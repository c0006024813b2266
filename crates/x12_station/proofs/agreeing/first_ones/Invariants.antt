use Rattle.std.proofs.Common.{◌≡◌, take}
use Rattle.x12_station.specs.Station.{each_once}
use Rattle.x12_station.proofs.agreeing.first_ones.Given as goal

-- those so far, each once
abbrev pub invariant-loop-pair : goal.invariant-loop-pair
invariant-loop-pair l = l.first.keys ≡ each_once (take l.pair-index l.pairs)
