use Rattle.std.proofs.Common.{◌≡◌, drop}
use Rattle.x12_world.specs.Running.{all_answer}
use Rattle.x12_world.proofs.in_memory.stations_answer.Given as goal

abbrev pub invariant-loop-station : goal.invariant-loop-station
invariant-loop-station l = all_answer (drop l.station-index l.stations) ≡ all_answer l.stations
