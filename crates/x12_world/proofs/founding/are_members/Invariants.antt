-- those so far are members
use Rattle.std.proofs.Common.{take, IsTrue}
use Rattle.std.specs.Prelude.{All}
use Rattle.x12_world.specs.Founding.{IsMember}
use Rattle.x12_world.specs.Running.{all_answer}
use Rattle.x12_world.proofs.founding.are_members.Given as goal

abbrev pub invariant-loop-station : goal.invariant-loop-station
invariant-loop-station g l = IsTrue (all_answer l.stations) → All (λ s. IsMember l.hub l.second s.state) (take l.station-index l.stations)
