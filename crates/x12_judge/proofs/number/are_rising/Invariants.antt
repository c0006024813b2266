use Rattle.std.proofs.Common.{map}
use Rattle.x12_judge.specs.Number.{number_of_set}
use Rattle.x12_judge.proofs.RisingNumberLemmas.{Rises}
use Rattle.x12_judge.proofs.number.are_rising.Given as goal

abbrev pub invariant-loop-set : goal.invariant-loop-set
invariant-loop-set l = Rises (map number_of_set l.sets) l.set-index l.last
