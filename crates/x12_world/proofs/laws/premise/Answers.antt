use Rattle.x12_world.proofs.ToyRuns.{premise_is_met}
use Rattle.x12_world.proofs.laws.premise.Goals as goal

pub returns : goal.returns
returns c = record { premise = premise_is_met }
