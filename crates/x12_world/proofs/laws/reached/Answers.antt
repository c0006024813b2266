use Rattle.x12_world.proofs.ReachLemmas.{reach_laws}
use Rattle.x12_world.proofs.laws.reached.Goals as goal

pub returns : goal.returns
returns c = record { reached = reach_laws }
