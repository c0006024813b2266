use Rattle.x12_world.proofs.RefinesLemmas.{every_run_follows}
use Rattle.x12_world.proofs.laws.refinement.Goals as goal

pub returns : goal.returns
returns c = record { refinement = λ p laws net is events. every_run_follows p laws net is events }
