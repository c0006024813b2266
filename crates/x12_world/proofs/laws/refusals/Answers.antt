use Rattle.x12_world.proofs.TakenLemmas.{refused_by_name}
use Rattle.x12_world.proofs.laws.refusals.Goals as goal

pub returns : goal.returns
returns c = record { refusals = refused_by_name }
