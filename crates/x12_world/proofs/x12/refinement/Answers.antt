use Rattle.x12_profile.specs.X12.{x12}
use Rattle.x12_world.proofs.x12.refinement.Goals as goal

pub returns : goal.returns
returns c = record { refinement = c.refinement.ensures.refinement x12 c.x12_meets_the_laws.ensures.laws }
