use Rattle.x12_profile.specs.X12.{x12}
use Rattle.x12_world.proofs.x12.reached.Goals as goal

pub returns : goal.returns
returns c = record { reached = c.reached.ensures.reached x12 c.x12_meets_the_laws.ensures.laws }
