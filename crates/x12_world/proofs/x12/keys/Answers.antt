use Rattle.x12_profile.specs.X12.{x12}
use Rattle.x12_world.proofs.x12.keys.Goals as goal

pub returns : goal.returns
returns c = record { keys = c.keys.ensures.keys x12 c.x12_meets_the_laws.ensures.laws }
