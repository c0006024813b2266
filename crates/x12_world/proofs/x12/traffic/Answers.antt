use Rattle.x12_profile.specs.X12.{x12}
use Rattle.x12_world.proofs.x12.traffic.Goals as goal

pub returns : goal.returns
returns c = record { traffic = c.traffic.ensures.traffic x12 c.x12_meets_the_laws.ensures.laws }
