use Rattle.x12_profile.specs.X12.{x12}
use Rattle.x12_world.proofs.x12.numbers.Goals as goal

pub returns : goal.returns
returns c = record { numbers = c.numbers.ensures.numbers x12 c.x12_meets_the_laws.ensures.laws }
