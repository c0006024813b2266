use Rattle.x12_profile.specs.X12.{x12}
use Rattle.x12_world.proofs.x12.no_conflict.Goals as goal

pub returns : goal.returns
returns c = record { no_conflict = c.no_conflict.ensures.no_conflict x12 c.x12_meets_the_laws.ensures.laws }
