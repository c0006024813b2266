use Rattle.x12_world.proofs.HeadlineLemmas.{headline_in_runs}
use Rattle.x12_world.proofs.laws.headline.Goals as goal

pub returns : goal.returns
returns c = record { headline = headline_in_runs }
