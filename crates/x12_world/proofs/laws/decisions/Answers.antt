use Rattle.x12_world.proofs.HubStateLemmas.{hub_steps_keep}
use Rattle.x12_world.proofs.laws.decisions.Goals as goal

pub returns : goal.returns
returns c = record { decisions = hub_steps_keep }
