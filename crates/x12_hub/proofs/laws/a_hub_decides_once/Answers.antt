-- Each step of a hub keeps what it decided, and decides once.
use Rattle.x12_hub.proofs.OnceLemmas.{hub_decides_once}
use Rattle.x12_hub.proofs.laws.a_hub_decides_once.Goals as goal

pub returns : goal.returns
returns c = record { law = hub_decides_once }
