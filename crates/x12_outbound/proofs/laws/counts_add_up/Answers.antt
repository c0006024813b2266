use Rattle.x12_outbound.proofs.CountLemmas.{they_add_up}
use Rattle.x12_outbound.proofs.laws.counts_add_up.Goals as goal

pub returns : goal.returns
returns c = record { law = they_add_up }
