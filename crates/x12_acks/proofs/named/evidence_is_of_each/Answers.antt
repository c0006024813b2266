use Rattle.x12_acks.proofs.EachLemmas.{evidence_of_each}
use Rattle.x12_acks.proofs.named.evidence_is_of_each.Goals as goal

pub returns : goal.returns
returns c = record { law = evidence_of_each }
