use Rattle.x12_acks.proofs.NamedLemmas.{evidence_is_of_the_named}
use Rattle.x12_acks.proofs.named.evidence_is_of_the_named.Goals as goal

pub returns : goal.returns
returns c = record { law = evidence_is_of_the_named }
