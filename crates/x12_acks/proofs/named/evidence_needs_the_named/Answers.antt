use Rattle.x12_acks.proofs.CutLemmas.{needs_the_named}
use Rattle.x12_acks.proofs.named.evidence_needs_the_named.Goals as goal

pub returns : goal.returns
returns c = record { law = needs_the_named }
