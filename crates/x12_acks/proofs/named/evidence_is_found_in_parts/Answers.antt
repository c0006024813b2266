use Rattle.x12_acks.proofs.CutLemmas.{found_in_parts}
use Rattle.x12_acks.proofs.named.evidence_is_found_in_parts.Goals as goal

pub returns : goal.returns
returns c = record { law = found_in_parts }
