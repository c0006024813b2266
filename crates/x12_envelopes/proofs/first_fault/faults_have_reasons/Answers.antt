use Rattle.x12_envelopes.proofs.ReasonLemmas.{reasons}
use Rattle.x12_envelopes.proofs.first_fault.faults_have_reasons.Goals as goal

pub returns : goal.returns
returns c = reasons
