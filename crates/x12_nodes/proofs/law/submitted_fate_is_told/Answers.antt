use Rattle.x12_nodes.proofs.HeadlineLemmas.{submitted_fate}
use Rattle.x12_nodes.proofs.law.submitted_fate_is_told.Goals as goal

pub returns : goal.returns
returns c = submitted_fate c.keys.ensures.keys
