use Rattle.x12_judge.proofs.JudgedReadLemmas.{judged_was_read}
use Rattle.x12_judge.proofs.laws.judged_is_read.Goals as goal

pub returns : goal.returns
returns c = record { read = judged_was_read }
