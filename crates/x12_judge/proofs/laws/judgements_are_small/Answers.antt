use Rattle.x12_judge.proofs.SmallVerdictLemmas.{judgement_is_small}
use Rattle.x12_judge.proofs.laws.judgements_are_small.Goals as goal

pub returns : goal.returns
returns c = record { small = judgement_is_small }
