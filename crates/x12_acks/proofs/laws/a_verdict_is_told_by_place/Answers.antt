use Rattle.x12_acks.proofs.ToldLemmas.{verdict_is_told_by_place}
use Rattle.x12_acks.proofs.laws.a_verdict_is_told_by_place.Goals as goal

pub returns : goal.returns
returns c = record { law = verdict_is_told_by_place }
