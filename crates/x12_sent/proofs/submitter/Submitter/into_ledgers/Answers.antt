use Rattle.x12_sent.proofs.SubmitterLemmas.{none_is_out}
use Rattle.x12_sent.proofs.submitter.Submitter.into_ledgers.Goals as goal

pub new-requires : goal.new-requires
new-requires c = record {
  whole = none_is_out _ _ c.requires.keeps.0.0;
  left = none_is_out _ _ c.requires.keeps.1.0;
}
