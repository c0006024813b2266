use Rattle.std.proofs.Common.{arith, ◌∙◌}
use Rattle.x12_judge.proofs.SegmentNoteLemmas.{identifier_by_three}
use Rattle.x12_judge.proofs.segment.is_identifier.Goals as goal

pub returns : goal.returns
returns c = c.begin_with_capital.ensures ∙ identifier_by_three c.args.name.now (omega arith) (omega arith)
