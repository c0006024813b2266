use Rattle.std.proofs.Common.{arith}
use Rattle.x12_judge.specs.Verdict.{note_view}
use Rattle.x12_judge.proofs.ListLemmas.{full_stays}
use Rattle.x12_judge.proofs.note.Notes.keep_first.Goals as goal

pub returns-else-len-lt8-clause-first : goal.returns-else-len-lt8-clause-first
returns-else-len-lt8-clause-first c =
    full_stays note_view 8 _ _ (omega (arith, c.args.self.now.few)) (omega arith)
