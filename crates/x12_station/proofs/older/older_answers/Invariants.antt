-- those so far are as they were read before
use Rattle.std.proofs.Common.{◌≡◌, take, map}
use Rattle.x12_acks.specs.Answer.{answer_view}
use Rattle.x12_station.specs.Older.{answer_before}
use Rattle.x12_station.proofs.older.older_answers.Given as goal

abbrev pub invariant-loop-answer : goal.invariant-loop-answer
invariant-loop-answer l = map answer_view l.older.items ≡ map answer_before (map answer_view (take l.answer-index l.answers))
