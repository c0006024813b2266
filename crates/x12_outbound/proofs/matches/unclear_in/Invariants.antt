use Rattle.std.proofs.Common.{◌≡◌, ◌≤◌, take, map, count_by}
use Rattle.x12_acks.specs.Answer.{answer_view}
use Rattle.x12_outbound.specs.Plan.{answer_is_unclear}
use Rattle.x12_outbound.proofs.matches.unclear_in.Given as goal

-- those so far are counted
abbrev pub invariant-loop-answer : goal.invariant-loop-answer
invariant-loop-answer l = record {
  counted : l.count ≡ count_by answer_is_unclear (take l.answer-index (map answer_view l.answers));
  few : l.count ≤ l.answer-index;
}
