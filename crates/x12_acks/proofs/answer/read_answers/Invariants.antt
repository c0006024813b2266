use Rattle.std.proofs.Common.{◌≡◌, ◌++◌, map, take, flat_map}
use Rattle.x12_envelopes.specs.Shape.{group_view}
use Rattle.x12_acks.specs.Answer.{group_answers_of, ta1_answer, answer_view}
use Rattle.x12_acks.proofs.answer.read_answers.Given as goal

-- the answers of the TA1s so far
abbrev pub invariant-loop-ta1 : goal.invariant-loop-ta1
invariant-loop-ta1 l = map answer_view l.answers.items ≡ map ta1_answer (take l.ta1-index l.outline.tas.items)

-- behind them stand those of the groups so far
abbrev pub invariant-loop-group : goal.invariant-loop-group
invariant-loop-group l =
    map answer_view l.answers.items
    ≡ map ta1_answer l.outline.tas.items ++ flat_map (group_answers_of l.delims) (map (group_view l.delims) (take l.group-index l.outline.groups.items))
