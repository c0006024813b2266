use Rattle.std.proofs.Common.{◌≡◌, ◌++◌, map, take}
use Rattle.x12_envelopes.specs.Shape.{set_view}
use Rattle.x12_acks.specs.Answer.{set_answer_of, answer_view}
use Rattle.x12_acks.proofs.answer.read_group.Given as goal

-- behind the answers before stand those of the sets so far
abbrev pub invariant-loop-set : goal.invariant-loop-set
invariant-loop-set l =
    map answer_view l.answers.items
    ≡ map answer_view l.fn.answers.items ++ map (set_answer_of l.delims) (map (set_view l.delims) (take l.set-index l.group.sets.items))
