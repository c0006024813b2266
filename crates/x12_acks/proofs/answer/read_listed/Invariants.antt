use Rattle.std.proofs.Common.{◌≡◌, map}
use Rattle.x12_acks.specs.Statement.{statements_left}
use Rattle.x12_acks.specs.Answer.{listed_from, between, set_answer_view}
use Rattle.x12_acks.proofs.ReadingLemmas.{place_view, in_front}
use Rattle.x12_acks.proofs.answer.read_listed.Given as goal

-- what was listed, and what the rest lists, are what all of it lists
abbrev pub invariant-loop-statement : goal.invariant-loop-statement
invariant-loop-statement l =
    in_front (map set_answer_view l.sets.items) (listed_from (place_view l.place) (statements_left l.statements))
    ≡ listed_from between (statements_left l.fn.statements)
