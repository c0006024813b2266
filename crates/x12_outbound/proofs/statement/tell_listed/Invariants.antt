use Rattle.std.proofs.Common.{◌≡◌, ◌++◌, take}
use Rattle.x12_outbound.specs.Statement.{listed_told}
use Rattle.x12_outbound.proofs.statement.tell_listed.Given as goal

-- those so far are told of
abbrev pub invariant-loop-answer : goal.invariant-loop-answer
invariant-loop-answer l = l.out.items ≡ l.initial.out.items ++ listed_told l.origin l.sets (take l.answer-index l.listed)
