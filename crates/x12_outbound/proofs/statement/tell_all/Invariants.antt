use Rattle.std.proofs.Common.{◌≡◌, ◌++◌, take}
use Rattle.x12_outbound.specs.Statement.{all_told}
use Rattle.x12_outbound.proofs.statement.tell_all.Given as goal

-- those so far are told of
abbrev pub invariant-loop-index : goal.invariant-loop-index
invariant-loop-index l = l.out.items ≡ l.initial.out.items ++ all_told l.origin l.fate (take l.index l.sets)
