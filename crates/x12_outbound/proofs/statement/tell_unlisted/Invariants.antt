use Rattle.std.proofs.Common.{◌≡◌, ◌++◌, take}
use Rattle.x12_outbound.specs.Statement.{unlisted_told}
use Rattle.x12_outbound.proofs.statement.tell_unlisted.Given as goal

-- those so far that aren't listed are told of
abbrev pub invariant-loop-index : goal.invariant-loop-index
invariant-loop-index l = l.out.items ≡ l.initial.out.items ++ unlisted_told l.origin (take l.index l.sets) l.listed
