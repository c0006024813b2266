use Rattle.std.proofs.Common.{◌≡◌, ◌+◌, drop, find}
use Rattle.std.specs.List.{enumerate_from}
use Rattle.x12_envelopes.specs.Writing.{texts}
use Rattle.x12_lint.specs.Linting.{part_is_named}
use Rattle.x12_lint.proofs.naming.first_named.Given as goal

abbrev pub invariant-loop-index : goal.invariant-loop-index
invariant-loop-index l =
    find (λ p. part_is_named l.delims l.name p.1) (enumerate_from (l.index + 1) (texts (drop l.index l.parts)))
    ≡ find (λ p. part_is_named l.delims l.name p.1) (enumerate_from 1 (texts l.parts))
