use Rattle.std.proofs.Common.{◌<◌, drop, ℕ}
use Rattle.x12_spool.specs.Numbering.{IsAboveAll}
use Rattle.x12_spool.proofs.numbering.next_node.Given as goal

-- a number above the greatest so far, and above all that are left, is above all
abbrev pub invariant-loop-node : goal.invariant-loop-node
invariant-loop-node l =
    (n : ℕ) → l.greatest < n → IsAboveAll n (drop l.node-index l.given) → IsAboveAll n l.given
