-- the passes so far, and those of the endpoints that are left, are all; and there is room for them
use Rattle.std.proofs.Common.{◌≡◌, ◌≤◌, ◌+◌, ◌++◌, length, map, vec_len, vec_capacity}
use Rattle.std.specs.Vec.Iter.{into_iter_items, into_iter_len}
use Rattle.x12_network.proofs.network.end_all.Given as goal

abbrev pub invariant-loop-endpoint : goal.invariant-loop-endpoint
invariant-loop-endpoint g l = record {
  passes : l.passes.items ++ map (λ e. e.recipient.pass) (into_iter_items l.left) ≡ map (λ e. e.recipient.pass) l.fn.endpoints.items;
  long : into_iter_len l.left ≡ length (into_iter_items l.left);
  room : into_iter_len l.left + vec_len l.passes ≤ vec_capacity l.passes;
}

abbrev pub decreases-loop-endpoint : goal.decreases-loop-endpoint
decreases-loop-endpoint g l = into_iter_len l.left
