-- the lists so far, and those of what is left, are all
use Rattle.std.proofs.Common.{◌≡◌, ◌++◌, drop, map}
use Rattle.x12_nodes.specs.Receiving.{stamps_received}
use Rattle.x12_nodes.proofs.receiving.stamps_of_passes.Given as goal

abbrev pub invariant-loop-pass : goal.invariant-loop-pass
invariant-loop-pass l =
    map (λ v. v.items) l.lists.items ++ map stamps_received (drop l.pass-index l.passes)
    ≡ map stamps_received l.passes
