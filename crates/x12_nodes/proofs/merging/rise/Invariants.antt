-- what is left decides
use Rattle.std.proofs.Common.{◌≡◌, drop}
use Rattle.x12_nodes.specs.Merging.{stamps_rise_from}
use Rattle.x12_nodes.proofs.merging.rise.Given as goal

abbrev pub invariant-loop-stamp : goal.invariant-loop-stamp
invariant-loop-stamp l =
    stamps_rise_from l.last (drop l.stamp-index l.stamps) ≡ stamps_rise_from 0 l.stamps
