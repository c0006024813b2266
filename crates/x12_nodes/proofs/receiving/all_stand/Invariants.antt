-- what is left decides
use Rattle.std.proofs.Common.{◌≡◌, drop}
use Rattle.std.specs.List.{list_all}
use Rattle.x12_nodes.specs.Receiving.{receipt_stands}
use Rattle.x12_nodes.proofs.receiving.all_stand.Given as goal

abbrev pub invariant-loop-pass : goal.invariant-loop-pass
invariant-loop-pass g l =
    list_all (list_all (receipt_stands l.cells)) (drop l.pass-index l.passes)
    ≡ list_all (list_all (receipt_stands l.cells)) l.passes
