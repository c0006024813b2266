-- what is left decides
use Rattle.std.proofs.Common.{◌≡◌, drop, map}
use Rattle.std.specs.List.{list_all}
use Rattle.x12_nodes.specs.Receiving.{receipt_stands}
use Rattle.x12_nodes.specs.View.{receipt_view}
use Rattle.x12_nodes.proofs.receiving.pass_stands.Given as goal

abbrev pub invariant-loop-receipt : goal.invariant-loop-receipt
invariant-loop-receipt g l =
    list_all (receipt_stands l.cells) (map receipt_view (drop l.receipt-index l.receipts))
    ≡ list_all (receipt_stands l.cells) (map receipt_view l.receipts)
