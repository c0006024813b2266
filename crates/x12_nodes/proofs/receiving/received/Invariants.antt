-- the stamps so far, and those of what is left, are all
use Rattle.std.proofs.Common.{◌≡◌, ◌++◌, drop, map}
use Rattle.x12_nodes.specs.Receiving.{stamps_received}
use Rattle.x12_nodes.specs.View.{receipt_view}
use Rattle.x12_nodes.proofs.receiving.received.Given as goal

abbrev pub invariant-loop-receipt : goal.invariant-loop-receipt
invariant-loop-receipt l =
    l.list.items ++ stamps_received (map receipt_view (drop l.receipt-index l.receipts))
    ≡ stamps_received (map receipt_view l.receipts)
