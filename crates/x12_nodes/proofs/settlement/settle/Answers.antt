-- What was checked is settled.
use Rattle.x12_nodes.proofs.ReceivingLemmas.{settled_alike}
use Rattle.x12_nodes.proofs.settlement.settle.Goals as goal

pub invariant_of-result : goal.invariant_of-result
invariant_of-result g c =
    settled_alike c.in-Ok.cells.items c.deref.result.now c.args.passes.items c.deref-2.result.now c.deref.ensures.value c.deref-2.ensures.value c.in-Ok-check_network.ensures.settled

pub returns-in-Ok-check_network-clause-settled : goal.returns-in-Ok-check_network-clause-settled
returns-in-Ok-check_network-clause-settled g c =
    settled_alike c.in-Ok.cells.items c.deref.result.now c.args.passes.items c.deref-2.result.now c.deref.ensures.value c.deref-2.ensures.value c.in-Ok-check_network.ensures.settled
