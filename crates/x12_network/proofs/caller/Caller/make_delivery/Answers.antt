use Rattle.x12_network.proofs.DeliveryLemmas.{called_for}
use Rattle.x12_network.proofs.caller.Caller.make_delivery.Goals as goal

-- the packet's receipt, or none
pub returns : goal.returns
returns g c = record {
  delivered = called_for c.args.self.now.node.now c.args.from c.args.packet _ _ c.make.result _ _ c.make.ensures.called;
  answered = c.make.ensures.answered;
}
