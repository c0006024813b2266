-- so many nodes have an inbox, and no others
use Rattle.std.proofs.Common.{take}
use Rattle.x12_links.specs.Net.{AreConnected, AreSameNumbers}
use Rattle.x12_links.specs.Worker.{senders_of}
use Rattle.x12_links.proofs.line.connect_all.Given as goal

abbrev pub invariant-loop-from : goal.invariant-loop-from
invariant-loop-from g l = record {
  connected : AreConnected (g.W.Wire.follows l.wire) l.plan l.node l.links.items l.inlets.items;
  same : AreSameNumbers (take l.from-index l.senders) (senders_of l.inlets.items);
}
