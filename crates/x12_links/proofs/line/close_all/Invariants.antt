-- what is left is paired, and once it is closed all is
use Rattle.std.specs.Vec.Iter.{into_iter_items, into_iter_len}
use Rattle.x12_links.specs.Net.{AreLanes, ArePaired}
use Rattle.x12_links.proofs.line.close_all.Given as goal

abbrev pub invariant-loop-link : goal.invariant-loop-link
invariant-loop-link g l = record {
  paired : ArePaired (g.W.Wire.follows l.wire) (into_iter_items l.links) (into_iter_items l.inlets);
  closes : AreLanes (g.W.Wire.follows l.wire) (into_iter_items l.links) (into_iter_items l.inlets) → AreLanes (g.W.Wire.follows l.fn.wire) l.fn.links.items l.fn.inlets.items;
}

abbrev pub decreases-loop-link : goal.decreases-loop-link
decreases-loop-link g l = into_iter_len l.links
