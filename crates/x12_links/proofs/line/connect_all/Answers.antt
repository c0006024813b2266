use Rattle.std.proofs.Common.{rules}
use Rattle.x12_links.specs.Worker.{senders_of}
use Rattle.x12_links.proofs.NetLemmas.{same_numbers_more}
use Rattle.x12_links.proofs.line.connect_all.Goals as goal

-- one sender more
pub loop-from-preserved : goal.loop-from-preserved
loop-from-preserved g c = record {
  connected = c.in_ok-connect_once.ensures.connected;
  same = same_numbers_more c.args.senders.now (senders_of c.loop-from.inlets.items) (senders_of c.connect_once.new.inlets.items) c.loop-from.from-index _ (search rules) c.loop-from.invariant.same c.in_ok-connect_once.ensures.opened;
}
