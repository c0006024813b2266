-- What is put into the map waits.
use Rattle.std.proofs.Common.{◌∙◌, ap, map}
use Rattle.x12_hub.specs.Memory.{waiting_under}
use Rattle.x12_hub.proofs.WaitingLemmas.{put_is}
use Rattle.x12_hub.proofs.memory.put.Goals as goal

pub returns-clause-ok : goal.returns-clause-ok
returns-clause-ok c =
    ap (map waiting_under) c.in_ok-insert.ensures.entries
    ∙ put_is c.args.waiting.now.entries c.args.item c.args.node c.in_ok-insert.ensures.was_ordered
