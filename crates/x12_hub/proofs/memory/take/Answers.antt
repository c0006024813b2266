-- What is taken out of the map waits no more.
use Rattle.std.proofs.Common.{◌∙◌, ap, map}
use Rattle.x12_hub.specs.Memory.{waiting_under}
use Rattle.x12_hub.proofs.WaitingLemmas.{take_is}
use Rattle.x12_hub.proofs.memory.take.Goals as goal

pub returns-then-len-gt0 : goal.returns-then-len-gt0
returns-then-len-gt0 c =
    ap (map waiting_under) c.remove.ensures.entries
    ∙ take_is c.args.waiting.now.entries c.args.item c.len.ensures.ordered
