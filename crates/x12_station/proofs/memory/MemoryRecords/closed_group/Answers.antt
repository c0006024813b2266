-- What is found among the submissions is found among the entries.
use Rattle.std.proofs.Common.{◌∙◌, ap, Some}
use Rattle.x12_station.proofs.KeptLemmas.{order_of, closed_group_is}
use Rattle.x12_station.proofs.memory.MemoryRecords.closed_group.Goals as goal

pub closed_with_group-requires : goal.closed_with_group-requires
closed_with_group-requires c = order_of c.args.self.now c.requires c.deref.result.now c.deref.ensures.value

pub returns-in_ok-copied-in-Some : goal.returns-in_ok-copied-in-Some
returns-in_ok-copied-in-Some c =
    ap Some c.in_ok-copied-in-Some.ensures ∙ c.in-Some.ensures
    ∙ closed_group_is c.args.self.now c.requires c.deref.result.now c.deref.ensures.value c.args.partner.now c.args.functional c.args.gcn

pub returns-in-None : goal.returns-in-None
returns-in-None c =
    c.in-None.ensures
    ∙ closed_group_is c.args.self.now c.requires c.deref.result.now c.deref.ensures.value c.args.partner.now c.args.functional c.args.gcn
