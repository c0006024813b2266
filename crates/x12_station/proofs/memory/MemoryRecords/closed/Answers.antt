-- What is found among the submissions is found among the entries.
use Rattle.std.proofs.Common.{◌∙◌, ap, Some}
use Rattle.x12_station.proofs.KeptLemmas.{numbers_of, closed_is}
use Rattle.x12_station.proofs.memory.MemoryRecords.closed.Goals as goal

pub closed_of-requires : goal.closed_of-requires
closed_of-requires c = numbers_of c.args.self.now c.requires c.deref.result.now c.deref.ensures.value

pub returns-in_ok-copied-in-Some : goal.returns-in_ok-copied-in-Some
returns-in_ok-copied-in-Some c =
    ap Some c.in_ok-copied-in-Some.ensures ∙ c.in-Some.ensures
    ∙ closed_is c.args.self.now c.requires c.deref.result.now c.deref.ensures.value c.args.icn

pub returns-in-None : goal.returns-in-None
returns-in-None c = c.in-None.ensures ∙ closed_is c.args.self.now c.requires c.deref.result.now c.deref.ensures.value c.args.icn
