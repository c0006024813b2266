-- The fate of the set at its place is that of its row.
use Rattle.std.proofs.Common.{◌∙◌, ap, option_map}
use Rattle.x12_acks.specs.Key.{key_view}
use Rattle.x12_outbound.specs.Entry.{SetRow}
use Rattle.x12_station.proofs.KeptLemmas.{numbers_of, fate_is}
use Rattle.x12_station.proofs.memory.MemoryRecords.fate.Goals as goal

pub set_of-requires : goal.set_of-requires
set_of-requires c = numbers_of c.args.self.now c.requires c.deref.result.now c.deref.ensures.value

pub returns-in-Some : goal.returns-in-Some
returns-in-Some c =
    ap (option_map (λ (s : SetRow). s.fate)) c.in-Some.ensures
    ∙ fate_is c.args.self.now c.requires c.deref.result.now c.deref.ensures.value (key_view c.args.key.now)

pub returns-in-None : goal.returns-in-None
returns-in-None c =
    ap (option_map (λ (s : SetRow). s.fate)) c.in-None.ensures
    ∙ fate_is c.args.self.now c.requires c.deref.result.now c.deref.ensures.value (key_view c.args.key.now)
