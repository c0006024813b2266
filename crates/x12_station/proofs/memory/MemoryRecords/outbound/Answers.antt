-- The bytes of the submission that is found are those of its row.
use Rattle.std.proofs.Common.{◌∙◌, ap, Some, option_map}
use Rattle.x12_station.specs.Memory.{NumberedRow}
use Rattle.x12_station.proofs.KeptLemmas.{numbers_of, bytes_is}
use Rattle.x12_station.proofs.memory.MemoryRecords.outbound.Goals as goal

pub row_of-requires : goal.row_of-requires
row_of-requires c = numbers_of c.args.self.now c.requires c.deref.result.now c.deref.ensures.value

pub returns-in_ok-from_slice-in-Some : goal.returns-in_ok-from_slice-in-Some
returns-in_ok-from_slice-in-Some c =
    ap Some (c.in_ok-from_slice-in-Some.ensures.items ∙ c.deref-in-Some.ensures.value)
    ∙ ap (option_map (λ (n : NumberedRow). n.entry.bytes)) c.in-Some.ensures
    ∙ bytes_is c.args.self.now c.requires c.deref.result.now c.deref.ensures.value c.args.icn

pub returns-in-None : goal.returns-in-None
returns-in-None c =
    ap (option_map (λ (n : NumberedRow). n.entry.bytes)) c.in-None.ensures
    ∙ bytes_is c.args.self.now c.requires c.deref.result.now c.deref.ensures.value c.args.icn
