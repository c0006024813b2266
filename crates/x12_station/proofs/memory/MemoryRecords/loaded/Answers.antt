-- The open submissions are the open entries.
use Rattle.std.proofs.Common.{◌∙◌}
use Rattle.x12_station.proofs.KeptLemmas.{open_is}
use Rattle.x12_station.proofs.SoundAnswerLemmas.{loaded_same}
use Rattle.x12_station.proofs.memory.MemoryRecords.loaded.Goals as goal

pub returns : goal.returns
returns c =
    loaded_same _ _ c.args.self.now.book c.args.self.now.seq _ _ _ _ c.marks.ensures c.in_ok-copied_agreements.ensures
    (c.in_ok-open_entries.ensures ∙ open_is c.args.self.now c.requires c.deref.result.now c.deref.ensures.value)
