-- What is found closed is sound.
use Rattle.std.proofs.Common.{◌==◌}
use Rattle.x12_outbound.specs.Entry.{row_is_open}
use Rattle.x12_station.specs.Memory.{memory_view, is_closed_numbered}
use Rattle.x12_station.proofs.SoundAnswerLemmas.{sound_found, ended_and}
use Rattle.x12_station.proofs.memory.MemoryRecordsRecords.find_closed.Goals as goal

pub returns-clause-sound : goal.returns-clause-sound
returns-clause-sound c =
    sound_found (is_closed_numbered c.args.icn) (λ e. ended_and (e.icn == c.args.icn) (row_is_open e))
    (memory_view c.args.self.now) c.in_ok-closed.field-0 c.in_ok-closed.ensures c.requires.sound
