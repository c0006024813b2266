-- What is found closed is sound.
use Rattle.std.proofs.Common.{◌&&◌}
use Rattle.std.specs.List.{list_any}
use Rattle.x12_judge.specs.Agreement.{is_same_party}
use Rattle.x12_outbound.specs.Entry.{row_is_open}
use Rattle.x12_station.specs.Stored.{is_group_named}
use Rattle.x12_station.specs.Memory.{memory_view, is_closed_with}
use Rattle.x12_station.proofs.SoundAnswerLemmas.{sound_found, ended_and}
use Rattle.x12_station.proofs.memory.MemoryRecordsRecords.find_closed_group.Goals as goal

pub returns-clause-sound : goal.returns-clause-sound
returns-clause-sound c =
    sound_found (is_closed_with c.args.partner.now c.args.functional c.args.gcn)
    (λ e. ended_and (is_same_party e.receiver c.args.partner.now && list_any (is_group_named c.args.functional c.args.gcn) e.groups) (row_is_open e))
    (memory_view c.args.self.now) c.in_ok-closed_group.field-0 c.in_ok-closed_group.ensures c.requires.sound
