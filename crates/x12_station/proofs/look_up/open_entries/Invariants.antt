-- those so far that are open are copied
use Rattle.std.proofs.Common.{◌≡◌, take, map, filter}
use Rattle.x12_outbound.specs.Entry.{entry_row, row_is_open}
use Rattle.x12_station.specs.declared.submissions.NumberedEntry.{NumberedEntry}
use Rattle.x12_station.proofs.look_up.open_entries.Given as goal

abbrev pub invariant-loop-row : goal.invariant-loop-row
invariant-loop-row l = map entry_row l.entries.items ≡ filter row_is_open (take l.row-index (map (λ (n : NumberedEntry). entry_row n.entry) l.rows))
