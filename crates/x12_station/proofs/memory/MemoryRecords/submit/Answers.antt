-- Each submission is whole, and so is the new one.
use Rattle.std.proofs.Common.{ap, sym, subst, map, All}
use Rattle.x12_outbound.specs.Entry.{entry_row}
use Rattle.x12_station.specs.Record.{IsWholeEntry}
use Rattle.x12_station.specs.Memory.{NumberedRow, numbered_row, entries_in}
use Rattle.x12_station.proofs.MemoryLemmas.{in_either, whole_push}
use Rattle.x12_station.proofs.memory.MemoryRecords.submit.Goals as goal

pub returns-clause-whole : goal.returns-clause-whole
returns-clause-whole c =
    let old = map numbered_row c.args.self.now.submitted.items in
    let new = map numbered_row c.add.new.rows.items in
    let n : NumberedRow = record { seq = c.args.seq; entry = entry_row c.args.entry.now } in
    in_either (All IsWholeEntry (entries_in new)) c.add.result _ _ c.add.ensures.ok c.add.ensures.err
    (λ is. whole_push old new n is c.requires.kept c.requires.whole)
    (λ same. subst (All IsWholeEntry) (sym (ap (λ items. entries_in (map numbered_row items)) same)) c.requires.kept)
