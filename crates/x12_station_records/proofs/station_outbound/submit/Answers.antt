use Rattle.sqlite.specs.declared.error.Error.{Error}
use Rattle.sqlite.specs.Held.{state}
use Rattle.x12_outbound.specs.Entry.{entry_row}
use Rattle.x12_station.specs.Stored.{row_of_entry, rows_of_entry}
use Rattle.x12_station_records.proofs.StationAddedLemmas.{submits_all}
use Rattle.x12_station_records.proofs.StationParts.{goes, goes_then}
use Rattle.x12_station_records.specs.StationChange.{Turns, with_submission, RisesByNumber}
use Rattle.x12_station_records.specs.StationPart.{AddsSets, SubmitsAll}
use Rattle.x12_station_records.proofs.station_outbound.submit.Goals as goal

pub returns-clause-part : goal.returns-clause-part
returns-clause-part g c =
    let e = entry_row c.args.entry.now in
    let seq = c.args.seq in
    let from = c.args.at in
    let a = state g.S.Store c.args.tx.now.conn.now in
    let b = state g.S.Store c.add_submission.new.tx.conn.now in
    let d = state g.S.Store c.add_groups.new.tx.conn.now in
    let C = Turns (with_submission (row_of_entry seq e)) (RisesByNumber (row_of_entry seq e)) in
    goes_then {F = Error} (λ u. C) c.in_ok-add_submission.field-0 a b d (λ to. AddsSets from (rows_of_entry e) to) (λ to. SubmitsAll seq e from to) c.add_groups.result
    (λ to first second. submits_all a b d seq from to e first second) (goes C c.in_ok-add_submission.field-0 a b c.in_ok-add_submission.ensures.part) c.add_groups.ensures.part
