use Rattle.std.proofs.Common.{◌<◌, ◌^◌, OnOk, arith, rules}
use Rattle.sqlite.specs.Held.{state}
use Rattle.sqlite.specs.Order.{Row}
use Rattle.sqlite.specs.State.{HasCleanDisk}
use Rattle.sql_rows.specs.Kept.{RanInside}
use Rattle.sql_rows.proofs.Parts.{part_of}
use Rattle.x12_outbound.specs.Entry.{entry_row}
use Rattle.x12_station.specs.Stored.{row_of_entry}
use Rattle.x12_station_records.proofs.StationCompile.{submit_text}
use Rattle.x12_station_records.proofs.StationSubmissionLemmas.{submits, submission_params}
use Rattle.x12_station_records.proofs.StationValueLemmas.{kept_integer}
use Rattle.x12_station_records.specs.StationChange.{Turns, with_submission, RisesByNumber}
use Rattle.x12_station_records.proofs.station_outbound.add_submission.Goals as goal

pub returns-clause-part : goal.returns-clause-part
returns-clause-part g c =
    let old = state g.S.Store c.args.tx.now.conn.now in
    let new = state g.S.Store c.run.new.tx.conn.now in
    let r = row_of_entry c.args.seq (entry_row c.args.entry.now) in
    let narrow : c.args.entry.now.icn < 2 ^ 32 = search rules in
    let params : Row = submission_params r in
    let ran : HasCleanDisk new → OnOk c.run.result (RanInside submit_text params old new) = λ clean.
    rw (c.in_ok-icn.ensures.ok, kept_integer c.args.entry.now.icn (omega (arith, narrow)), c.in_ok-seq.ensures.ok, kept_integer c.args.seq c.in_ok-seq.ensures.few, c.party_bytes-bytes.ensures.bytes, c.deref.ensures.value) at (c.run.ensures.ran clean) in
    part_of (Turns (with_submission r) (RisesByNumber r)) submit_text params old new
    (λ it next s rise has. submits old new it.count next s has r c.in_ok-icn.ensures.used c.party_bytes-bytes.ensures.wide rise it.ran) c.run.result ran c.run.ensures.keeps c.run.ensures.survives
