use Rattle.std.proofs.Common.{w64, OnOk, rules, ◌<◌, ◌^◌}
use Rattle.std.proofs.lemmas.Int.{to_z-of_z}
use Rattle.sqlite.specs.Held.{state}
use Rattle.sqlite.specs.Order.{Row}
use Rattle.sqlite.specs.State.{HasCleanDisk}
use Rattle.sql_rows.specs.Kept.{RanInside}
use Rattle.sql_rows.proofs.Parts.{part_of}
use Rattle.x12_inbound.specs.Filing.{filed_under}
use Rattle.x12_station_records.proofs.StationArrivalLemmas.{files, arrival_params}
use Rattle.x12_station_records.proofs.StationCompile.{file_text}
use Rattle.x12_station_records.proofs.StationValueLemmas.{kept_integer, same_head}
use Rattle.x12_station_records.specs.StationChange.{Turns, with_arrival, arrival_of, RisesBySeq}
use Rattle.x12_station_records.proofs.station_inbound.add_arrival.Goals as goal

pub returns-clause-part : goal.returns-clause-part
returns-clause-part g c =
    let old = state g.S.Store c.args.tx.now.conn.now in
    let new = state g.S.Store c.run.new.tx.conn.now in
    let r = arrival_of c.args.seq (filed_under c.args.partner.now c.args.icn c.args.filed.now) in
    let narrow : c.args.icn < 2 ^ 32 = search rules in
    let params : Row = arrival_params r in
    let ran : HasCleanDisk new → OnOk c.run.result (RanInside file_text params old new) = λ clean.
    rw (c.in_ok-seq.ensures.ok, kept_integer c.args.seq c.in_ok-seq.ensures.few, c.party_bytes-bytes.ensures.bytes, to_z-of_z w64 c.from.result (record { sfits = c.from.type_inv }), c.from.ensures, same_head c.reply_ref.ensures, c.deref.ensures.value) at (c.run.ensures.ran clean) in
    part_of (Turns (with_arrival r) (RisesBySeq r)) file_text params old new
    (λ it next s rise has. files old new it.count next s has r c.party_bytes-bytes.ensures.wide narrow rise it.ran) c.run.result ran c.run.ensures.keeps c.run.ensures.survives
