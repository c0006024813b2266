use Rattle.std.proofs.Common.{w64, OnOk}
use Rattle.std.proofs.lemmas.Int.{to_z-of_z}
use Rattle.sqlite.specs.Held.{state}
use Rattle.sqlite.specs.Order.{Row}
use Rattle.sqlite.specs.State.{HasCleanDisk}
use Rattle.sql_rows.specs.Kept.{RanInside}
use Rattle.sql_rows.proofs.Parts.{part_of}
use Rattle.x12_acks.specs.Key.{key_view}
use Rattle.x12_station_records.proofs.StationCompile.{settle_text}
use Rattle.x12_station_records.proofs.StationSetLemmas.{settles, fate_params}
use Rattle.x12_station_records.specs.StationChange.{Turns, with_stored_fate, SetsOnce}
use Rattle.x12_station_records.proofs.station_outset.settle_set.Goals as goal

pub returns-clause-part : goal.returns-clause-part
returns-clause-part g c =
    let old = state g.S.Store c.args.tx.now.conn.now in
    let new = state g.S.Store c.run.new.tx.conn.now in
    let k = key_view c.args.key.now in
    let params : Row = fate_params k c.args.fate in
    let ran : HasCleanDisk new → OnOk c.run.result (RanInside settle_text params old new) = λ clean.
    rw (to_z-of_z w64 c.from.result (record { sfits = c.from.type_inv }), c.from.ensures, to_z-of_z w64 c.from-2.result (record { sfits = c.from-2.type_inv }), c.from-2.ensures, to_z-of_z w64 c.from-3.result (record { sfits = c.from-3.type_inv }), c.from-3.ensures, to_z-of_z w64 c.fate_value.result (record { sfits = c.fate_value.type_inv }), c.fate_value.ensures) at (c.run.ensures.ran clean) in
    part_of (Turns (with_stored_fate k c.args.fate) SetsOnce) settle_text params old new
    (λ it next s once has. settles old new it.count next s has k c.args.fate once it.ran) c.run.result ran c.run.ensures.keeps c.run.ensures.survives
