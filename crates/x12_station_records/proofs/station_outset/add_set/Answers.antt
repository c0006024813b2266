use Rattle.std.proofs.Common.{w64, OnOk, rules}
use Rattle.std.proofs.lemmas.Int.{to_z-of_z}
use Rattle.sqlite.specs.Held.{state}
use Rattle.sqlite.specs.Order.{Row}
use Rattle.sqlite.specs.State.{HasCleanDisk}
use Rattle.sql_rows.specs.Kept.{RanInside}
use Rattle.sql_rows.proofs.Parts.{part_of}
use Rattle.x12_outbound.specs.Entry.{group_row, set_row}
use Rattle.x12_station_records.proofs.StationCompile.{enter_set_text}
use Rattle.x12_station_records.proofs.StationSetLemmas.{enters, set_params}
use Rattle.x12_station_records.proofs.StationValueLemmas.{kept_integer}
use Rattle.x12_station_records.specs.StationChange.{Turns, with_stored_set, set_of, HasNextSet}
use Rattle.x12_station_records.specs.StationTables.{IsWideSet}
use Rattle.x12_station_records.proofs.station_outset.add_set.Goals as goal

pub returns-clause-part : goal.returns-clause-part
returns-clause-part g c =
    let old = state g.S.Store c.args.tx.now.conn.now in
    let new = state g.S.Store c.run.new.tx.conn.now in
    let place = c.args.place in
    let t = set_of place.icn (place.group, group_row c.args.group.now) (place.set, set_row c.args.set.now) in
    let wide : IsWideSet t = record { functional = search rules; number = search rules } in
    let params : Row = set_params c.args.at t in
    let ran : HasCleanDisk new → OnOk c.run.result (RanInside enter_set_text params old new) = λ clean.
    rw (c.in_ok-at.ensures.ok, kept_integer c.args.at c.in_ok-at.ensures.few, to_z-of_z w64 c.from.result (record { sfits = c.from.type_inv }), c.from.ensures, c.in_ok-group_place.ensures.ok, kept_integer place.group c.in_ok-group_place.ensures.few, c.in_ok-set_place.ensures.ok, kept_integer place.set c.in_ok-set_place.ensures.few, to_z-of_z w64 c.from-2.result (record { sfits = c.from-2.type_inv }), c.from-2.ensures, to_z-of_z w64 c.fate_value-fate.result (record { sfits = c.fate_value-fate.type_inv }), c.fate_value-fate.ensures, c.as_bytes.ensures) at (c.run.ensures.ran clean) in
    part_of (Turns (with_stored_set t) (HasNextSet c.args.at)) enter_set_text params old new
    (λ it next s is_next has. enters old new it.count next s has c.args.at t wide is_next it.ran) c.run.result ran c.run.ensures.keeps c.run.ensures.survives
