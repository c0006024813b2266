use Rattle.std.proofs.Common.{pos, [], ◌∷◌, w64, OnOk}
use Rattle.std.proofs.lemmas.Int.{to_z-of_z}
use Rattle.sqlite.specs.declared.types.Value.TheVariants.{Int}
use Rattle.sqlite.specs.Held.{state}
use Rattle.sqlite.specs.State.{HasCleanDisk}
use Rattle.sql_rows.specs.Kept.{RanInside}
use Rattle.sql_rows.proofs.Parts.{part_of}
use Rattle.x12_tables.specs.Change.{Always}
use Rattle.x12_station_records.proofs.StationCompile.{count_text}
use Rattle.x12_station_records.proofs.StationNumberLemmas.{counts}
use Rattle.x12_station_records.proofs.StationValueLemmas.{kept_integer}
use Rattle.x12_station_records.specs.StationChange.{Turns, with_last_numbers}
use Rattle.x12_station_records.specs.StationTables.{CanBeUsed}
use Rattle.x12_station_records.proofs.station_numbers.count.Goals as goal

pub returns-clause-part : goal.returns-clause-part
returns-clause-part g c =
    let old = state g.S.Store c.args.tx.now.conn.now in
    let new = state g.S.Store c.run.new.tx.conn.now in
    let used : CanBeUsed c.args.book = (rw (c.interchange.ensures.last) at c.interchange.ensures.within, rw (c.group.ensures.last) at c.group.ensures.within) in
    let params = Int (pos c.args.book.interchange) ∷ Int (pos c.args.book.group) ∷ Int (pos c.args.seq) ∷ [] in
    let ran : HasCleanDisk new → OnOk c.run.result (RanInside count_text params old new) = λ clean.
    rw (to_z-of_z w64 c.from.result (record { sfits = c.from.type_inv }), c.from.ensures, c.interchange.ensures.last, to_z-of_z w64 c.from-2.result (record { sfits = c.from-2.type_inv }), c.from-2.ensures, c.group.ensures.last, c.in_ok-seq.ensures.ok, kept_integer c.args.seq c.in_ok-seq.ensures.few) at (c.run.ensures.ran clean) in
    part_of (Turns (with_last_numbers c.args.book c.args.seq) Always) count_text params old new
    (λ it last s none has. counts old new c.args.book c.args.seq it.count last s used has it.ran) c.run.result ran c.run.ensures.keeps c.run.ensures.survives
