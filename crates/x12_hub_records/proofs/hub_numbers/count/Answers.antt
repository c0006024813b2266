use Rattle.std.proofs.Common.{◌<◌, ◌^◌, pos, [], ◌∷◌, w64, OnOk, rules}
use Rattle.std.proofs.lemmas.Int.{to_z-of_z}
use Rattle.sqlite.specs.declared.types.Value.TheVariants.{Int}
use Rattle.sqlite.specs.Held.{state}
use Rattle.sqlite.specs.State.{HasCleanDisk}
use Rattle.sql_rows.specs.Kept.{RanInside}
use Rattle.sql_rows.proofs.Parts.{part_of}
use Rattle.x12_tables.specs.Change.{Always}
use Rattle.x12_hub_records.proofs.HubCompile.{count_text}
use Rattle.x12_hub_records.proofs.NumberLemmas.{counts}
use Rattle.x12_hub_records.specs.HubChange.{TurnsHub, with_last_hub_numbers}
use Rattle.x12_hub_records.proofs.hub_numbers.count.Goals as goal

pub returns-clause-part : goal.returns-clause-part
returns-clause-part g c =
    let old = state g.S.Store c.args.tx.now.conn.now in
    let new = state g.S.Store c.run.new.tx.conn.now in
    let few : c.args.item < 2 ^ 32 = search rules in
    let ran : HasCleanDisk new → OnOk c.run.result (RanInside count_text (Int (pos c.args.icn) ∷ Int (pos c.args.item) ∷ []) old new) = λ clean. rw (to_z-of_z w64 c.from.result (record { sfits = c.from.type_inv }), c.from.ensures, to_z-of_z w64 c.from-2.result (record { sfits = c.from-2.type_inv }), c.from-2.ensures) at (c.run.ensures.ran clean) in
    part_of (TurnsHub (with_last_hub_numbers c.args.icn c.args.item) Always) count_text (Int (pos c.args.icn) ∷ Int (pos c.args.item) ∷ []) old new
    (λ it last s none has. counts old new c.args.icn c.args.item it.count last s few has it.ran) c.run.result ran c.run.ensures.keeps c.run.ensures.survives
