use Rattle.std.proofs.Common.{pos, [], ◌∷◌, w64, OnOk}
use Rattle.std.proofs.lemmas.Int.{to_z-of_z}
use Rattle.sqlite.specs.declared.types.Value.TheVariants.{Int}
use Rattle.sqlite.specs.Held.{state}
use Rattle.sqlite.specs.State.{HasCleanDisk}
use Rattle.sql_rows.specs.Kept.{RanInside}
use Rattle.sql_rows.proofs.Parts.{part_of}
use Rattle.x12_tables.specs.Change.{Always}
use Rattle.x12_hub_records.proofs.HubCompile.{take_text}
use Rattle.x12_hub_records.proofs.WaitingLemmas.{takes}
use Rattle.x12_hub_records.specs.HubChange.{TurnsHub, taken_out}
use Rattle.x12_hub_records.proofs.mailboxes.take.Goals as goal

pub returns-clause-part : goal.returns-clause-part
returns-clause-part g c =
    let old = state g.S.Store c.args.tx.now.conn.now in
    let new = state g.S.Store c.run.new.tx.conn.now in
    let ran : HasCleanDisk new → OnOk c.run.result (RanInside take_text (Int (pos c.args.item) ∷ []) old new) = λ clean. rw (to_z-of_z w64 c.from.result (record { sfits = c.from.type_inv }), c.from.ensures) at (c.run.ensures.ran clean) in
    part_of (TurnsHub (taken_out c.args.item) Always) take_text (Int (pos c.args.item) ∷ []) old new
    (λ it last s none has. takes old new c.args.item it.count last s has it.ran) c.run.result ran c.run.ensures.keeps c.run.ensures.survives
