use Rattle.std.proofs.Common.{pos, [], ◌∷◌, w64, OnOk}
use Rattle.std.proofs.lemmas.Int.{to_z-of_z}
use Rattle.sqlite.specs.declared.types.Value.TheVariants.{Int}
use Rattle.sqlite.specs.Held.{state}
use Rattle.sqlite.specs.State.{HasCleanDisk}
use Rattle.sql_rows.specs.Kept.{RanInside}
use Rattle.sql_rows.proofs.Parts.{part_of}
use Rattle.x12_hub_records.proofs.HubCompile.{put_text}
use Rattle.x12_hub_records.proofs.WaitingLemmas.{puts}
use Rattle.x12_hub_records.specs.HubChange.{Adds}
use Rattle.x12_hub_records.proofs.mailboxes.add.Goals as goal

pub returns-clause-part : goal.returns-clause-part
returns-clause-part g c =
    let old = state g.S.Store c.args.tx.now.conn.now in
    let new = state g.S.Store c.run.new.tx.conn.now in
    let ran : HasCleanDisk new → OnOk c.run.result (RanInside put_text (Int (pos c.args.item) ∷ Int (pos c.args.node) ∷ []) old new) = λ clean. rw (to_z-of_z w64 c.from.result (record { sfits = c.from.type_inv }), c.from.ensures, to_z-of_z w64 c.from-2.result (record { sfits = c.from-2.type_inv }), c.from-2.ensures) at (c.run.ensures.ran clean) in
    part_of (Adds c.args.node c.args.item) put_text (Int (pos c.args.item) ∷ Int (pos c.args.node) ∷ []) old new
    (λ it last s rising has. puts old new c.args.node c.args.item it.count last s s.waiting rising has it.ran) c.run.result ran c.run.ensures.keeps c.run.ensures.survives
