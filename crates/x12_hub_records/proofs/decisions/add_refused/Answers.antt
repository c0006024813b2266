use Rattle.std.proofs.Common.{pos, [], ◌∷◌, w64, OnOk}
use Rattle.std.proofs.lemmas.Int.{to_z-of_z}
use Rattle.sqlite.specs.declared.types.Value.TheVariants.{Int, Blob}
use Rattle.sqlite.specs.Held.{state}
use Rattle.sqlite.specs.State.{HasCleanDisk}
use Rattle.sql_rows.specs.Kept.{RanInside}
use Rattle.sql_rows.proofs.Parts.{part_of}
use Rattle.x12_hub.specs.Hub.{Refused}
use Rattle.x12_hub_records.proofs.DecisionLemmas.{refuses}
use Rattle.x12_hub_records.proofs.HubCompile.{refuse_text}
use Rattle.x12_hub_records.specs.HubChange.{TurnsHub, decision_of, decided_too, HasNext}
use Rattle.x12_hub_records.proofs.decisions.add_refused.Goals as goal

pub returns-clause-part : goal.returns-clause-part
returns-clause-part g c =
    let old = state g.S.Store c.args.tx.now.conn.now in
    let new = state g.S.Store c.run.new.tx.conn.now in
    let ran : HasCleanDisk new → OnOk c.run.result (RanInside refuse_text (Int (pos c.args.item) ∷ Blob c.args.reply.now ∷ Blob c.args.bytes.now ∷ []) old new) = λ clean. rw (to_z-of_z w64 c.from.result (record { sfits = c.from.type_inv }), c.from.ensures) at (c.run.ensures.ran clean) in
    part_of (TurnsHub (decided_too (decision_of c.args.bytes.now (Refused c.args.reply.now))) (HasNext c.args.item)) refuse_text (Int (pos c.args.item) ∷ Blob c.args.reply.now ∷ Blob c.args.bytes.now ∷ []) old new
    (λ it last s next has. refuses old new c.args.item it.count last s has next c.args.bytes.now c.args.reply.now it.ran) c.run.result ran c.run.ensures.keeps c.run.ensures.survives
