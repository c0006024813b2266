use Rattle.std.proofs.Common.{◌<◌, ◌^◌, pos, [], ◌∷◌, w64, OnOk, rules}
use Rattle.std.proofs.lemmas.Int.{to_z-of_z}
use Rattle.sqlite.specs.declared.types.Value.TheVariants.{Int, Blob}
use Rattle.sqlite.specs.Held.{state}
use Rattle.sqlite.specs.State.{HasCleanDisk}
use Rattle.sql_rows.specs.Kept.{RanInside}
use Rattle.sql_rows.proofs.Parts.{part_of}
use Rattle.x12_hub.specs.Hub.{Boxed}
use Rattle.x12_hub_records.proofs.DecisionLemmas.{boxes}
use Rattle.x12_hub_records.proofs.HubCompile.{box_text}
use Rattle.x12_hub_records.specs.HubChange.{TurnsHub, decision_of, decided_too, HasNext}
use Rattle.x12_hub_records.proofs.decisions.add_boxed.Goals as goal

pub returns-clause-part : goal.returns-clause-part
returns-clause-part g c boxed =
    let old = state g.S.Store c.args.tx.now.conn.now in
    let new = state g.S.Store c.run.new.tx.conn.now in
    let narrow : c.args.node < 2 ^ 16 = search rules in
    let ran : HasCleanDisk new → OnOk c.run.result (RanInside box_text (Int (pos c.args.item) ∷ Int (pos c.args.node) ∷ Blob c.args.bytes.now ∷ []) old new) = λ clean. rw (to_z-of_z w64 c.from.result (record { sfits = c.from.type_inv }), c.from.ensures, to_z-of_z w64 c.from-2.result (record { sfits = c.from-2.type_inv }), c.from-2.ensures) at (c.run.ensures.ran clean) in
    part_of (TurnsHub (decided_too (decision_of c.args.bytes.now (Boxed c.args.node boxed))) (HasNext c.args.item)) box_text (Int (pos c.args.item) ∷ Int (pos c.args.node) ∷ Blob c.args.bytes.now ∷ []) old new
    (λ it last s next has. boxes old new c.args.item it.count last s has next c.args.bytes.now c.args.node boxed narrow it.ran) c.run.result ran c.run.ensures.keeps c.run.ensures.survives
