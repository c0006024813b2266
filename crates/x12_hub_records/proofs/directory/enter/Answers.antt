use Rattle.std.proofs.Common.{◌<◌, ◌^◌, pos, [], ◌∷◌, w64, OnOk, rules}
use Rattle.std.proofs.lemmas.Int.{to_z-of_z}
use Rattle.sqlite.specs.declared.types.Value.TheVariants.{Int, Blob}
use Rattle.sqlite.specs.Held.{state}
use Rattle.sqlite.specs.State.{HasCleanDisk}
use Rattle.sql_rows.specs.Kept.{RanInside}
use Rattle.sql_rows.proofs.Parts.{part_of}
use Rattle.x12_tables.specs.Party.{bytes_of_party}
use Rattle.x12_hub_records.proofs.DirectoryLemmas.{enters}
use Rattle.x12_hub_records.proofs.HubCompile.{enter_text}
use Rattle.x12_hub_records.specs.HubChange.{EntersHub, with_entry}
use Rattle.x12_hub_records.proofs.directory.enter.Goals as goal

pub returns-clause-part : goal.returns-clause-part
returns-clause-part g c =
    let old = state g.S.Store c.args.tx.now.conn.now in
    let new = state g.S.Store c.run.new.tx.conn.now in
    let narrow : c.args.node < 2 ^ 16 = search rules in
    let few : c.args.at < 2 ^ 32 = search rules in
    let ran : HasCleanDisk new → OnOk c.run.result (RanInside enter_text (Int (pos c.args.at) ∷ Blob (bytes_of_party c.args.party.now) ∷ Int (pos c.args.node) ∷ []) old new) = λ clean. rw (c.party_bytes-bytes.ensures.bytes, to_z-of_z w64 c.from.result (record { sfits = c.from.type_inv }), c.from.ensures, to_z-of_z w64 c.from-2.result (record { sfits = c.from-2.type_inv }), c.from-2.ensures) at (c.run.ensures.ran clean) in
    part_of (EntersHub c.args.at (with_entry c.args.party.now c.args.node)) enter_text (Int (pos c.args.at) ∷ Blob (bytes_of_party c.args.party.now) ∷ Int (pos c.args.node) ∷ []) old new
    (λ it last s above has. enters old new c.args.party.now c.args.node c.args.at it.count last s (c.party_bytes-bytes.ensures.wide, narrow) few above has it.ran) c.run.result ran c.run.ensures.keeps c.run.ensures.survives
