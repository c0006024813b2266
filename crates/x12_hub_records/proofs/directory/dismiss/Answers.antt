use Rattle.std.proofs.Common.{[], ◌∷◌, OnOk}
use Rattle.sqlite.specs.declared.types.Value.TheVariants.{Blob}
use Rattle.sqlite.specs.Held.{state}
use Rattle.sqlite.specs.State.{HasCleanDisk}
use Rattle.sql_rows.specs.Kept.{RanInside}
use Rattle.sql_rows.proofs.Parts.{part_of}
use Rattle.x12_tables.specs.Change.{Always}
use Rattle.x12_tables.specs.Party.{bytes_of_party}
use Rattle.x12_hub_records.proofs.DirectoryLemmas.{dismisses}
use Rattle.x12_hub_records.proofs.HubCompile.{dismiss_text}
use Rattle.x12_hub_records.specs.HubChange.{TurnsHub, without_party}
use Rattle.x12_hub_records.proofs.directory.dismiss.Goals as goal

pub returns-clause-part : goal.returns-clause-part
returns-clause-part g c =
    let old = state g.S.Store c.args.tx.now.conn.now in
    let new = state g.S.Store c.run.new.tx.conn.now in
    let ran : HasCleanDisk new → OnOk c.run.result (RanInside dismiss_text (Blob (bytes_of_party c.args.party.now) ∷ []) old new) = λ clean. rw (c.party_bytes-bytes.ensures.bytes) at (c.run.ensures.ran clean) in
    part_of (TurnsHub (without_party c.args.party.now) Always) dismiss_text (Blob (bytes_of_party c.args.party.now) ∷ []) old new
    (λ it last s none has. dismisses old new c.args.party.now it.count last s c.party_bytes-bytes.ensures.wide has it.ran) c.run.result ran c.run.ensures.keeps c.run.ensures.survives
