use Rattle.std.proofs.Common.{[], ◌∷◌, OnOk}
use Rattle.sqlite.specs.declared.types.Value.TheVariants.{Blob}
use Rattle.sqlite.specs.Held.{state}
use Rattle.sqlite.specs.Order.{Row}
use Rattle.sqlite.specs.State.{HasCleanDisk}
use Rattle.sql_rows.specs.Kept.{RanInside}
use Rattle.sql_rows.proofs.Parts.{part_of}
use Rattle.x12_tables.specs.Party.{bytes_of_party}
use Rattle.x12_hub_records.proofs.StartLemmas.{start_text, starts}
use Rattle.x12_hub_records.specs.HubCreate.{StartsHub}
use Rattle.x12_hub_records.proofs.creating.start_numbers.Goals as goal

pub returns-clause-part : goal.returns-clause-part
returns-clause-part g c =
    let old = state g.S.Store c.args.tx.now.conn.now in
    let new = state g.S.Store c.run.new.tx.conn.now in
    let party = c.args.party.now in
    let params : Row = Blob (bytes_of_party party) ∷ [] in
    let ran : HasCleanDisk new → OnOk c.run.result (RanInside start_text params old new) = λ clean. rw (c.party_bytes-bytes.ensures.bytes) at (c.run.ensures.ran clean) in
    part_of (StartsHub party) start_text params old new (λ it has. starts old new party it.count c.party_bytes-bytes.ensures.wide has it.ran) c.run.result ran c.run.ensures.keeps c.run.ensures.survives
