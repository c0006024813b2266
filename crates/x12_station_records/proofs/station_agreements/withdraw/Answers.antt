use Rattle.std.proofs.Common.{[], ◌∷◌, OnOk}
use Rattle.sqlite.specs.declared.types.Value.TheVariants.{Blob}
use Rattle.sqlite.specs.Held.{state}
use Rattle.sqlite.specs.Order.{Row}
use Rattle.sqlite.specs.State.{HasCleanDisk}
use Rattle.sql_rows.specs.Kept.{RanInside}
use Rattle.sql_rows.proofs.Parts.{part_of}
use Rattle.x12_tables.specs.Change.{Always}
use Rattle.x12_tables.specs.Party.{bytes_of_party}
use Rattle.x12_station_records.proofs.StationAgreementLemmas.{withdraws}
use Rattle.x12_station_records.proofs.StationCompile.{withdraw_text}
use Rattle.x12_station_records.specs.StationChange.{Turns, withdrawn}
use Rattle.x12_station_records.proofs.station_agreements.withdraw.Goals as goal

pub returns-clause-part : goal.returns-clause-part
returns-clause-part g c =
    let old = state g.S.Store c.args.tx.now.conn.now in
    let new = state g.S.Store c.run.new.tx.conn.now in
    let params : Row = Blob (bytes_of_party c.args.partner.now) ∷ [] in
    let ran : HasCleanDisk new → OnOk c.run.result (RanInside withdraw_text params old new) = λ clean.
    rw (c.party_bytes-bytes.ensures.bytes) at (c.run.ensures.ran clean) in
    part_of (Turns (withdrawn c.args.partner.now) Always) withdraw_text params old new
    (λ it next s none has. withdraws old new c.args.partner.now it.count next s c.party_bytes-bytes.ensures.wide has it.ran) c.run.result ran c.run.ensures.keeps c.run.ensures.survives
