use Rattle.std.proofs.Common.{OnOk}
use Rattle.sqlite.specs.Held.{state}
use Rattle.sqlite.specs.State.{HasCleanDisk}
use Rattle.sql_rows.specs.Kept.{RanInside}
use Rattle.sql_rows.proofs.Parts.{part_of}
use Rattle.x12_outbound.specs.Hubs.{hubs_of}
use Rattle.x12_station_records.proofs.StationStart.{start_text, start_params, starts}
use Rattle.x12_station_records.proofs.StationValueLemmas.{same_head}
use Rattle.x12_station_records.specs.StationCreate.{Starts}
use Rattle.x12_station_records.proofs.station_creating.start_station.Goals as goal

pub returns-clause-part : goal.returns-clause-part
returns-clause-part g c =
    let old = state g.S.Store c.args.tx.now.conn.now in
    let new = state g.S.Store c.run.new.tx.conn.now in
    let party = c.args.party.now in
    let hubs = c.args.hubs.now in
    let ran : HasCleanDisk new → OnOk c.run.result (RanInside start_text (start_params party hubs) old new) = λ clean. rw (c.party_bytes-party.ensures.bytes, c.party_bytes-hub.ensures.bytes, same_head c.other_ref.ensures, c.other_bytes-other.ensures.bytes) at (c.run.ensures.ran clean) in
    part_of (Starts party (hubs_of hubs)) start_text (start_params party hubs) old new (λ it has. starts old new party hubs it.count c.party_bytes-party.ensures.wide c.party_bytes-hub.ensures.wide c.other_bytes-other.ensures.wide has it.ran) c.run.result ran c.run.ensures.keeps c.run.ensures.survives
