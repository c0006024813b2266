use Rattle.sqlite.specs.Held.{state}
use Rattle.std.proofs.Common.{map}
use Rattle.x12_outbound.specs.Settling.{target_view}
use Rattle.x12_station.specs.Plan.{Files}
use Rattle.x12_station_records.proofs.StationParts.{tells}
use Rattle.x12_station_records.proofs.StationPlanLemmas.{makes_arrival}
use Rattle.x12_station_records.specs.StationPart.{FilesAll}
use Rattle.x12_station_records.specs.StationPlan.{Makes}
use Rattle.x12_station_records.proofs.station_committing.write_arrival.Goals as goal

pub returns-clause-part : goal.returns-clause-part
returns-clause-part g c =
    let from = c.args.next in
    let to = c.in_ok-posting.posting in
    let a = state g.S.Store c.args.tx.now.conn.now in
    let b = state g.S.Store c.file.new.tx.conn.now in
    let seq = c.args.seq in
    let k = c.args.kept.now in
    let ts = map target_view c.args.settled.now in
    tells (λ to. FilesAll seq k ts from.posting to) to (λ to. Makes seq (Files k ts) from to) (record from { posting = to }) a b (makes_arrival a b seq from to k ts) c.in_ok-posting.ensures.part
