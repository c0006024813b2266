use Rattle.std.proofs.Common.{map}
use Rattle.sqlite.specs.declared.error.Error.{Error}
use Rattle.sqlite.specs.Held.{state}
use Rattle.x12_outbound.specs.Settling.{target_view}
use Rattle.x12_station_records.proofs.StationFiledLemmas.{Arrives, arrives, files_all}
use Rattle.x12_station_records.proofs.StationParts.{goes, goes_both}
use Rattle.x12_station_records.specs.StationChange.{Turns, with_arrival, arrival_of, RisesBySeq, with_fates, SetsOnce}
use Rattle.x12_station_records.specs.StationPart.{AddsPostings, FilesAll}
use Rattle.x12_station_records.proofs.station_inbound.file.Goals as goal

pub returns-clause-part : goal.returns-clause-part
returns-clause-part g c =
    let seq = c.args.seq in
    let from = c.args.at in
    let to = c.in_ok-next.next in
    let k = c.args.kept.now in
    let ts = map target_view c.args.settled.now in
    let r = arrival_of seq k.filed in
    let a = state g.S.Store c.args.tx.now.conn.now in
    let b = state g.S.Store c.add_arrival.new.tx.conn.now in
    let d = state g.S.Store c.add_postings.new.tx.conn.now in
    let e = state g.S.Store c.settle.new.tx.conn.now in
    let C = Turns (with_arrival r) (RisesBySeq r) in
    let arrived = rw (c.view-icn.ensures.filed) at c.in_ok-add_arrival.ensures.part in
    let posted = rw (c.view-icn.ensures.postings) at c.in_ok-next.ensures.part in
    let both = goes_both {G = Error} (λ u. C) c.in_ok-add_arrival.field-0 (λ to. AddsPostings from k.postings to) to (λ to. Arrives seq k from to) to a b d
    (λ first second. arrives a b d seq from to k first second) (goes {F = Error} C c.in_ok-add_arrival.field-0 a b arrived) posted in
    goes_both (λ to. Arrives seq k from to) to (λ u. Turns (with_fates ts) SetsOnce) c.in_ok-settle.field-0 (λ to. FilesAll seq k ts from to) to a d e
    (λ first second. files_all a d e seq from to k ts first second) both c.in_ok-settle.ensures.part
