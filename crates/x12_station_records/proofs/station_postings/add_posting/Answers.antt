use Rattle.std.proofs.Common.{w64, OnOk, rules, ◌<◌, ◌^◌, ◌≡◌, length}
use Rattle.std.proofs.lemmas.Int.{to_z-of_z}
use Rattle.sqlite.specs.Held.{state}
use Rattle.sqlite.specs.Order.{Row}
use Rattle.sqlite.specs.State.{HasCleanDisk}
use Rattle.sql_rows.specs.Kept.{RanInside}
use Rattle.sql_rows.proofs.Parts.{part_of}
use Rattle.x12_inbound.specs.Posting.{posting_view}
use Rattle.x12_station_records.proofs.StationArrivalLemmas.{posts, posting_params}
use Rattle.x12_station_records.proofs.StationCompile.{post_text}
use Rattle.x12_station_records.proofs.StationValueLemmas.{kept_integer}
use Rattle.x12_station_records.specs.StationChange.{Turns, with_posting, HasNextPosting}
use Rattle.x12_station_records.specs.StationTables.{IsWidePosting}
use Rattle.x12_station_records.proofs.station_postings.add_posting.Goals as goal

pub returns-clause-part : goal.returns-clause-part
returns-clause-part g c =
    let old = state g.S.Store c.args.tx.now.conn.now in
    let new = state g.S.Store c.run.new.tx.conn.now in
    let p = posting_view c.args.posting.now in
    let key = c.args.posting.now.key in
    let icn : key.icn < 2 ^ 32 = search rules in
    let places : (key.group < 2 ^ 16) × (key.set < 2 ^ 16) = (search rules, search rules) in
    let codes : (length c.args.posting.now.functional ≡ 2) × (length c.args.posting.now.set ≡ 3) = (search rules, search rules) in
    let wide : IsWidePosting p = record { icn = icn; places = places; codes = codes; number = search rules } in
    let params : Row = posting_params c.args.at p in
    let ran : HasCleanDisk new → OnOk c.run.result (RanInside post_text params old new) = λ clean.
    rw (c.in_ok-at.ensures.ok, kept_integer c.args.at c.in_ok-at.ensures.few, c.party_bytes-sender.ensures.bytes, to_z-of_z w64 c.from.result (record { sfits = c.from.type_inv }), c.from.ensures, to_z-of_z w64 c.from-2.result (record { sfits = c.from-2.type_inv }), c.from-2.ensures, to_z-of_z w64 c.from-3.result (record { sfits = c.from-3.type_inv }), c.from-3.ensures, c.as_bytes.ensures, c.deref.ensures.value) at (c.run.ensures.ran clean) in
    part_of (Turns (with_posting p) (HasNextPosting c.args.at)) post_text params old new
    (λ it next s is_next has. posts old new it.count next s has c.args.at p c.party_bytes-sender.ensures.wide wide c.in_ok-at.ensures.few is_next it.ran) c.run.result ran c.run.ensures.keeps c.run.ensures.survives
