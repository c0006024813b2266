use Rattle.std.proofs.Common.{◌∙◌, ap, pos, [], ◌∷◌, w64, option_map, slice_get}
use Rattle.std.proofs.lemmas.Int.{to_z-of_z}
use Rattle.sqlite.specs.Held.{state}
use Rattle.sqlite.specs.Order.{Row}
use Rattle.sqlite.specs.State.{Shown}
use Rattle.sqlite.specs.declared.types.Value.TheVariants.{Int, Blob}
use Rattle.x12_acks.specs.Key.{key_view}
use Rattle.x12_tables.proofs.ReadLemmas.{answers_with}
use Rattle.x12_tables.specs.Party.{bytes_of_party}
use Rattle.x12_station_records.proofs.StationPostedLemmas.{posted_text, posted_asks, finds_posted}
use Rattle.x12_station_records.specs.StationContent.{content_of}
use Rattle.x12_station_records.specs.StationPostings.{posting_shown}
use Rattle.x12_station_records.proofs.station_postings.find_posted.Goals as goal

pub read-requires : goal.read-requires
read-requires g c = posted_asks

pub returns : goal.returns
returns g c =
    answers_with _ _ _ c.posting_in_rows.result (state g.S.Store c.args.conn.now) (state g.S.Store c.read.new.conn) c.read.ensures.reads c.in_ok-rows.ensures.answered c.posting_in_rows.ensures (λ has is_open x told.
    let next = has.0 in
    let valid = has.1 in
    let k = key_view c.args.key.now in
    let old = state g.S.Store c.args.conn.now in
    let new = state g.S.Store c.read.new.conn in
    let opened = c.read.ensures.reads.never_won_back is_open in
    let params : Row = Int (pos k.icn) ∷ Int (pos k.group) ∷ Int (pos k.set) ∷ Blob (bytes_of_party k.sender) ∷ [] in
    let rows = c.in_ok-rows.rows.items in
    let got : Shown posted_text params old new rows =
    rw (to_z-of_z w64 c.from.result (record { sfits = c.from.type_inv }), c.from.ensures, to_z-of_z w64 c.from-2.result (record { sfits = c.from-2.type_inv }), c.from-2.ensures, to_z-of_z w64 c.from-3.result (record { sfits = c.from-3.type_inv }), c.from-3.ensures, c.party_bytes-sender.ensures.bytes) at (c.in_ok-rows.ensures.shown is_open) in
    told ∙ ap (λ rs. option_map posting_shown (slice_get rs 0)) c.deref.ensures.value ∙ finds_posted k c.party_bytes-sender.ensures.wide old new rows next.agreement (content_of old.now.trees) (valid.sound opened) (valid.holds opened).has got)
