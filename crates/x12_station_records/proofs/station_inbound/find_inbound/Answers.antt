use Rattle.std.proofs.Common.{◌∙◌, pos, [], ◌∷◌, w64}
use Rattle.std.proofs.lemmas.Int.{to_z-of_z}
use Rattle.sqlite.specs.Held.{state}
use Rattle.sqlite.specs.Order.{Row}
use Rattle.sqlite.specs.State.{Shown}
use Rattle.sqlite.specs.declared.types.Value.TheVariants.{Int, Blob}
use Rattle.x12_station.specs.Stored.{filed_in}
use Rattle.x12_tables.proofs.ReadLemmas.{answers_with}
use Rattle.x12_tables.specs.Party.{bytes_of_party}
use Rattle.x12_station_records.proofs.StationInboundLemmas.{filed_text, filed_asks, finds_filed, told_again}
use Rattle.x12_station_records.proofs.StationOneLemmas.{filed_once}
use Rattle.x12_station_records.specs.StationContent.{content_of}
use Rattle.x12_station_records.proofs.station_inbound.find_inbound.Goals as goal

pub read-requires : goal.read-requires
read-requires g c = filed_asks

pub returns : goal.returns
returns g c =
    answers_with _ _ _ c.filing_in.result (state g.S.Store c.args.conn.now) (state g.S.Store c.read.new.conn) c.read.ensures.reads c.in_ok-rows.ensures.answered c.filing_in.ensures (λ has is_open x told.
    let next = has.0 in
    let valid = has.1 in
    let partner = c.args.partner.now in
    let icn = c.args.icn in
    let old = state g.S.Store c.args.conn.now in
    let new = state g.S.Store c.read.new.conn in
    let s = content_of old.now.trees in
    let opened = c.read.ensures.reads.never_won_back is_open in
    let params : Row = Int (pos icn) ∷ Blob (bytes_of_party partner) ∷ [] in
    let rows = c.in_ok-rows.rows.items in
    let got : Shown filed_text params old new rows =
    rw (to_z-of_z w64 c.from.result (record { sfits = c.from.type_inv }), c.from.ensures, c.party_bytes-bytes.ensures.bytes) at (c.in_ok-rows.ensures.shown is_open) in
    told_again partner icn _ s (told (filed_in s partner icn) (c.deref.ensures.value ∙ finds_filed partner icn c.party_bytes-bytes.ensures.wide old new rows next.agreement s (filed_once s (valid.sound opened)) (valid.holds opened).has got)))
