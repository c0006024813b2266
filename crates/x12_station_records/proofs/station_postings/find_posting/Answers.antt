use Rattle.std.proofs.Common.{◌∙◌, ap, pos, [], ◌∷◌, w64, option_map, slice_get}
use Rattle.std.proofs.lemmas.Int.{to_z-of_z}
use Rattle.sqlite.specs.Held.{state}
use Rattle.sqlite.specs.State.{Shown}
use Rattle.sqlite.specs.declared.types.Value.TheVariants.{Int}
use Rattle.x12_tables.proofs.ReadLemmas.{answers_with}
use Rattle.x12_station_records.proofs.StationPostedLemmas.{place_text, place_asks, finds_placed}
use Rattle.x12_station_records.specs.StationContent.{content_of}
use Rattle.x12_station_records.specs.StationFinds.{asked_as}
use Rattle.x12_station_records.specs.StationPostings.{posting_shown}
use Rattle.x12_station_records.proofs.station_postings.find_posting.Goals as goal

pub read-requires : goal.read-requires
read-requires g c = place_asks

pub returns : goal.returns
returns g c =
    answers_with _ _ _ c.posting_in_rows.result (state g.S.Store c.args.conn.now) (state g.S.Store c.read.new.conn) c.read.ensures.reads c.in_ok-rows.ensures.answered c.posting_in_rows.ensures (λ has is_open x told.
    let next = has.0 in
    let valid = has.1 in
    let at = c.args.at in
    let old = state g.S.Store c.args.conn.now in
    let new = state g.S.Store c.read.new.conn in
    let opened = c.read.ensures.reads.never_won_back is_open in
    let rows = c.in_ok-rows.rows.items in
    let got : Shown place_text (Int (pos (asked_as at)) ∷ []) old new rows = rw (to_z-of_z w64 c.key_asked.result (record { sfits = c.key_asked.type_inv }), c.key_asked.ensures) at (c.in_ok-rows.ensures.shown is_open) in
    told ∙ ap (λ rs. option_map posting_shown (slice_get rs 0)) c.deref.ensures.value ∙ finds_placed at old new rows next.agreement (content_of old.now.trees) (valid.holds opened).has got)
