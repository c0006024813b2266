use Rattle.std.proofs.Common.{◌∙◌, ap, pos, [], ◌∷◌, w64}
use Rattle.std.proofs.lemmas.Int.{to_z-of_z}
use Rattle.sqlite.specs.Held.{state}
use Rattle.sqlite.specs.State.{Shown}
use Rattle.sqlite.specs.declared.types.Value.TheVariants.{Int}
use Rattle.x12_station.specs.Stored.{submitted_bytes}
use Rattle.x12_tables.proofs.FirstLemmas.{first_bytes, bytes_are_first}
use Rattle.x12_tables.proofs.ReadLemmas.{answers_with}
use Rattle.x12_station_records.proofs.FirstLemmas.{shown_first}
use Rattle.x12_station_records.proofs.StationOutboundLemmas.{bytes_text, bytes_asks, finds_bytes}
use Rattle.x12_station_records.proofs.StationSoundLemmas.{submitted_once}
use Rattle.x12_station_records.specs.StationContent.{content_of}
use Rattle.x12_station_records.proofs.station_outbound.find_outbound.Goals as goal

pub read-requires : goal.read-requires
read-requires g c = bytes_asks

pub returns : goal.returns
returns g c =
    answers_with _ _ _ c.first_value.result (state g.S.Store c.args.conn.now) (state g.S.Store c.read.new.conn) c.read.ensures.reads c.in_ok-rows.ensures.answered c.first_value.ensures (λ has is_open x told.
    let next = has.0 in
    let valid = has.1 in
    let icn = c.args.icn in
    let old = state g.S.Store c.args.conn.now in
    let new = state g.S.Store c.read.new.conn in
    let s = content_of old.now.trees in
    let opened = c.read.ensures.reads.never_won_back is_open in
    let rows = c.in_ok-rows.rows.items in
    let got : Shown bytes_text (Int (pos icn) ∷ []) old new rows = rw (to_z-of_z w64 c.from.result (record { sfits = c.from.type_inv }), c.from.ensures) at (c.in_ok-rows.ensures.shown is_open) in
    bytes_are_first _ _ told ∙ ap first_bytes (c.deref.ensures.value ∙ finds_bytes icn old new rows next.agreement s (submitted_once s (valid.sound opened)) (valid.holds opened).has got) ∙ shown_first (submitted_bytes s icn))
