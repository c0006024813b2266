use Rattle.std.proofs.Common.{pos, [], ◌∷◌, ◌∙◌, ap, w64}
use Rattle.std.proofs.lemmas.Int.{to_z-of_z}
use Rattle.sqlite.specs.declared.types.Value.TheVariants.{Int}
use Rattle.sqlite.specs.Held.{state}
use Rattle.sqlite.specs.State.{Shown}
use Rattle.x12_tables.proofs.ReadLemmas.{answers_with}
use Rattle.x12_station_records.proofs.StationEntryLemmas.{head_text, head_asks, finds_head}
use Rattle.x12_station_records.specs.StationContent.{content_of}
use Rattle.x12_station_records.specs.StationEntries.{first_head}
use Rattle.x12_station_records.proofs.station_outbound.find_head.Goals as goal

pub read-requires : goal.read-requires
read-requires g c = head_asks

pub returns : goal.returns
returns g c =
    answers_with _ _ _ c.head_in_rows.result (state g.S.Store c.args.conn.now) (state g.S.Store c.read.new.conn) c.read.ensures.reads c.in_ok-rows.ensures.answered c.head_in_rows.ensures (λ has is_open x told.
    let next = has.0 in
    let valid = has.1 in
    let old = state g.S.Store c.args.conn.now in
    let new = state g.S.Store c.read.new.conn in
    let opened = c.read.ensures.reads.never_won_back is_open in
    let got : Shown head_text (Int (pos c.args.icn) ∷ []) old new c.in_ok-rows.rows.items = rw (to_z-of_z w64 c.from.result (record { sfits = c.from.type_inv }), c.from.ensures) at (c.in_ok-rows.ensures.shown is_open) in
    told ∙ ap first_head c.deref.ensures.value ∙ finds_head c.args.icn old new next.agreement c.in_ok-rows.rows.items (content_of old.now.trees) (valid.sound opened) (valid.holds opened).has got)
