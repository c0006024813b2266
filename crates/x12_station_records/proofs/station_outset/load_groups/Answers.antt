use Rattle.std.proofs.Common.{pos, [], ◌∷◌, ◌∙◌, ap, map, w64}
use Rattle.std.proofs.lemmas.Int.{to_z-of_z}
use Rattle.sqlite.specs.declared.types.Value.TheVariants.{Int}
use Rattle.sqlite.specs.Held.{state}
use Rattle.sqlite.specs.State.{Shown}
use Rattle.x12_tables.proofs.ReadLemmas.{answers_with}
use Rattle.x12_station_records.proofs.StationEntryLemmas.{sets_text, sets_asks, loads_sets}
use Rattle.x12_station_records.specs.StationContent.{content_of}
use Rattle.x12_station_records.specs.StationGroups.{set_shown}
use Rattle.x12_station_records.proofs.station_outset.load_groups.Goals as goal

pub read-requires : goal.read-requires
read-requires g c = sets_asks

pub returns-clause-answers : goal.returns-clause-answers
returns-clause-answers g c =
    answers_with _ _ _ c.groups_in_rows.result (state g.S.Store c.args.conn.now) (state g.S.Store c.read.new.conn) c.read.ensures.reads c.in_ok-rows.ensures.answered c.groups_in_rows.ensures.groups (λ has is_open x told.
    let next = has.0 in
    let valid = has.1 in
    let icn = c.args.icn in
    let old = state g.S.Store c.args.conn.now in
    let new = state g.S.Store c.read.new.conn in
    let got : Shown sets_text (Int (pos icn) ∷ []) old new c.in_ok-rows.rows.items = rw (to_z-of_z w64 c.from.result (record { sfits = c.from.type_inv }), c.from.ensures) at (c.in_ok-rows.ensures.shown is_open) in
    told icn ∙ ap (map (set_shown icn)) c.deref.ensures.value ∙ loads_sets icn old new next.agreement c.in_ok-rows.rows.items (content_of old.now.trees) (valid.holds (c.read.ensures.reads.never_won_back is_open)).has got)
