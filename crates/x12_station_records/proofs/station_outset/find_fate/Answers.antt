use Rattle.std.proofs.Common.{◌∙◌, pos, [], ◌∷◌, w64}
use Rattle.std.proofs.lemmas.Int.{to_z-of_z}
use Rattle.sqlite.specs.Held.{state}
use Rattle.sqlite.specs.Order.{Row}
use Rattle.sqlite.specs.State.{Shown}
use Rattle.sqlite.specs.declared.types.Value.TheVariants.{Int}
use Rattle.x12_acks.specs.Key.{key_view}
use Rattle.x12_station.specs.Stored.{stored_fate}
use Rattle.x12_tables.proofs.ReadLemmas.{answers_with}
use Rattle.x12_station_records.proofs.StationFindLemmas.{fate_text, fate_asks, finds_fate}
use Rattle.x12_station_records.proofs.StationOneLemmas.{sets_once}
use Rattle.x12_station_records.specs.StationContent.{content_of}
use Rattle.x12_station_records.proofs.station_outset.find_fate.Goals as goal

pub read-requires : goal.read-requires
read-requires g c = fate_asks

pub returns : goal.returns
returns g c =
    answers_with _ _ _ c.fate_in.result (state g.S.Store c.args.conn.now) (state g.S.Store c.read.new.conn) c.read.ensures.reads c.in_ok-rows.ensures.answered c.fate_in.ensures (λ has is_open x told.
    let next = has.0 in
    let valid = has.1 in
    let k = key_view c.args.key.now in
    let old = state g.S.Store c.args.conn.now in
    let new = state g.S.Store c.read.new.conn in
    let s = content_of old.now.trees in
    let opened = c.read.ensures.reads.never_won_back is_open in
    let params : Row = Int (pos k.icn) ∷ Int (pos k.group) ∷ Int (pos k.set) ∷ [] in
    let rows = c.in_ok-rows.rows.items in
    let got : Shown fate_text params old new rows =
    rw (to_z-of_z w64 c.from.result (record { sfits = c.from.type_inv }), c.from.ensures, to_z-of_z w64 c.from-2.result (record { sfits = c.from-2.type_inv }), c.from-2.ensures, to_z-of_z w64 c.from-3.result (record { sfits = c.from-3.type_inv }), c.from-3.ensures) at (c.in_ok-rows.ensures.shown is_open) in
    told (stored_fate s.sets k) (c.deref.ensures.value ∙ finds_fate old new k rows next.agreement s (sets_once s (valid.sound opened)) (valid.holds opened).has got))
