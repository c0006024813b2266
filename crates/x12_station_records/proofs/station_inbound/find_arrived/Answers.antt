use Rattle.std.proofs.Common.{◌∙◌, ap, pos, [], ◌∷◌, w64, option_map}
use Rattle.std.proofs.lemmas.Int.{to_z-of_z}
use Rattle.sqlite.specs.Held.{state}
use Rattle.sqlite.specs.State.{Shown}
use Rattle.sqlite.specs.declared.types.Value.TheVariants.{Int}
use Rattle.x12_station.specs.Stored.{StoredArrival, marks_of}
use Rattle.x12_station_records.proofs.StationItemLemmas.{came_text, came_asks, finds_came, arrived_item}
use Rattle.x12_station_records.specs.StationContent.{content_of}
use Rattle.x12_station_records.specs.StationFinds.{asked_as, arrival_numbered, item_kept}
use Rattle.x12_station_records.proofs.station_inbound.find_arrived.Goals as goal

pub read-requires : goal.read-requires
read-requires g c = came_asks

pub returns : goal.returns
returns g c = record {
  reads = c.read.ensures.reads;
  answered = c.in_ok-rows.ensures.answered;
  found = λ has is_open.
      let seq = c.args.seq in
      let valid = has.1 in
      let old = state g.S.Store c.args.conn.now in
      let new = state g.S.Store c.read.new.conn in
      let s = content_of old.now.trees in
      let opened = c.read.ensures.reads.never_won_back is_open in
      let rows = c.in_ok-rows.rows.items in
      let found = arrival_numbered s seq in
      let marks = marks_of s.origin in
      let got : Shown came_text (Int (pos (asked_as seq)) ∷ []) old new rows = rw (to_z-of_z w64 c.key_asked.result (record { sfits = c.key_asked.type_inv }), c.key_asked.ensures) at (c.in_ok-rows.ensures.shown is_open) in
      let kept = c.in_ok-filing_in.ensures (option_map (λ (r : StoredArrival). r.filed) found) (c.deref.ensures.value ∙ finds_came seq old new rows has.0.agreement s (valid.sound opened) (valid.holds opened).has got) in
      c.item_of.ensures marks seq ∙ ap (option_map (item_kept marks seq)) kept ∙ arrived_item marks seq found;
}
