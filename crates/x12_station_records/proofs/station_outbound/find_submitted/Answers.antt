use Rattle.std.proofs.Common.{◌∙◌, ap, pos, [], ◌∷◌, w64, option_map}
use Rattle.std.proofs.lemmas.Int.{to_z-of_z}
use Rattle.sqlite.specs.Held.{state}
use Rattle.sqlite.specs.State.{Shown}
use Rattle.sqlite.specs.declared.types.Value.TheVariants.{Int}
use Rattle.x12_station.specs.Stored.{StoredSubmission}
use Rattle.x12_tables.proofs.FirstLemmas.{first_bytes, bytes_are_first}
use Rattle.x12_tables.proofs.ReadLemmas.{answers_with}
use Rattle.x12_station_records.proofs.FirstLemmas.{shown_first}
use Rattle.x12_station_records.proofs.StationItemLemmas.{sent_text, sent_asks, finds_sent}
use Rattle.x12_station_records.specs.StationContent.{content_of}
use Rattle.x12_station_records.specs.StationFinds.{asked_as, submission_numbered}
use Rattle.x12_station_records.proofs.station_outbound.find_submitted.Goals as goal

pub read-requires : goal.read-requires
read-requires g c = sent_asks

pub returns : goal.returns
returns g c =
    answers_with _ _ _ c.first_value.result (state g.S.Store c.args.conn.now) (state g.S.Store c.read.new.conn) c.read.ensures.reads c.in_ok-rows.ensures.answered c.first_value.ensures (λ has is_open x told.
    let next = has.0 in
    let valid = has.1 in
    let seq = c.args.seq in
    let old = state g.S.Store c.args.conn.now in
    let new = state g.S.Store c.read.new.conn in
    let s = content_of old.now.trees in
    let opened = c.read.ensures.reads.never_won_back is_open in
    let rows = c.in_ok-rows.rows.items in
    let got : Shown sent_text (Int (pos (asked_as seq)) ∷ []) old new rows = rw (to_z-of_z w64 c.key_asked.result (record { sfits = c.key_asked.type_inv }), c.key_asked.ensures) at (c.in_ok-rows.ensures.shown is_open) in
    bytes_are_first _ _ told ∙ ap first_bytes (c.deref.ensures.value ∙ finds_sent seq old new rows next.agreement s (valid.sound opened) (valid.holds opened).has got) ∙ shown_first (option_map (λ (r : StoredSubmission). r.bytes) (submission_numbered s seq)))
