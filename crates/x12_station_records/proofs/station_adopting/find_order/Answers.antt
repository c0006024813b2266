use Rattle.std.proofs.Common.{◌++◌, ℕ, map, subst, IsPermutation}
use Rattle.std.specs.List.{range_with_len}
use Rattle.sqlite.specs.Held.{state}
use Rattle.x12_tables.proofs.FindsLemmas.{finds_tested, where_done}
use Rattle.x12_tables.proofs.TakesLemmas.{takes_failed, takes_tested}
use Rattle.x12_tables.specs.declared.fault.TableFault.TheVariants.{Memory}
use Rattle.x12_station_records.proofs.StationFoundLemmas.{order_found}
use Rattle.x12_station_records.proofs.StationOrderTaken.{sound_in_turn}
use Rattle.x12_station_records.specs.StationAdopt.{FindsArrived, FindsOrder}
use Rattle.x12_station_records.specs.StationContent.{content_of}
use Rattle.x12_station_records.specs.StationTaken.{HoldsStation, HoldsInTurn, AreInTurn}
use Rattle.std.proofs.Common.{◌∙◌, sym}
use Rattle.x12_station.specs.Stored.{Stored, StoredSubmission, StoredArrival}
use Rattle.x12_station_records.proofs.station_adopting.find_order.Goals as goal

pub returns-clause-finds : goal.returns-clause-finds
returns-clause-finds g c =
    let old = state g.S.Store c.args.conn.now in
    let new = state g.S.Store c.find_arrived.new.conn in
    let arrived = c.in_ok-arrived.arrived in
    let last = c.args.last in
    let others = map (λ (x : ℕ × ℕ). x.1) c.args.sent.now in
    finds_tested (λ db seqs. FindsArrived db seqs.items) (λ db done. FindsOrder last others db) arrived c.test_order.result old new c.in_ok-arrived.ensures.finds
    (λ clean. where_done c.test_order.result _ _ (λ each. order_found old.now last others arrived.items (c.in_ok-arrived.ensures.finds.found clean).0 (subst (λ xs. IsPermutation (range_with_len 1 last) (others ++ xs)) c.deref.ensures.value each)) c.test_order.ensures.each)

pub returns-clause-taken : goal.returns-clause-taken
returns-clause-taken g c =
    let old = state g.S.Store c.args.conn.now in
    let new = state g.S.Store c.find_arrived.new.conn in
    let arrived = c.in_ok-arrived.arrived.items in
    let others = map (λ (x : ℕ × ℕ). x.1) c.args.sent.now in
    let kept : Stored = content_of old.now.trees in
    takes_tested (HoldsInTurn c.args.last others) _ Memory c.test_order.result old new
    (λ clean such.
    let turn = sound_in_turn kept such.0.sound in
    let counted = subst (λ n. AreInTurn n 1 (map (λ (r : StoredSubmission). r.seq) kept.submitted) (map (λ (r : StoredArrival). r.seq) kept.arrived)) such.1 turn in
    let sent = subst (λ xs. AreInTurn c.args.last 1 xs (map (λ (r : StoredArrival). r.seq) kept.arrived)) such.2 counted in
    let came = subst (AreInTurn c.args.last 1 others) (c.in_ok-arrived.ensures.finds.found clean).0.seqs_are sent in
    subst (AreInTurn c.args.last 1 others) (sym c.deref.ensures.value) came) c.test_order.ensures.taken

pub returns-in_err-arrived-clause-taken : goal.returns-in_err-arrived-clause-taken
returns-in_err-arrived-clause-taken g c =
    takes_failed (HoldsInTurn c.args.last (map (λ (x : ℕ × ℕ). x.1) c.args.sent.now)) HoldsStation Memory Memory c.in_err-arrived.field-0.0 _ c.from_residual.result (state g.S.Store c.args.conn.now) (state g.S.Store c.find_arrived.new.conn) c.from_residual.ensures.1
    (λ f is memory. is ∙ memory) (λ such. such.0) c.in_err-arrived.ensures.taken
