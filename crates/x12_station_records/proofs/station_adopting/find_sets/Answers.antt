use Rattle.std.proofs.Common.{ℕ, map, subst}
use Rattle.sqlite.specs.Held.{state}
use Rattle.x12_tables.proofs.FindsLemmas.{finds_tested, two_found}
use Rattle.x12_tables.proofs.TakesLemmas.{query_taken, takes_tested}
use Rattle.x12_tables.specs.Adopt.{ObeysSchema}
use Rattle.x12_tables.specs.declared.fault.TableFault.TheVariants.{Memory}
use Rattle.x12_station_records.proofs.StationAdoptReads.{sets_asks, finds_sets, sets_reads}
use Rattle.x12_station_records.proofs.StationSetsTaken.{sets_taken}
use Rattle.x12_station_records.specs.StationAdopt.{AreSetRows, AreOfAll, set_read, FindsSets}
use Rattle.x12_station_records.specs.StationContent.{content_of}
use Rattle.x12_station_records.specs.StationSchema.{station_schema}
use Rattle.x12_station_records.specs.StationTaken.{HoldsSubmitted, AreRowsOfAll}
use Rattle.std.proofs.lemmas.Result.{IfOk-weaker}
use Rattle.std.proofs.Common.{sym}
use Rattle.x12_station.specs.Stored.{StoredSubmission}
use Rattle.x12_station_records.proofs.station_adopting.find_sets.Goals as goal

pub look-requires : goal.look-requires
look-requires g c = sets_asks

pub returns-clause-finds : goal.returns-clause-finds
returns-clause-finds g c =
    let old = state g.S.Store c.args.conn.now in
    let new = state g.S.Store c.look.new.conn in
    let rows = c.in_ok-rows.rows in
    let icns = map (λ (x : ℕ × ℕ). x.0) c.args.sent.now in
    finds_tested (λ db rows. ObeysSchema station_schema db) (FindsSets c.args.book icns) rows c.next_set_of.result old new c.in_ok-rows.ensures.ours
    (λ clean. IfOk-weaker c.next_set_of.result _ _ (λ x are. finds_sets old new (c.in_ok-rows.ensures.ours.found clean).0 rows.items (c.in_ok-rows.ensures.shown clean) c.args.book icns x
    (subst (AreSetRows 1 x) c.deref.ensures.value are.0) (subst (λ rs. AreOfAll c.args.book 0 icns (map set_read rs)) c.deref.ensures.value are.1)) (two_found c.next_set_of.result _ _ c.next_set_of.ensures.sets c.next_set_of.ensures.sent))

pub returns-clause-taken : goal.returns-clause-taken
returns-clause-taken g c =
    let old = state g.S.Store c.args.conn.now in
    let new = state g.S.Store c.look.new.conn in
    let rows = c.in_ok-rows.rows.items in
    takes_tested (HoldsSubmitted c.args.book (map (λ (x : ℕ × ℕ). x.0) c.args.sent.now)) _ Memory c.next_set_of.result old new
    (λ clean such. let got = sets_taken old new such.0.0 rows (c.in_ok-rows.ensures.shown clean) in (got.0, subst (AreSetRows 1 got.0) (sym c.deref.ensures.value) got.1, subst (AreRowsOfAll c.args.book (map (λ (x : ℕ × ℕ). x.0) c.args.sent.now)) (sym c.deref.ensures.value) (subst (λ icns. AreRowsOfAll c.args.book icns rows) such.1 (subst (λ book. AreRowsOfAll book (map (λ (r : StoredSubmission). r.icn) (content_of old.now.trees).submitted) rows) such.0.1 got.2)))) c.next_set_of.ensures.taken

pub returns-in_err-rows-clause-taken : goal.returns-in_err-rows-clause-taken
returns-in_err-rows-clause-taken g c =
    query_taken (HoldsSubmitted c.args.book (map (λ (x : ℕ × ℕ). x.0) c.args.sent.now)) station_schema _ _ _ _ _ sets_reads (state g.S.Store c.args.conn.now) (state g.S.Store c.look.new.conn) c.in_err-rows.field-0.0 c.from_residual.result c.from_residual.ensures.1 (λ such. such.0.0.holds.has.schema) c.in_err-rows.ensures.fails
