use Rattle.std.proofs.Common.{subst}
use Rattle.sqlite.specs.Held.{state}
use Rattle.x12_tables.proofs.FindsLemmas.{finds_tested}
use Rattle.x12_tables.proofs.TakesLemmas.{query_taken, takes_tested}
use Rattle.x12_tables.specs.Adopt.{ObeysSchema}
use Rattle.x12_tables.specs.declared.fault.TableFault.TheVariants.{Memory}
use Rattle.x12_station_records.proofs.StationAdoptReads.{sent_asks, finds_submitted, sent_reads}
use Rattle.x12_station_records.proofs.StationTaken.{sent_taken}
use Rattle.x12_station_records.specs.StationAdopt.{AreSubmissions, FindsSubmitted, IsSubmission}
use Rattle.x12_station_records.specs.StationSchema.{station_schema}
use Rattle.x12_station_records.specs.StationTaken.{HoldsBooked, AreChained}
use Rattle.std.proofs.lemmas.Result.{IfOk-weaker}
use Rattle.std.proofs.Common.{sym}
use Rattle.x12_station_records.proofs.station_adopting.find_submitted.Goals as goal

pub look-requires : goal.look-requires
look-requires g c = sent_asks

pub returns-clause-finds : goal.returns-clause-finds
returns-clause-finds g c =
    let old = state g.S.Store c.args.conn.now in
    let new = state g.S.Store c.look.new.conn in
    let rows = c.in_ok-rows.rows in
    finds_tested (λ db rows. ObeysSchema station_schema db) (λ db sent. FindsSubmitted c.args.book db sent.items) rows c.submissions_in_rows.result old new c.in_ok-rows.ensures.ours
    (λ clean. IfOk-weaker c.submissions_in_rows.result _ _ (λ x are. finds_submitted old new (c.in_ok-rows.ensures.ours.found clean).0 rows.items (c.in_ok-rows.ensures.shown clean) c.args.book x.items (subst (AreSubmissions c.args.book (0, 0) x.items) c.deref.ensures.value are)) c.submissions_in_rows.ensures.are)

pub returns-clause-taken : goal.returns-clause-taken
returns-clause-taken g c =
    let old = state g.S.Store c.args.conn.now in
    let new = state g.S.Store c.look.new.conn in
    let rows = c.in_ok-rows.rows.items in
    takes_tested (HoldsBooked c.args.book) _ Memory c.submissions_in_rows.result old new
    (λ clean such. subst (AreChained (IsSubmission c.args.book) (0, 0)) (sym c.deref.ensures.value) (subst (λ book. AreChained (IsSubmission book) (0, 0) rows) such.1 (sent_taken old new such.0 rows (c.in_ok-rows.ensures.shown clean)))) c.submissions_in_rows.ensures.taken

pub returns-in_err-rows-clause-taken : goal.returns-in_err-rows-clause-taken
returns-in_err-rows-clause-taken g c =
    query_taken (HoldsBooked c.args.book) station_schema _ _ _ _ _ sent_reads (state g.S.Store c.args.conn.now) (state g.S.Store c.look.new.conn) c.in_err-rows.field-0.0 c.from_residual.result c.from_residual.ensures.1 (λ such. such.0.holds.has.schema) c.in_err-rows.ensures.fails
