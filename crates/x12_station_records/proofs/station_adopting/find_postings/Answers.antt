use Rattle.std.proofs.Common.{subst}
use Rattle.sqlite.specs.Held.{state}
use Rattle.x12_tables.proofs.FindsLemmas.{both_found, finds_tested}
use Rattle.x12_tables.proofs.TakesLemmas.{query_taken, takes_tested}
use Rattle.x12_tables.specs.Adopt.{ObeysSchema}
use Rattle.x12_tables.specs.declared.fault.TableFault.TheVariants.{Memory}
use Rattle.x12_station_records.proofs.StationAdoptReads.{posted_asks, finds_postings, posted_reads}
use Rattle.x12_station_records.proofs.StationTaken.{posted_taken}
use Rattle.x12_station_records.specs.StationAdopt.{ArePostings, FindsPostings}
use Rattle.x12_station_records.specs.StationSchema.{station_schema}
use Rattle.x12_station_records.specs.StationTaken.{HoldsStation}
use Rattle.std.proofs.lemmas.Result.{IfOk-weaker}
use Rattle.std.proofs.Common.{sym}
use Rattle.x12_station_records.proofs.station_adopting.find_postings.Goals as goal

pub look-requires : goal.look-requires
look-requires g c = posted_asks

pub returns-clause-finds : goal.returns-clause-finds
returns-clause-finds g c =
    let old = state g.S.Store c.args.conn.now in
    let new = state g.S.Store c.look.new.conn in
    let rows = c.in_ok-rows.rows in
    finds_tested (λ db rows. ObeysSchema station_schema db) (FindsPostings) rows c.next_posting.result old new c.in_ok-rows.ensures.ours
    (λ clean. IfOk-weaker c.next_posting.result _ _ (λ x are. finds_postings old new (c.in_ok-rows.ensures.ours.found clean).0 rows.items (c.in_ok-rows.ensures.shown clean) x (subst (ArePostings 1 x) c.deref.ensures.value are.0) are.1) (both_found c.next_posting.result _ _ c.next_posting.ensures.postings c.next_posting.ensures.few))

pub returns-clause-taken : goal.returns-clause-taken
returns-clause-taken g c =
    let old = state g.S.Store c.args.conn.now in
    let new = state g.S.Store c.look.new.conn in
    let rows = c.in_ok-rows.rows.items in
    takes_tested HoldsStation _ Memory c.next_posting.result old new
    (λ clean such. let got = posted_taken old new such rows (c.in_ok-rows.ensures.shown clean) in (got.0, subst (ArePostings 1 got.0) (sym c.deref.ensures.value) got.1)) c.next_posting.ensures.taken

pub returns-in_err-rows-clause-taken : goal.returns-in_err-rows-clause-taken
returns-in_err-rows-clause-taken g c =
    query_taken HoldsStation station_schema _ _ _ _ _ posted_reads (state g.S.Store c.args.conn.now) (state g.S.Store c.look.new.conn) c.in_err-rows.field-0.0 c.from_residual.result c.from_residual.ensures.1 (λ such. such.holds.has.schema) c.in_err-rows.ensures.fails
