use Rattle.std.proofs.Common.{subst}
use Rattle.sqlite.specs.Held.{state}
use Rattle.x12_tables.proofs.FindsLemmas.{finds_tested}
use Rattle.x12_tables.proofs.TakesLemmas.{query_taken, takes_tested}
use Rattle.sqlite_disk.specs.Disk.{MoreFaults}
use Rattle.x12_tables.specs.Adopt.{ObeysSchema}
use Rattle.x12_tables.specs.OneRow.{IsOfOlder}
use Rattle.x12_tables.specs.declared.fault.TableFault.TheVariants.{Memory}
use Rattle.x12_station_records.proofs.StationAdoptReads.{finds_numbers, numbers_reads}
use Rattle.x12_station_records.proofs.StationNumberLemmas.{numbers_asks}
use Rattle.x12_station_records.proofs.StationOlder.{older_asked, older_found, older_shown, told_old}
use Rattle.x12_station_records.proofs.StationTaken.{numbers_taken}
use Rattle.x12_station_records.specs.StationAdopt.{AreLastNumbers, FindsNumbers}
use Rattle.x12_station_records.specs.StationSchema.{station_schema}
use Rattle.x12_station_records.specs.StationTaken.{HoldsStationFrom, IsOneNumbersRow}
use Rattle.std.proofs.lemmas.Result.{IfOk-weaker}
use Rattle.std.proofs.Common.{sym}
use Rattle.x12_station_records.proofs.station_adopting.find_numbers.Goals as goal

pub look-requires : goal.look-requires
look-requires g c = numbers_asks

pub returns-clause-finds : goal.returns-clause-finds
returns-clause-finds g c =
    let old = state g.S.Store c.args.conn.now in
    let new = state g.S.Store c.look.new.conn in
    let rows = c.in_ok-rows.rows in
    finds_tested (λ db rows. ObeysSchema station_schema db) (FindsNumbers c.args.oldest) rows c.numbers_in_rows.result old new c.in_ok-rows.ensures.ours
    (λ clean. IfOk-weaker c.numbers_in_rows.result _ _ (λ x are. finds_numbers old new (c.in_ok-rows.ensures.ours.found clean).0 rows.items (c.in_ok-rows.ensures.shown clean) c.args.oldest x (subst (AreLastNumbers c.args.oldest x) c.deref.ensures.value are)) c.numbers_in_rows.ensures.are)

pub returns-clause-taken : goal.returns-clause-taken
returns-clause-taken g c =
    let old = state g.S.Store c.args.conn.now in
    let new = state g.S.Store c.look.new.conn in
    let rows = c.in_ok-rows.rows.items in
    takes_tested (HoldsStationFrom c.args.oldest) _ Memory c.numbers_in_rows.result old new
    (λ clean such. subst (IsOneNumbersRow c.args.oldest) (sym c.deref.ensures.value) (numbers_taken old new such.0 rows c.args.oldest (such.1, such.2) (c.in_ok-rows.ensures.shown clean))) c.numbers_in_rows.ensures.taken

pub returns-in_err-rows-clause-taken : goal.returns-in_err-rows-clause-taken
returns-in_err-rows-clause-taken g c =
    query_taken (HoldsStationFrom c.args.oldest) station_schema _ _ _ _ _ numbers_reads (state g.S.Store c.args.conn.now) (state g.S.Store c.look.new.conn) c.in_err-rows.field-0.0 c.from_residual.result c.from_residual.ensures.1 (λ such. such.0.holds.has.schema) c.in_err-rows.ensures.fails

pub returns-clause-older : goal.returns-clause-older
returns-clause-older g c =
    let old = state g.S.Store c.args.conn.now in
    let new = state g.S.Store c.look.new.conn in
    let rows = c.in_ok-rows.rows.items in
    let ours = c.in_ok-rows.ensures.ours in
    record {
      only = λ clean was is. older_found c.args.oldest was old new (ours.found clean).0.schema_is rows (c.in_ok-rows.ensures.shown clean) (subst (IsOfOlder c.args.oldest was) c.deref.ensures.value (c.numbers_in_rows.ensures.only was is));
      older = λ clean ready was o. told_old was c.numbers_in_rows.result (MoreFaults old.faults new.faults) (c.numbers_in_rows.ensures.older was (subst (IsOfOlder c.args.oldest was) (sym c.deref.ensures.value) (older_shown c.args.oldest was old new o.schema rows (c.in_ok-rows.ensures.shown clean) o)));
    }

pub returns-in_err-rows-clause-older : goal.returns-in_err-rows-clause-older
returns-in_err-rows-clause-older g c =
    older_asked c.args.oldest (state g.S.Store c.args.conn.now) (state g.S.Store c.look.new.conn) c.in_err-rows.field-0.0 c.from_residual.result c.from_residual.ensures.1 c.in_err-rows.ensures.known c.in_err-rows.ensures.fails
