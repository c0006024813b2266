use Rattle.std.proofs.Common.{sym, subst}
use Rattle.sqlite.specs.Held.{state}
use Rattle.x12_tables.proofs.FindsLemmas.{finds_tested, where_done}
use Rattle.x12_tables.proofs.TakesLemmas.{query_taken, takes_tested}
use Rattle.x12_tables.specs.Adopt.{ObeysSchema}
use Rattle.x12_tables.specs.declared.fault.TableFault.TheVariants.{Memory}
use Rattle.x12_hub_records.proofs.AdoptReads.{waiting_reads, finds_waiting}
use Rattle.x12_hub_records.proofs.HubTaken.{waiting_taken}
use Rattle.x12_hub_records.proofs.LoadLemmas.{waiting_asks}
use Rattle.x12_hub_records.specs.HubAdopt.{AreWaiting, FindsWaiting, HoldsHubFor}
use Rattle.x12_hub_records.specs.HubSchema.{hub_schema}
use Rattle.x12_hub_records.proofs.adopting.find_waiting.Goals as goal

pub look-requires : goal.look-requires
look-requires g c = waiting_asks

pub returns-clause-finds : goal.returns-clause-finds
returns-clause-finds g c =
    let old = state g.S.Store c.args.conn.now in
    let new = state g.S.Store c.look.new.conn in
    let rows = c.in_ok-rows.rows in
    let boxed = c.args.boxed.now in
    finds_tested (λ db rows. ObeysSchema hub_schema db) (λ db done. FindsWaiting boxed db) rows c.test_waiting.result old new c.in_ok-rows.ensures.ours
    (λ clean. where_done c.test_waiting.result _ _
    (λ are. finds_waiting old new (c.in_ok-rows.ensures.ours.found clean).0 rows.items (c.in_ok-rows.ensures.shown clean) boxed (subst (AreWaiting boxed 0) c.deref.ensures.value are))
    c.test_waiting.ensures.are)

pub returns-clause-taken : goal.returns-clause-taken
returns-clause-taken g c =
    let old = state g.S.Store c.args.conn.now in
    let new = state g.S.Store c.look.new.conn in
    let rows = c.in_ok-rows.rows in
    takes_tested (HoldsHubFor c.args.boxed.now) _ Memory c.test_waiting.result old new
    (λ clean such.
    let are = subst (λ os. AreWaiting os 0 rows.items) such.1 (waiting_taken old new such.0 rows.items (c.in_ok-rows.ensures.shown clean)) in
    subst (AreWaiting c.args.boxed.now 0) (sym c.deref.ensures.value) are) c.test_waiting.ensures.taken

pub returns-in_err-rows-clause-taken : goal.returns-in_err-rows-clause-taken
returns-in_err-rows-clause-taken g c =
    query_taken (HoldsHubFor c.args.boxed.now) hub_schema _ _ _ _ _ waiting_reads (state g.S.Store c.args.conn.now) (state g.S.Store c.look.new.conn) c.in_err-rows.field-0.0 c.from_residual.result c.from_residual.ensures.1 (λ such. such.0.holds.schema) c.in_err-rows.ensures.fails
