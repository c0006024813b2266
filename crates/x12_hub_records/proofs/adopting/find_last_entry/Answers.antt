use Rattle.std.proofs.Common.{sym, subst}
use Rattle.sqlite.specs.Held.{state}
use Rattle.x12_tables.proofs.FindsLemmas.{finds_tested}
use Rattle.x12_tables.proofs.TakesLemmas.{query_taken, takes_tested}
use Rattle.x12_tables.specs.Adopt.{ObeysSchema}
use Rattle.x12_tables.specs.declared.fault.TableFault.TheVariants.{Memory}
use Rattle.x12_hub_records.proofs.AdoptReads.{entries_asks, entries_reads, finds_entries}
use Rattle.x12_hub_records.proofs.HubTaken.{entries_taken}
use Rattle.x12_hub_records.specs.HubAdopt.{AreEntries, FindsEntries, HoldsSoundHub}
use Rattle.x12_hub_records.specs.HubSchema.{hub_schema}
use Rattle.std.proofs.lemmas.Result.{IfOk-weaker}
use Rattle.x12_hub_records.proofs.adopting.find_last_entry.Goals as goal

pub look-requires : goal.look-requires
look-requires g c = entries_asks

pub returns-clause-finds : goal.returns-clause-finds
returns-clause-finds g c =
    let old = state g.S.Store c.args.conn.now in
    let new = state g.S.Store c.look.new.conn in
    let rows = c.in_ok-rows.rows in
    finds_tested (λ db rows. ObeysSchema hub_schema db) FindsEntries rows c.last_entry.result old new c.in_ok-rows.ensures.ours
    (λ clean. IfOk-weaker c.last_entry.result _ _ (λ x are. finds_entries old new (c.in_ok-rows.ensures.ours.found clean).0 rows.items (c.in_ok-rows.ensures.shown clean) x (subst (AreEntries 0 x) c.deref.ensures.value are)) c.last_entry.ensures.are)

pub returns-clause-taken : goal.returns-clause-taken
returns-clause-taken g c =
    let old = state g.S.Store c.args.conn.now in
    let new = state g.S.Store c.look.new.conn in
    takes_tested HoldsSoundHub _ Memory c.last_entry.result old new
    (λ clean such. let got = entries_taken old new such c.in_ok-rows.rows.items (c.in_ok-rows.ensures.shown clean) in (got.0, subst (AreEntries 0 got.0) (sym c.deref.ensures.value) got.1)) c.last_entry.ensures.taken

pub returns-in_err-rows-clause-taken : goal.returns-in_err-rows-clause-taken
returns-in_err-rows-clause-taken g c =
    query_taken HoldsSoundHub hub_schema _ _ _ _ _ entries_reads (state g.S.Store c.args.conn.now) (state g.S.Store c.look.new.conn) c.in_err-rows.field-0.0 c.from_residual.result c.from_residual.ensures.1 (λ such. such.holds.schema) c.in_err-rows.ensures.fails
