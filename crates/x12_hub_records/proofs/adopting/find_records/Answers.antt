use Rattle.std.proofs.Common.{◌∙◌, Ok, ap}
use Rattle.sqlite.specs.Held.{state}
use Rattle.x12_tables.proofs.FindsLemmas.{finds_then, finds_tested}
use Rattle.x12_tables.proofs.TakesLemmas.{takes_second}
use Rattle.x12_tables.specs.Fault.{fault_of_table}
use Rattle.x12_tables.specs.declared.fault.TableFault.TheVariants.{Memory}
use Rattle.x12_hub_records.proofs.ContentLemmas.{numbers_are}
use Rattle.x12_hub_records.proofs.RecordsFound.{records_found}
use Rattle.x12_hub_records.specs.HubAdopt.{FindsOwnHub, FindsHubRows, FindsHubRecords, HoldsHubOf, HoldsHubBy}
use Rattle.x12_tables.specs.declared.fault.RecordsFault.TheVariants as fault
use Rattle.x12_hub_records.proofs.adopting.find_records.Goals as goal

pub returns-clause-finds : goal.returns-clause-finds
returns-clause-finds g c =
    let first = state g.S.Store c.args.conn.now in
    let second = state g.S.Store c.find_own.new.conn in
    let third = state g.S.Store c.find_rows.new.conn in
    let party = c.args.party.now in
    let n = c.in_ok-numbers.numbers in
    let last = c.in_ok-find_rows.field-0 in
    let all = finds_then (FindsOwnHub party) (FindsHubRows n) (FindsHubRecords party) n (Ok last) first second third
    (λ last own both. records_found first.now party n last own both.0 both.1) c.in_ok-numbers.ensures.finds c.in_ok-find_rows.ensures.finds in
    finds_tested (FindsHubRecords party) (FindsHubRecords party) last (Ok last) first third all (λ clean. (all.found clean).0)

pub returns-in_err-find_rows-clause-taken : goal.returns-in_err-find_rows-clause-taken
returns-in_err-find_rows-clause-taken g c =
    let first = state g.S.Store c.args.conn.now in
    let second = state g.S.Store c.find_own.new.conn in
    let third = state g.S.Store c.find_rows.new.conn in
    let party = c.args.party.now in
    let n = c.in_ok-numbers.numbers in
    takes_second (FindsOwnHub party) (HoldsHubOf party) (HoldsHubBy n) Memory fault.Memory n (FindsHubRows n) c.in_err-find_rows.field-0.0 _ c.from_residual-in_err-find_rows.result first second third c.from_residual-in_err-find_rows.ensures.1
    (λ f is memory. is ∙ ap fault_of_table memory) (λ db own such. (such.0, numbers_are n (db.trees 5) own.0.holds)) c.in_ok-numbers.ensures.finds c.in_err-find_rows.ensures.finds c.in_err-find_rows.ensures.taken
