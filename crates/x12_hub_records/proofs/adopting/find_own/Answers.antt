use Rattle.std.proofs.Common.{◌∙◌, Ok, ap, sym}
use Rattle.sqlite.specs.Held.{state}
use Rattle.x12_tables.proofs.FindsLemmas.{finds_tested}
use Rattle.x12_tables.proofs.TakesLemmas.{takes_failed, takes_never}
use Rattle.x12_tables.specs.Fault.{fault_of_table}
use Rattle.x12_tables.specs.declared.fault.TableFault.TheVariants.{Memory}
use Rattle.x12_hub_records.proofs.ContentLemmas.{numbers_are}
use Rattle.x12_hub_records.specs.HubAdopt.{FindsHubNumbers, FindsOwnHub, HoldsSoundHub, HoldsHubOf}
use Rattle.x12_hub_records.specs.declared.hub_numbers.HubNumbers.{HubNumbers}
use Rattle.x12_tables.specs.declared.fault.RecordsFault.TheVariants as fault
use Rattle.x12_hub_records.proofs.adopting.find_own.Goals as goal

pub returns-clause-finds : goal.returns-clause-finds
returns-clause-finds g c =
    let old = state g.S.Store c.args.conn.now in
    let new = state g.S.Store c.find_numbers.new.conn in
    let numbers = c.in_ok-numbers.numbers in
    finds_tested FindsHubNumbers (FindsOwnHub c.args.party.now) numbers (Ok numbers) old new c.in_ok-numbers.ensures.finds
    (λ clean. ((c.in_ok-numbers.ensures.finds.found clean).0, c.in_ok-test_party.ensures.same))

pub returns-in_err-numbers-clause-taken : goal.returns-in_err-numbers-clause-taken
returns-in_err-numbers-clause-taken g c =
    takes_failed (HoldsHubOf c.args.party.now) HoldsSoundHub Memory fault.Memory c.in_err-numbers.field-0.0 _ c.from_residual.result (state g.S.Store c.args.conn.now) (state g.S.Store c.find_numbers.new.conn) c.from_residual.ensures.1
    (λ f is memory. is ∙ ap fault_of_table memory) (λ such. such.0) c.in_err-numbers.ensures.taken

pub returns-in_err-test_party-clause-other : goal.returns-in_err-test_party-clause-other
returns-in_err-test_party-clause-other g c found wanted is clean own =
    let old = state g.S.Store c.args.conn.now in
    let n = c.in_ok-numbers.numbers in
    let said = numbers_are n (old.now.trees 5) (c.in_ok-numbers.ensures.finds.found clean).0.holds in
    c.in_err-test_party.ensures.other (sym (ap (λ (k : HubNumbers). k.party) said) ∙ own)

pub returns-in_err-test_party-clause-taken : goal.returns-in_err-test_party-clause-taken
returns-in_err-test_party-clause-taken g c =
    let old = state g.S.Store c.args.conn.now in
    let n = c.in_ok-numbers.numbers in
    takes_never (HoldsHubOf c.args.party.now) fault.Memory _ old (state g.S.Store c.find_numbers.new.conn)
    (λ clean such.
    let said = numbers_are n (old.now.trees 5) (c.in_ok-numbers.ensures.finds.found clean).0.holds in
    c.in_err-test_party.ensures.other (sym (ap (λ (k : HubNumbers). k.party) said) ∙ such.1))
