use Rattle.sqlite.specs.Held.{state}
use Rattle.x12_tables.proofs.FindsLemmas.{finds_then}
use Rattle.x12_tables.proofs.TakesLemmas.{takes_then}
use Rattle.x12_tables.specs.declared.fault.TableFault.TheVariants.{Memory}
use Rattle.x12_hub_records.specs.HubAdopt.{FindsEntries, FindsItems, FindsHubRows, HoldsSoundHub, HoldsHubBy}
use Rattle.x12_hub_records.proofs.adopting.find_rows.Goals as goal

pub returns-clause-finds : goal.returns-clause-finds
returns-clause-finds g c =
    let second = state g.S.Store c.args.conn.now in
    let third = state g.S.Store c.find_items.new.conn in
    let fourth = state g.S.Store c.find_last_entry.new.conn in
    finds_then (λ db done. FindsItems c.args.numbers.now db) FindsEntries (FindsHubRows c.args.numbers.now) c.in_ok-find_items.field-0 c.find_last_entry.result second third fourth
    (λ last items entries. (items, entries)) c.in_ok-find_items.ensures.finds c.find_last_entry.ensures.finds

pub returns-clause-taken : goal.returns-clause-taken
returns-clause-taken g c =
    let second = state g.S.Store c.args.conn.now in
    let third = state g.S.Store c.find_items.new.conn in
    let fourth = state g.S.Store c.find_last_entry.new.conn in
    takes_then (λ db done. FindsItems c.args.numbers.now db) (HoldsHubBy c.args.numbers.now) HoldsSoundHub Memory c.in_ok-find_items.field-0 FindsEntries c.find_last_entry.result second third fourth
    (λ db items such. such.0) c.in_ok-find_items.ensures.finds c.find_last_entry.ensures.finds c.find_last_entry.ensures.taken
