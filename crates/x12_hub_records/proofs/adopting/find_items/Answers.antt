use Rattle.std.proofs.Common.{◌≡◌, ◌∙◌, length, rules, sym, subst}
use Rattle.std.specs.Prelude.{is_none}
use Rattle.std.specs.List.{count_by}
use Rattle.sqlite.specs.Held.{state}
use Rattle.x12_tables.proofs.FindsLemmas.{finds_then}
use Rattle.x12_tables.proofs.TakesLemmas.{takes_then, takes_failed, takes_never}
use Rattle.x12_tables.specs.declared.fault.TableFault.TheVariants.{Memory}
use Rattle.x12_hub_records.proofs.HubTaken.{as_many}
use Rattle.x12_hub_records.proofs.RecordsFound.{items_found}
use Rattle.x12_hub_records.specs.HubAdopt.{FindsDecided, FindsWaiting, FindsItems, HoldsSoundHub, HoldsHubBy, HoldsHubFor}
use Rattle.x12_hub_records.proofs.adopting.find_items.Goals as goal

pub returns-clause-finds : goal.returns-clause-finds
returns-clause-finds g c =
    let first = state g.S.Store c.args.conn.now in
    let second = state g.S.Store c.find_boxed_nodes.new.conn in
    let third = state g.S.Store c.find_waiting.new.conn in
    let boxed = c.in_ok-boxed.boxed in
    let nodes = c.deref-2.result.now in
    let numbers = c.args.numbers.now in
    let many : length boxed.items ≡ numbers.item = search rules in
    let few : count_by is_none boxed.items ≡ numbers.icn = search rules in
    finds_then (λ db nodes. FindsDecided db nodes.items) (λ db done. FindsWaiting nodes db) (λ db done. FindsItems numbers db) boxed c.find_waiting.result first second third
    (λ done d w. items_found first.now numbers boxed.items d many few (subst (λ os. FindsWaiting os first.now) c.deref-2.ensures.value w)) c.in_ok-boxed.ensures.finds c.find_waiting.ensures.finds

pub returns-clause-taken : goal.returns-clause-taken
returns-clause-taken g c =
    let first = state g.S.Store c.args.conn.now in
    let second = state g.S.Store c.find_boxed_nodes.new.conn in
    let third = state g.S.Store c.find_waiting.new.conn in
    let boxed = c.in_ok-boxed.boxed in
    let nodes = c.deref-2.result.now in
    takes_then (λ db nodes. FindsDecided db nodes.items) (HoldsHubBy c.args.numbers.now) (HoldsHubFor nodes) Memory boxed (λ db done. FindsWaiting nodes db) c.find_waiting.result first second third
    (λ db d such. (such.0, d.boxed ∙ sym c.deref-2.ensures.value)) c.in_ok-boxed.ensures.finds c.find_waiting.ensures.finds c.find_waiting.ensures.taken

pub returns-in_err-boxed-clause-taken : goal.returns-in_err-boxed-clause-taken
returns-in_err-boxed-clause-taken g c =
    takes_failed (HoldsHubBy c.args.numbers.now) HoldsSoundHub Memory Memory c.in_err-boxed.field-0.0 _ c.from_residual.result (state g.S.Store c.args.conn.now) (state g.S.Store c.find_boxed_nodes.new.conn) c.from_residual.ensures.1 (λ f is memory. is ∙ memory)
    (λ such. such.0) c.in_err-boxed.ensures.taken

pub returns-then-refusal_count-numbers-clause-taken : goal.returns-then-refusal_count-numbers-clause-taken
returns-then-refusal_count-numbers-clause-taken g c =
    let first = state g.S.Store c.args.conn.now in
    let boxed = c.in_ok-boxed.boxed in
    let numbers = c.args.numbers.now in
    takes_never (HoldsHubBy numbers) Memory _ first (state g.S.Store c.find_boxed_nodes.new.conn)
    (λ clean such. let few : count_by is_none boxed.items ≡ numbers.icn = (as_many first.now numbers boxed.items (c.in_ok-boxed.ensures.finds.found clean).0 such).1 in search rules)
