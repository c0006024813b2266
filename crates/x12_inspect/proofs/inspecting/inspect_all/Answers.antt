use Rattle.std.proofs.Common.{true, false}
use Rattle.x12_envelopes.specs.Writing.{texts}
use Rattle.x12_inspect.proofs.InspectingLemmas.{transmission_inspected, transmission_asked, none_inspected, none_asked, emptiness}
use Rattle.x12_inspect.proofs.inspecting.inspect_all.Goals as goal

pub returns-then-is_empty-clause-ends : goal.returns-then-is_empty-clause-ends
returns-then-is_empty-clause-ends g c =
    none_inspected (g.I.Inspector.all_right c.args.inspector.now) c.args.input.now (texts c.in_ok-interchanges.interchanges.items)
    c.in_ok-interchanges.ensures.slices
    (emptiness c.in_ok-interchanges.interchanges.items c.as_slice-slices.result.now c.is_empty.result true c.as_slice-slices.ensures.value c.is_empty.ensures c.if-is_empty.true)

pub returns-then-is_empty-clause-asked : goal.returns-then-is_empty-clause-asked
returns-then-is_empty-clause-asked g c =
    none_asked (λ interchanges. g.I.Inspector.asked c.args.inspector.now interchanges c.args.inspector.now) c.args.input.now (texts c.in_ok-interchanges.interchanges.items)
    c.in_ok-interchanges.ensures.slices
    (emptiness c.in_ok-interchanges.interchanges.items c.as_slice-slices.result.now c.is_empty.result true c.as_slice-slices.ensures.value c.is_empty.ensures c.if-is_empty.true)
    (g.met.I.Inspector.at_last c.args.inspector.now)

pub returns-clause-ends : goal.returns-clause-ends
returns-clause-ends g c =
    transmission_inspected (g.I.Inspector.all_right c.args.inspector.now) c.args.input.now (texts c.in_ok-interchanges.interchanges.items) c.inspect_each.result
    c.in_ok-interchanges.ensures.slices
    (emptiness c.in_ok-interchanges.interchanges.items c.as_slice-slices.result.now c.is_empty.result false c.as_slice-slices.ensures.value c.is_empty.ensures c.if-is_empty.false)
    (rw c.as_slice-slices.ensures.value at c.inspect_each.ensures.ends)

pub returns-clause-asked : goal.returns-clause-asked
returns-clause-asked g c =
    transmission_asked (λ interchanges. g.I.Inspector.asked c.args.inspector.now interchanges c.inspect_each.new.inspector) c.args.input.now (texts c.in_ok-interchanges.interchanges.items) c.inspect_each.result
    c.in_ok-interchanges.ensures.slices
    (rw c.as_slice-slices.ensures.value at c.inspect_each.ensures.asked)
