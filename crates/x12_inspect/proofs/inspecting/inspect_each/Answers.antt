use Rattle.std.proofs.Common.{refl, [], ◌+◌, drop}
use Rattle.x12_envelopes.specs.Writing.{texts}
use Rattle.x12_segments.proofs.TextsLemmas.{texts_left, texts_done}
use Rattle.x12_inspect.proofs.InspectingLemmas.{right_so_far, right_at_last}
use Rattle.x12_inspect.proofs.inspecting.inspect_each.Goals as goal

pub loop-index-init : goal.loop-index-init
loop-index-init g c = record { right = refl; asked = λ last was. was }

pub loop-index-preserved : goal.loop-index-preserved
loop-index-preserved g c =
    let held = c.loop-index.invariant in
    let one = texts_left c.loop-index.index c.args.interchanges.now (record { ref_ptr = (0, 0); now = [] }) c.loop-index-test.true in
    record {
      right = right_so_far _ _ _ _ _ _ (c.in_ok-right.ensures.right _) (rw one at held.right) refl;
      asked = λ last was. (rw one at held.asked) last (c.in_ok-right.ensures.asked (texts (drop (c.loop-index.index + 1) c.args.interchanges.now)) last was);
    }

pub returns-clause-ends : goal.returns-clause-ends
returns-clause-ends g c =
    let over = texts_done c.loop-index.index c.args.interchanges.now c.loop-index-test.false in
    right_at_last _ _ _ c.of.ensures (rw (g.met.I.Inspector.of_none _) at (rw over at c.loop-index.invariant.right))

pub returns-clause-asked : goal.returns-clause-asked
returns-clause-asked g c =
    let over = texts_done c.loop-index.index c.args.interchanges.now c.loop-index-test.false in
    (rw over at c.loop-index.invariant.asked) c.loop-index.inspector (g.met.I.Inspector.at_last _)
