use Rattle.std.proofs.Common.{arith}
use Rattle.x12_envelopes.proofs.TextLengthLemmas.{whole_length}
use Rattle.x12_envelopes.proofs.length.segment_len.Goals as goal

pub returns : goal.returns
returns g c =
    let len = c.loop-element.invariant in
    let max = c.max.ensures in
    let whole = whole_length g.E.AsSlice.items c.args.delims.now c.args.elements.now c.loop-element.element-index c.loop-element-test.false in
    omega (arith, len, max, whole)
