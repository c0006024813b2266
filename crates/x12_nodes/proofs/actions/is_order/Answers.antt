-- Segments are compared as what they stand for is.
use Rattle.std.proofs.Common.{◌∙◌, ap, bytes_eq}
use Rattle.std.specs.Cmp.Lexicographic.{pointwise}
use Rattle.x12_envelopes.specs.Envelope.{segment_view}
use Rattle.x12_nodes.proofs.ComparingLemmas.{pointwise_viewed}
use Rattle.x12_nodes.proofs.actions.is_order.Goals as goal

pub returns : goal.returns
returns c =
    let xs = c.args.one.now.segments.items in
    let ys = c.args.other.now.segments.items in
    c.eq.ensures
    ∙ ap (λ E. pointwise E xs ys) (λ i a b. pointwise_viewed (λ e. e.items) bytes_eq a.items b.items i)
    ∙ pointwise_viewed segment_view (pointwise bytes_eq) xs ys
