use Rattle.std.proofs.Common.{drop, ap, sym, ◌∙◌}
use Rattle.x12_envelopes.specs.Segment.{parts_of}
use Rattle.x12_envelopes.specs.Shape.{set_trailer_view}
use Rattle.x12_judge.specs.Set.{body_of, without_trailer}
use Rattle.x12_judge.proofs.BodyLemmas.{some_mapped}
use Rattle.x12_judge.proofs.body.Body.of.Goals as goal

pub returns-clause-left : goal.returns-clause-left
unfolding body_of
returns-clause-left c =
    let parts = parts_of c.args.delims.now c.args.set.now.bytes.now in
    ap (without_trailer c.is_some.result) (sym c.cut_next-2.ensures.next ∙ c.cut_next.ensures.behind)
    ∙ ap (λ b. without_trailer b (drop 1 parts)) (c.is_some.ensures ∙ some_mapped set_trailer_view c.args.set.now.trailer)
