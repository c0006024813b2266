use Rattle.std.proofs.Common.{refl, sym, ap, ◌∙◌, unwrap_or, slice_get, []}
use Rattle.x12_envelopes.proofs.CuttingLemmas.{cut_split}
use Rattle.x12_envelopes.proofs.ElementLemmas.{element_is}
use Rattle.x12_envelopes.proofs.segment.Segment.identifier.Goals as goal

pub returns-in-Some-cut_near : goal.returns-in-Some-cut_near
returns-in-Some-cut_near c =
    let s = c.args.self.now in
    sym (ap (λ l. unwrap_or (slice_get l 0) []) (cut_split s.delims.element s.bytes.now c.in-Some-cut_near.identifier.now c.in-Some-cut_near.field-0-1.now c.in-Some-cut_near.ensures.some))
    ∙ element_is s.delims s.bytes.now 0

pub returns-in-None : goal.returns-in-None
returns-in-None c =
    let s = c.args.self.now in
    sym (ap (λ l. unwrap_or (slice_get l 0) []) (c.in-None.ensures.none refl)) ∙ element_is s.delims s.bytes.now 0
