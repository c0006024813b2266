use Rattle.std.proofs.Common.{ap, List, ℕ, ◌∙◌, ◌==◌, arith}
use Rattle.std.specs.List.{count_by}
use Rattle.std.proofs.lemmas.List.Splits.{length-slice_split}
use Rattle.x12_envelopes.specs.Segment.{trimmed_segment, elements_of, count_of_elements}
use Rattle.x12_envelopes.proofs.segment.Segment.element_count.Goals as goal

pub returns : goal.returns
unfolding count_of_elements elements_of
returns c =
    let d = c.args.self.now.delims in
    let p = λ (b : ℕ). b == d.element in
    let text = trimmed_segment d c.args.self.now.bytes.now in
    c.separator_count.ensures ∙ ap (λ (l : List ℕ). count_by p l) c.trimmed.ensures ∙ omega (arith, length-slice_split p text)
