use Rattle.std.proofs.Common.{arith}
use Rattle.std.proofs.lemmas.Grind.{common_steps}
use Rattle.x12_envelopes.proofs.CuttingLemmas.{cut_split}
use Rattle.x12_lint.proofs.part.cut_elements.Goals as goal

pub loop-element-preserved : goal.loop-element-preserved
loop-element-preserved c =
    let one = cut_split c.args.delims.now.element c.loop-element.rest.now c.in-Some.element.now c.in-Some.behind.now c.in-Some.ensures.some in
    grind (arith, common_steps, one)
