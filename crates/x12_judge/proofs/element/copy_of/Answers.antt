use Rattle.std.proofs.Common.{arith}
use Rattle.std.proofs.lemmas.Grind.{common_steps}
use Rattle.std.proofs.lemmas.List.{take_min}
use Rattle.x12_judge.specs.Element.{copy_of_element}
use Rattle.x12_judge.proofs.element.copy_of.Goals as goal

pub returns : goal.returns
unfolding copy_of_element
returns c = grind (arith, common_steps, take_min)
