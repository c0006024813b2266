use Rattle.std.proofs.Common.{◌≡◌, length}
use Rattle.x12_lint.specs.Element.{is_code_listed}
use Rattle.x12_lint.proofs.element.is_one_of.Given as goal

abbrev pub invariant-loop-code : goal.invariant-loop-code
invariant-loop-code l = is_code_listed l.rest l.text ≡ is_code_listed l.codes l.text

abbrev pub decreases-loop-code : goal.decreases-loop-code
decreases-loop-code l = length l.rest
