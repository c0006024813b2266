use Rattle.std.proofs.Common.{arith}
use Rattle.std.proofs.lemmas.Grind.{common_steps}
use Rattle.x12_outbound.proofs.SubmittingLemmas.{viewed_numbers}
use Rattle.x12_outbound.proofs.submitting.raised.Goals as goal

pub returns-clause-refused : goal.returns-clause-refused
returns-clause-refused c = grind (arith, common_steps, viewed_numbers)
