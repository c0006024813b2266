use Rattle.std.proofs.Common.{arith}
use Rattle.std.proofs.lemmas.Grind.{common_steps}
use Rattle.x12_envelopes.proofs.FrontLemmas.{starts_trans}
use Rattle.x12_envelopes.specs.Byte.{zero_padded_number}
use Rattle.x12_envelopes.proofs.appending.push_padded_to_any.Goals as goal

pub returns-clause-written : goal.returns-clause-written
unfolding zero_padded_number
returns-clause-written c = grind (arith, common_steps, starts_trans)

pub returns-clause-front : goal.returns-clause-front
unfolding zero_padded_number
returns-clause-front c = grind (arith, common_steps, starts_trans)
