use Rattle.std.proofs.Common.{arith}
use Rattle.std.proofs.lemmas.Grind.{common_steps}
use Rattle.x12_inbound.proofs.place.put_at.Goals as goal

pub returns : goal.returns
returns g c = grind (arith, common_steps)
