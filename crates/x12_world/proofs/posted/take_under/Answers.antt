use Rattle.std.proofs.Common.{None}
use Rattle.x12_world.proofs.PostedLemmas.{others_stay}
use Rattle.x12_world.proofs.posted.take_under.Goals as goal

pub returns-in-Some-clause-others : goal.returns-in-Some-clause-others
returns-in-Some-clause-others c = others_stay c.args.posted.now c.remove.new.self c.args.key.now None c.remove.ensures.updates.0
