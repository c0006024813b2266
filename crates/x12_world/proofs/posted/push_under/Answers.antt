-- What stood under the key stands there with the bytes behind it.
use Rattle.x12_world.proofs.PostedLemmas.{pushed}
use Rattle.x12_world.proofs.posted.push_under.Goals as goal

pub returns : goal.returns
returns c =
    pushed c.args.posted.now c.take_under-under.new.posted c.insert.new.self c.args.posting.key c.take_under-under.result c.push.new.self c.args.posting.bytes
    c.take_under-under.ensures.taken c.take_under-under.ensures.others c.in_ok-push.ensures.items c.in_ok-insert.ensures.updates.0
