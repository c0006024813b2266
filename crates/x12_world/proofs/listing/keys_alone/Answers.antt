-- One key more.
use Rattle.std.proofs.Common.{◌<◌, rules, length, arith}
use Rattle.std.proofs.lemmas.Grind.{common_steps}
use Rattle.x12_world.proofs.ListingLemmas.{one_key_more}
use Rattle.x12_world.proofs.listing.keys_alone.Goals as goal

pub loop-set-preserved : goal.loop-set-preserved
loop-set-preserved c =
    let within : c.loop-set.set-index < length c.args.sets.now = search rules in
    one_key_more c.args.sets.now c.loop-set.set-index c.set-item.result c.loop-set.keys.items c.push.new.self.items _ within c.set-item.is c.in_ok-push.ensures.items c.loop-set.invariant

pub returns : goal.returns
returns c = grind (arith, common_steps)
