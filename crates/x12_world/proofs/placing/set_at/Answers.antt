-- What stands at the places is found.
use Rattle.x12_world.proofs.PlacingLemmas.{placed_set, no_set, no_group}
use Rattle.x12_world.proofs.placing.set_at.Goals as goal

pub returns-in-Some-item_at : goal.returns-in-Some-item_at
returns-in-Some-item_at c = λ d.
    placed_set d c.args.key.now.group c.args.key.now.set c.args.groups.now c.in-Some.group.now c.deref.result.now
    c.in-Some.ensures c.deref.ensures.value c.in-Some-item_at.set.now c.in-Some-item_at.ensures

pub returns-in-None-item_at : goal.returns-in-None-item_at
returns-in-None-item_at c = λ d.
    no_set d c.args.key.now.group c.args.key.now.set c.args.groups.now c.in-Some.group.now c.deref.result.now
    c.in-Some.ensures c.deref.ensures.value c.in-None-item_at.ensures

pub returns-in-None : goal.returns-in-None
returns-in-None c = λ d. no_group d c.args.key.now.group c.args.key.now.set c.args.groups.now c.in-None.ensures
