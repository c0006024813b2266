-- One set more.
use Rattle.std.proofs.Common.{◌<◌, ◌+◌, ◌++◌, length, map, ap, arith}
use Rattle.x12_envelopes.specs.Shape.{group_view}
use Rattle.x12_profile.specs.X12.{sets_of_group}
use Rattle.x12_world.specs.Placing.{outgoing_at, outgoing_view}
use Rattle.x12_world.proofs.PlacingLemmas.{outgoing_there, pushed_set}
use Rattle.x12_world.proofs.placing.push_group.Goals as goal

pub loop-index-preserved : goal.loop-index-preserved
loop-index-preserved c = λ d.
    let h = c.args.header.now in
    let g = c.args.group.now in
    let i = c.loop-index.index in
    let within : i < length g.sets.items = let t = c.loop-index-test.true in let n = c.len-index-end.ensures in let e = g.sets.ok.0 in omega arith in
    pushed_set d h c.args.place g i c.index.result.now c.loop-index.sets.items c.push.new.self.items _ (map outgoing_view c.args.sets.now.items ++ map (outgoing_at h) (sets_of_group (c.args.place, group_view d g)))
    c.in_ok-push.ensures.items (ap (outgoing_there h c.args.place (i + 1)) c.in_ok-from_slice.ensures.items) c.index.ensures within (c.loop-index.invariant d)
