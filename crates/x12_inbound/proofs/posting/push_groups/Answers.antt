use Rattle.std.proofs.Common.{◌<◌, ◌-◌, ◌^◌, length, map, sym, subst, arith}
use Rattle.std.proofs.lemmas.Grind.{common_steps}
use Rattle.std.proofs.lemmas.List.{length-map}
use Rattle.x12_judge.specs.declared.verdict.GroupVerdict.{GroupVerdict}
use Rattle.x12_judge.specs.Verdict.{group_verdict_view, set_verdict_view}
use Rattle.x12_inbound.proofs.SearchLemmas.{from_view}
use Rattle.x12_inbound.proofs.posting.push_groups.Goals as goal

pub push_group-requires : goal.push_group-requires
push_group-requires c =
    let groups = c.args.groups.now in
    let i = c.loop-group.group-index in
    let x = c.group-item.result in
    let few = from_view group_verdict_view (λ g. length g.sets < 2 ^ 16 - 1) groups i c.loop-group-test.true
    (λ d. c.requires i d (omega (arith, length-map groups group_verdict_view, c.loop-group-test.true))) x in
    let here = subst (λ (g : GroupVerdict). length (map set_verdict_view g.sets.items) < 2 ^ 16 - 1) (sym c.group-item.is) few in
    omega (arith, here, length-map x.sets.items set_verdict_view)

pub loop-group-preserved : goal.loop-group-preserved
loop-group-preserved c = grind (arith, common_steps)

pub returns : goal.returns
returns c = grind (arith, common_steps)
