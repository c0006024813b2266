use Rattle.std.proofs.Common.{arith}
use Rattle.x12_outbound.proofs.AnswerLemmas.{groups_more, groups_all}
use Rattle.x12_outbound.proofs.LimitLemmas.{group_has_place, sets_have_places}
use Rattle.x12_outbound.proofs.matches.tell_interchange.Goals as goal

-- the sets of the next group are told of
pub loop-index-preserved : goal.loop-index-preserved
loop-index-preserved c =
    groups_more c.args.parties.now c.args.entry.now c.deref-group-items.result.now c.deref-group-items.ensures.value c.args.out.now.items
    c.loop-index.index c.group-item.result c.place_of.result c.deref.result.now c.loop-index.out.items c.tell_all.new.out.items
    c.loop-index-test.true c.group-item.is c.place_of.ensures c.deref.ensures.value c.loop-index.invariant c.in_ok-tell_all.ensures

-- no group is left
pub returns : goal.returns
returns c =
    groups_all c.args.parties.now c.args.entry.now c.deref-group-items.result.now c.deref-group-items.ensures.value c.args.out.now.items
    c.loop-index.index c.loop-index.out.items (omega (arith, c.loop-index-test.false)) c.loop-index.invariant

-- its groups, and their sets, have places
pub place_of-requires : goal.place_of-requires
place_of-requires c =
    group_has_place c.args.parties.now.me c.args.entry.now c.requires c.deref-group-items.result.now c.deref-group-items.ensures.value c.loop-index.index c.loop-index-test.true

pub tell_all-requires : goal.tell_all-requires
tell_all-requires c =
    sets_have_places c.args.parties.now.me c.args.entry.now c.requires c.deref-group-items.result.now c.deref-group-items.ensures.value c.loop-index.index c.loop-index-test.true
    c.group-item.result c.deref.result.now c.group-item.is c.deref.ensures.value
