-- One station more.
use Rattle.std.proofs.Common.{◌<◌, ◌+◌, length, length-set, ap, ◌∙◌, arith}
use Rattle.x12_world.proofs.FailingLemmas.{counts_alike, counts_among, counts_behind, counts_handed}
use Rattle.x12_world.proofs.AuditingLemmas.{asked_still, asked_states}
use Rattle.x12_world.proofs.PostedLemmas.{one_posted}
use Rattle.x12_world.proofs.RunningLemmas.{answers_there}
use Rattle.x12_world.proofs.posted.posted_by_all.Goals as goal

pub returns-in_err-push_posted-clause-never_won_back : goal.returns-in_err-push_posted-clause-never_won_back
returns-in_err-push_posted-clause-never_won_back g c = λ answers.
    let ss = c.loop-place.stations.items in
    let within : c.loop-place.place < length ss = let t = c.loop-place-test.true in let n = c.len-place-end.ensures in let e = c.args.stations.now.ok.0 in let l = c.loop-place.invariant.long in omega arith in
    c.loop-place.invariant.never_won_back (asked_still ss c.loop-place.place c.index_mut.result.now c.push_posted.new.station within c.index_mut.ensures.value c.push_posted.ensures.never_won_back answers)

pub returns-in_err-push_posted-clause-same : goal.returns-in_err-push_posted-clause-same
returns-in_err-push_posted-clause-same g c = λ answers.
    let ss = c.loop-place.stations.items in
    let within : c.loop-place.place < length ss = let t = c.loop-place-test.true in let n = c.len-place-end.ensures in let e = c.args.stations.now.ok.0 in let l = c.loop-place.invariant.long in omega arith in
    let was = asked_still ss c.loop-place.place c.index_mut.result.now c.push_posted.new.station within c.index_mut.ensures.value c.push_posted.ensures.never_won_back answers in
    asked_states ss c.loop-place.place c.index_mut.result.now c.push_posted.new.station within c.index_mut.ensures.value c.push_posted.ensures.same answers ∙ c.loop-place.invariant.same was

pub loop-place-preserved : goal.loop-place-preserved
loop-place-preserved g c =
    let ss = c.loop-place.stations.items in
    let i = c.loop-place.place in
    let old = c.index_mut.result.now in
    let new = c.push_posted.new.station in
    let is = c.index_mut.ensures.value in
    let within : i < length ss = let t = c.loop-place-test.true in let n = c.len-place-end.ensures in let e = c.args.stations.now.ok.0 in let l = c.loop-place.invariant.long in omega arith in
    record {
      never_won_back = λ answers. c.loop-place.invariant.never_won_back (asked_still ss i old new within is c.push_posted.ensures.never_won_back answers);
      same = λ answers. asked_states ss i old new within is c.push_posted.ensures.same answers ∙ c.loop-place.invariant.same (asked_still ss i old new within is c.push_posted.ensures.never_won_back answers);
      counts = counts_alike ss i old new within is c.in_ok-push_posted.ensures.store.ok ∙ c.loop-place.invariant.counts;
      long = length-set ss i new ∙ c.loop-place.invariant.long;
      count = c.in_ok-push_posted.ensures.count ∙ ap (λ n. n + 1) c.loop-place.invariant.count;
      posted = λ answers.
          let was = asked_still ss i old new within is c.push_posted.ensures.never_won_back answers in
          one_posted c.args.stations.now.items ss i old within is (c.loop-place.invariant.same was)
          c.loop-place.all.items c.push_posted.new.all.items c.loop-place.invariant.count (c.loop-place.invariant.posted was) (c.in_ok-push_posted.ensures.posted (answers_there ss i new within answers));
    }

pub returns-in_err-push_posted-clause-store : goal.returns-in_err-push_posted-clause-store
returns-in_err-push_posted-clause-store g c =
    let ss = c.loop-place.stations.items in
    let within : c.loop-place.place < length ss = let t = c.loop-place-test.true in let n = c.len-place-end.ensures in let e = c.args.stations.now.ok.0 in let l = c.loop-place.invariant.long in omega arith in
    counts_handed c.from_residual.result c.in_err-push_posted.field-0.0 _ _ c.from_residual.ensures.1
    (counts_behind _ _ _ _ c.loop-place.invariant.counts (counts_among _ ss c.loop-place.place c.index_mut.result.now c.push_posted.new.station within c.index_mut.ensures.value c.in_err-push_posted.ensures.store))
