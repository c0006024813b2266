-- One station more.
use Rattle.std.proofs.Common.{◌<◌, length, length-set, map, ◌∙◌, arith}
use Rattle.std.proofs.lemmas.Grind.{common_steps}
use Rattle.x12_world.specs.Placing.{outgoing_view}
use Rattle.x12_world.proofs.FailingLemmas.{counts_alike, counts_among, counts_behind, counts_handed}
use Rattle.x12_world.proofs.AuditingLemmas.{asked_still, asked_states}
use Rattle.x12_world.proofs.RunningLemmas.{answers_there}
use Rattle.x12_world.proofs.ListingLemmas.{gathered}
use Rattle.x12_world.proofs.listing.gather.Goals as goal

pub returns-in_err-push_station-clause-never_won_back : goal.returns-in_err-push_station-clause-never_won_back
returns-in_err-push_station-clause-never_won_back g c = λ answers.
    let ss = c.loop-place.stations.items in
    let within : c.loop-place.place < length ss = let t = c.loop-place-test.true in let n = c.len-place-end.ensures in let e = c.args.stations.now.ok.0 in let l = c.loop-place.invariant.long in omega arith in
    c.loop-place.invariant.never_won_back (asked_still ss c.loop-place.place c.index_mut.result.now c.push_station.new.station within c.index_mut.ensures.value c.push_station.ensures.never_won_back answers)

pub returns-in_err-push_station-clause-same : goal.returns-in_err-push_station-clause-same
returns-in_err-push_station-clause-same g c = λ answers.
    let ss = c.loop-place.stations.items in
    let within : c.loop-place.place < length ss = let t = c.loop-place-test.true in let n = c.len-place-end.ensures in let e = c.args.stations.now.ok.0 in let l = c.loop-place.invariant.long in omega arith in
    let was = asked_still ss c.loop-place.place c.index_mut.result.now c.push_station.new.station within c.index_mut.ensures.value c.push_station.ensures.never_won_back answers in
    asked_states ss c.loop-place.place c.index_mut.result.now c.push_station.new.station within c.index_mut.ensures.value c.push_station.ensures.same answers ∙ c.loop-place.invariant.same was

pub loop-place-preserved : goal.loop-place-preserved
loop-place-preserved g c =
    let ss = c.loop-place.stations.items in
    let i = c.loop-place.place in
    let old = c.index_mut.result.now in
    let new = c.push_station.new.station in
    let is = c.index_mut.ensures.value in
    let within : i < length ss = let t = c.loop-place-test.true in let n = c.len-place-end.ensures in let e = c.args.stations.now.ok.0 in let l = c.loop-place.invariant.long in omega arith in
    record {
      never_won_back = λ answers. c.loop-place.invariant.never_won_back (asked_still ss i old new within is c.push_station.ensures.never_won_back answers);
      same = λ answers. asked_states ss i old new within is c.push_station.ensures.same answers ∙ c.loop-place.invariant.same (asked_still ss i old new within is c.push_station.ensures.never_won_back answers);
      counts = counts_alike ss i old new within is c.in_ok-push_station.ensures.store.ok ∙ c.loop-place.invariant.counts;
      long = length-set ss i new ∙ c.loop-place.invariant.long;
      sets = λ answers listed rise.
          let was = asked_still ss i old new within is c.push_station.ensures.never_won_back answers in
          gathered c.args.stations.now.items ss i old c.args.submitted.now (map outgoing_view c.loop-place.sets.items) (map outgoing_view c.push_station.new.sets.items) within is
          (c.loop-place.invariant.same was) listed rise (c.loop-place.invariant.sets was listed rise) (c.in_ok-push_station.ensures.sets (answers_there ss i new within answers));
    }

pub returns-in_err-push_station-clause-store : goal.returns-in_err-push_station-clause-store
returns-in_err-push_station-clause-store g c =
    let ss = c.loop-place.stations.items in
    let within : c.loop-place.place < length ss = let t = c.loop-place-test.true in let n = c.len-place-end.ensures in let e = c.args.stations.now.ok.0 in let l = c.loop-place.invariant.long in omega arith in
    counts_handed c.from_residual.result c.in_err-push_station.field-0.0 _ _ c.from_residual.ensures.1
    (counts_behind _ _ _ _ c.loop-place.invariant.counts (counts_among _ ss c.loop-place.place c.index_mut.result.now c.push_station.new.station within c.index_mut.ensures.value c.in_err-push_station.ensures.store))

pub returns-clause-sets : goal.returns-clause-sets
returns-clause-sets g c = grind (arith, common_steps)
