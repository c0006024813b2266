-- The station stays as it is, and so do the nodes.
use Rattle.std.proofs.Common.{◌-◌, ◌∙◌, sym, arith}
use Rattle.x12_world.proofs.RunningLemmas.{station_there, stations_kept}
use Rattle.x12_world.proofs.AnswerLemmas.{set_answers, won_among}
use Rattle.x12_world.proofs.FailingLemmas.{counts_alike, failed_among}
use Rattle.x12_world.proofs.asking.postings_at.Goals as goal

pub returns-in-Ok-clause-never_won_back : goal.returns-in-Ok-clause-never_won_back
returns-in-Ok-clause-never_won_back g c =
    let ss = c.args.stations.now in
    let number = c.is_station.ensures.number c.if-not-is_station.false in
    won_among ss.items (c.args.node - 1) c.index_mut-station.result.now c.postings.new.self (let e = ss.ok.0 in let low = number.0 in let high = number.1 in omega arith) c.index_mut-station.ensures.value c.in-Ok.ensures.never_won_back

pub returns-in-Ok-clause-same : goal.returns-in-Ok-clause-same
returns-in-Ok-clause-same g c = λ answers.
    let ss = c.args.stations.now in
    let number = c.is_station.ensures.number c.if-not-is_station.false in
    let i = c.args.node - 1 in
    let new = c.postings.new.self in
    stations_kept ss.items i new c.index_mut-station.result.now c.index_mut-station.ensures.value
    (c.in-Ok.ensures.same (sym (set_answers ss.items i new (let e = ss.ok.0 in let low = number.0 in let high = number.1 in omega arith)) ∙ answers number.0 (let e = ss.ok.0 in let high = number.1 in omega arith)))

pub returns-in-Ok-clause-postings : goal.returns-in-Ok-clause-postings
returns-in-Ok-clause-postings g c = λ answers h numbers.
    let ss = c.args.stations.now in
    let number = c.is_station.ensures.number c.if-not-is_station.false in
    let i = c.args.node - 1 in
    let old = c.index_mut-station.result.now in
    let new = c.postings.new.self in (
      old.state,
      station_there h ss.items c.args.node old numbers number.0 (let e = ss.ok.0 in let high = number.1 in omega arith) c.index_mut-station.ensures.value,
      c.in-Ok.ensures.postings (sym (set_answers ss.items i new (let e = ss.ok.0 in let low = number.0 in let high = number.1 in omega arith)) ∙ answers number.0 (let e = ss.ok.0 in let high = number.1 in omega arith)),
    )

pub returns-in-Err-clause-never_won_back : goal.returns-in-Err-clause-never_won_back
returns-in-Err-clause-never_won_back g c =
    let ss = c.args.stations.now in
    let number = c.is_station.ensures.number c.if-not-is_station.false in
    won_among ss.items (c.args.node - 1) c.index_mut-station.result.now c.postings.new.self (let e = ss.ok.0 in let low = number.0 in let high = number.1 in omega arith) c.index_mut-station.ensures.value c.in-Err.ensures.never_won_back

pub returns-in-Err-clause-same : goal.returns-in-Err-clause-same
returns-in-Err-clause-same g c = λ answers.
    let ss = c.args.stations.now in
    let number = c.is_station.ensures.number c.if-not-is_station.false in
    let i = c.args.node - 1 in
    let new = c.postings.new.self in
    stations_kept ss.items i new c.index_mut-station.result.now c.index_mut-station.ensures.value
    (c.in-Err.ensures.same (sym (set_answers ss.items i new (let e = ss.ok.0 in let low = number.0 in let high = number.1 in omega arith)) ∙ answers number.0 (let e = ss.ok.0 in let high = number.1 in omega arith)))

pub returns-in-Ok-clause-store : goal.returns-in-Ok-clause-store
returns-in-Ok-clause-store g c =
    let ss = c.args.stations.now in
    let number = c.is_station.ensures.number c.if-not-is_station.false in
    record {
      ok = counts_alike ss.items (c.args.node - 1) c.index_mut-station.result.now c.postings.new.self (let e = ss.ok.0 in let low = number.0 in let high = number.1 in omega arith) c.index_mut-station.ensures.value c.in-Ok.ensures.store.ok;
      refused = tt;
    }

pub returns-in-Err-clause-store : goal.returns-in-Err-clause-store
returns-in-Err-clause-store g c =
    let ss = c.args.stations.now in
    let number = c.is_station.ensures.number c.if-not-is_station.false in
    record {
      ok = tt;
      refused = λ is. failed_among ss.items (c.args.node - 1) c.index_mut-station.result.now c.postings.new.self (let e = ss.ok.0 in let low = number.0 in let high = number.1 in omega arith) c.index_mut-station.ensures.value
          (c.in-Err.ensures.store.device is);
    }
