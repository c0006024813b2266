-- The station of the receiver is asked, and stays as it is.
use Rattle.std.proofs.Common.{◌<◌, length, option_map, subst}
use Rattle.x12_inbound.specs.Posting.{posting_view}
use Rattle.x12_world.specs.Asking.{states_of}
use Rattle.x12_acks.specs.Key.{key_view}
use Rattle.x12_world.proofs.FailingLemmas.{counts_alike, counts_told, failed_among}
use Rattle.x12_world.proofs.AuditingLemmas.{asked_still, asked_states, among_found, first_there}
use Rattle.x12_world.proofs.RunningLemmas.{answers_there}
use Rattle.x12_world.proofs.auditing.found_by_receiver.Goals as goal

pub returns-in_err-posting-clause-never_won_back : goal.returns-in_err-posting-clause-never_won_back
returns-in_err-posting-clause-never_won_back g c =
    let ss = c.args.stations.now.items in
    let within : c.in-Ok.place < length ss = subst (λ rs. c.in-Ok.place < length rs) c.deref.ensures.value c.in-Ok.ensures.there.0 in
    asked_still ss c.in-Ok.place c.index_mut.result.now c.posted.new.self within c.index_mut.ensures.value c.posted.ensures.never_won_back

pub returns-in_err-posting-clause-same : goal.returns-in_err-posting-clause-same
returns-in_err-posting-clause-same g c =
    let ss = c.args.stations.now.items in
    let within : c.in-Ok.place < length ss = subst (λ rs. c.in-Ok.place < length rs) c.deref.ensures.value c.in-Ok.ensures.there.0 in
    asked_states ss c.in-Ok.place c.index_mut.result.now c.posted.new.self within c.index_mut.ensures.value c.posted.ensures.same

pub returns-clause-never_won_back : goal.returns-clause-never_won_back
returns-clause-never_won_back g c =
    let ss = c.args.stations.now.items in
    let within : c.in-Ok.place < length ss = subst (λ rs. c.in-Ok.place < length rs) c.deref.ensures.value c.in-Ok.ensures.there.0 in
    asked_still ss c.in-Ok.place c.index_mut.result.now c.posted.new.self within c.index_mut.ensures.value c.posted.ensures.never_won_back

pub returns-clause-same : goal.returns-clause-same
returns-clause-same g c =
    let ss = c.args.stations.now.items in
    let within : c.in-Ok.place < length ss = subst (λ rs. c.in-Ok.place < length rs) c.deref.ensures.value c.in-Ok.ensures.there.0 in
    asked_states ss c.in-Ok.place c.index_mut.result.now c.posted.new.self within c.index_mut.ensures.value c.posted.ensures.same

pub returns-clause-found : goal.returns-clause-found
returns-clause-found g c = λ answers.
    let ss = c.args.stations.now.items in
    let k = key_view c.args.key.now in
    let bytes = c.args.bytes.now in
    let old = c.index_mut.result.now in
    let within : c.in-Ok.place < length ss = subst (λ rs. c.in-Ok.place < length rs) c.deref.ensures.value c.in-Ok.ensures.there.0 in
    first_there (states_of ss) c.args.party.now k bytes old.state (option_map posting_view c.in_ok-posting.posting) (c.count_found-count.result)
    (among_found ss c.deref.result.now c.deref.ensures.value c.args.party.now c.in-Ok.place old within c.index_mut.ensures.value c.in-Ok.ensures.there.1)
    (c.in_ok-posting.ensures.posted (answers_there ss c.in-Ok.place c.posted.new.self within answers))
    c.count_found-count.ensures

pub returns-in_err-posting-clause-store : goal.returns-in_err-posting-clause-store
returns-in_err-posting-clause-store g c =
    let ss = c.args.stations.now.items in
    let within : c.in-Ok.place < length ss = subst (λ rs. c.in-Ok.place < length rs) c.deref.ensures.value c.in-Ok.ensures.there.0 in
    counts_told c.from_residual.result c.in_err-posting.field-0.0 _ _ c.from_residual.ensures.1
    (λ is. failed_among ss c.in-Ok.place c.index_mut.result.now c.posted.new.self within c.index_mut.ensures.value (c.in_err-posting.ensures.store.device is))

pub returns-clause-store : goal.returns-clause-store
returns-clause-store g c =
    let ss = c.args.stations.now.items in
    let within : c.in-Ok.place < length ss = subst (λ rs. c.in-Ok.place < length rs) c.deref.ensures.value c.in-Ok.ensures.there.0 in
    record { ok = counts_alike ss c.in-Ok.place c.index_mut.result.now c.posted.new.self within c.index_mut.ensures.value c.in_ok-posting.ensures.store.ok; refused = tt }
