-- The station of the key's sender is asked, and stays as it is.
use Rattle.std.proofs.Common.{◌<◌, length, subst}
use Rattle.x12_acks.specs.Key.{key_view}
use Rattle.x12_world.proofs.FailingLemmas.{counts_among}
use Rattle.x12_world.proofs.AuditingLemmas.{asked_still, asked_states, among_found, held_there, refused_there, there_so}
use Rattle.x12_world.proofs.RunningLemmas.{answers_there}
use Rattle.x12_world.proofs.auditing.held_by_sender.Goals as goal

pub returns-clause-never_won_back : goal.returns-clause-never_won_back
returns-clause-never_won_back g c =
    let ss = c.args.stations.now.items in
    let within : c.in-Ok.place < length ss = subst (λ rs. c.in-Ok.place < length rs) c.deref.ensures.value c.in-Ok.ensures.there.0 in
    asked_still ss c.in-Ok.place c.index_mut.result.now c.held_at.new.station within c.index_mut.ensures.value c.held_at.ensures.never_won_back

pub returns-clause-same : goal.returns-clause-same
returns-clause-same g c =
    let ss = c.args.stations.now.items in
    let within : c.in-Ok.place < length ss = subst (λ rs. c.in-Ok.place < length rs) c.deref.ensures.value c.in-Ok.ensures.there.0 in
    asked_states ss c.in-Ok.place c.index_mut.result.now c.held_at.new.station within c.index_mut.ensures.value c.held_at.ensures.same

pub returns-clause-held : goal.returns-clause-held
returns-clause-held g c = λ answers rise.
    let ss = c.args.stations.now.items in
    let old = c.index_mut.result.now in
    let within : c.in-Ok.place < length ss = subst (λ rs. c.in-Ok.place < length rs) c.deref.ensures.value c.in-Ok.ensures.there.0 in
    let found = among_found ss c.deref.result.now c.deref.ensures.value c.args.key.now.sender c.in-Ok.place old within c.index_mut.ensures.value c.in-Ok.ensures.there.1 in
    held_there ss c.in-Ok.place old (key_view c.args.key.now) c.held_at.result within c.index_mut.ensures.value found rise
    (c.held_at.ensures.held (answers_there ss c.in-Ok.place c.held_at.new.station within answers))

pub returns-clause-refused : goal.returns-clause-refused
returns-clause-refused g c =
    let ss = c.args.stations.now.items in
    let within : c.in-Ok.place < length ss = subst (λ rs. c.in-Ok.place < length rs) c.deref.ensures.value c.in-Ok.ensures.there.0 in
    let found = among_found ss c.deref.result.now c.deref.ensures.value c.args.key.now.sender c.in-Ok.place c.index_mut.result.now within c.index_mut.ensures.value c.in-Ok.ensures.there.1 in
    refused_there ss c.args.key.now.sender c.index_mut.result.now.state c.held_at.result found c.held_at.ensures.refused

pub returns-clause-there : goal.returns-clause-there
returns-clause-there g c =
    let ss = c.args.stations.now.items in
    let within : c.in-Ok.place < length ss = subst (λ rs. c.in-Ok.place < length rs) c.deref.ensures.value c.in-Ok.ensures.there.0 in
    let found = among_found ss c.deref.result.now c.deref.ensures.value c.args.key.now.sender c.in-Ok.place c.index_mut.result.now within c.index_mut.ensures.value c.in-Ok.ensures.there.1 in
    there_so ss c.args.key.now.sender c.index_mut.result.now.state c.held_at.result found

pub returns-clause-store : goal.returns-clause-store
returns-clause-store g c =
    let ss = c.args.stations.now.items in
    let within : c.in-Ok.place < length ss = subst (λ rs. c.in-Ok.place < length rs) c.deref.ensures.value c.in-Ok.ensures.there.0 in
    counts_among c.held_at.result ss c.in-Ok.place c.index_mut.result.now c.held_at.new.station within c.index_mut.ensures.value c.held_at.ensures.store
