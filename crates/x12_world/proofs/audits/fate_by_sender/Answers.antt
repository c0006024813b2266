-- The station of the key's sender is asked, and stays as it is.
use Rattle.std.proofs.Common.{◌≡◌, ◌<◌, length, option_and_then, ap, sym, subst, ◌∙◌}
use Rattle.std.proofs.lemmas.Result.{IfOk-weaker}
use Rattle.x12_acks.specs.Key.{key_view}
use Rattle.x12_profile.specs.X12.{x12}
use Rattle.x12_station.specs.StationStep.{fate_by_key}
use Rattle.x12_world.specs.Asking.{states_of}
use Rattle.x12_world.specs.Auditing.{station_among}
use Rattle.x12_world.proofs.FailingLemmas.{counts_among}
use Rattle.x12_world.proofs.AuditingLemmas.{asked_still, asked_states, among_found}
use Rattle.x12_world.proofs.RunningLemmas.{answers_there}
use Rattle.x12_world.proofs.audits.fate_by_sender.Goals as goal

pub returns-clause-never_won_back : goal.returns-clause-never_won_back
returns-clause-never_won_back g c =
    let ss = c.args.stations.now.items in
    let within : c.in-Ok.place < length ss = subst (λ rs. c.in-Ok.place < length rs) c.deref.ensures.value c.in-Ok.ensures.there.0 in
    asked_still ss c.in-Ok.place c.index_mut.result.now c.fate_at.new.station within c.index_mut.ensures.value c.fate_at.ensures.never_won_back

pub returns-clause-same : goal.returns-clause-same
returns-clause-same g c =
    let ss = c.args.stations.now.items in
    let within : c.in-Ok.place < length ss = subst (λ rs. c.in-Ok.place < length rs) c.deref.ensures.value c.in-Ok.ensures.there.0 in
    asked_states ss c.in-Ok.place c.index_mut.result.now c.fate_at.new.station within c.index_mut.ensures.value c.fate_at.ensures.same

pub returns-clause-fate : goal.returns-clause-fate
returns-clause-fate g c = λ answers.
    let ss = c.args.stations.now.items in
    let old = c.index_mut.result.now in
    let k = key_view c.args.key.now in
    let within : c.in-Ok.place < length ss = subst (λ rs. c.in-Ok.place < length rs) c.deref.ensures.value c.in-Ok.ensures.there.0 in
    let found = among_found ss c.deref.result.now c.deref.ensures.value k.sender c.in-Ok.place old within c.index_mut.ensures.value c.in-Ok.ensures.there.1 in
    IfOk-weaker c.fate_at.result (λ o. o ≡ fate_by_key x12 old.state k) (λ o. o ≡ option_and_then (λ s. fate_by_key x12 s k) (station_among (states_of ss) k.sender))
    (λ o e. e ∙ sym (ap (option_and_then (λ s. fate_by_key x12 s k)) found)) (c.fate_at.ensures.fate (answers_there ss c.in-Ok.place c.fate_at.new.station within answers))

pub returns-clause-store : goal.returns-clause-store
returns-clause-store g c =
    let ss = c.args.stations.now.items in
    let within : c.in-Ok.place < length ss = subst (λ rs. c.in-Ok.place < length rs) c.deref.ensures.value c.in-Ok.ensures.there.0 in
    counts_among c.fate_at.result ss c.in-Ok.place c.index_mut.result.now c.fate_at.new.station within c.index_mut.ensures.value c.fate_at.ensures.store
