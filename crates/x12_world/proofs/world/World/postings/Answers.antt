-- What a station says is said at its node.
use Rattle.std.proofs.Common.{◌-◌, sym, ◌∙◌}
use Rattle.std.proofs.lemmas.List.{length-map}
use Rattle.x12_station.specs.Seen.{StationView}
use Rattle.x12_world.specs.Running.{hubs_in, station_answers}
use Rattle.x12_world.proofs.ActingLemmas.{station_by_number}
use Rattle.x12_world.proofs.AnswerLemmas.{all_back, all_get, mapped_all, won_stations}
use Rattle.x12_world.proofs.FailingLemmas.{counts_beside}
use Rattle.x12_world.proofs.RunningLemmas.{few_numbers, if_err}
use Rattle.std.proofs.lemmas.Result.{IfOk-weaker}
use Rattle.x12_world.proofs.SubmissionLemmas.{states_by}
use Rattle.x12_world.proofs.WorldAskedLemmas.{kept_so, world_same}
use Rattle.x12_world.proofs.world.World.postings.Goals as goal

pub invariant_of-self : goal.invariant_of-self
invariant_of-self g c =
    let s = c.self.inside in
    let ss = s.stations.items in
    let rs = c.postings_at.new.stations.items in
    kept_so s.hubs ss rs s.held.items s.submitted.items c.self.invariant
    (λ all. sym (mapped_all ss) ∙ all_back (station_answers ss) (station_answers rs) c.postings_at.ensures.never_won_back (mapped_all rs ∙ all))
    (λ all. states_by ss rs (c.postings_at.ensures.same (λ low high. all_get (station_answers rs) (mapped_all rs ∙ all) (c.args.node - 1)))) c.postings_at.ensures.len

pub returns-clause-never_won_back : goal.returns-clause-never_won_back
returns-clause-never_won_back g c =
    let s = c.self.inside in
    let ss = s.stations.items in
    let rs = c.postings_at.new.stations.items in
    rw (← c.self.view_is) (won_stations s.hubs (station_answers ss) (station_answers rs)
    (length-map ss (λ (r : StationView _). r.answers) ∙ sym c.postings_at.ensures.len ∙ sym (length-map rs (λ (r : StationView _). r.answers))) c.postings_at.ensures.never_won_back)

pub returns-clause-same : goal.returns-clause-same
returns-clause-same g c = λ answers.
    let s = c.self.inside in
    let ss = s.stations.items in
    let rs = c.postings_at.new.stations.items in
    rw (← c.self.view_is) (world_same s.hubs ss rs s.held.items (states_by ss rs (c.postings_at.ensures.same (station_by_number s.hubs ss rs s.held.items c.args.node c.self.invariant.few c.postings_at.ensures.len answers))))

pub returns-clause-postings : goal.returns-clause-postings
returns-clause-postings g c = λ answers.
    let s = c.self.inside in
    let ss = s.stations.items in
    let rs = c.postings_at.new.stations.items in
    rw (← c.self.view_is)
    (IfOk-weaker c.postings_at.result _ _ (λ o said. said (hubs_in s.hubs) (few_numbers s.hubs ss c.self.invariant.few))
    (c.postings_at.ensures.postings (station_by_number s.hubs ss rs s.held.items c.args.node c.self.invariant.few c.postings_at.ensures.len answers)))

pub returns-clause-refused : goal.returns-clause-refused
returns-clause-refused g c = rw (← c.self.view_is)
    (if_err c.postings_at.result _ _ (λ r said. said (hubs_in c.self.inside.hubs) (few_numbers c.self.inside.hubs c.self.inside.stations.items c.self.invariant.few)) c.postings_at.ensures.refused)

pub returns-clause-store : goal.returns-clause-store
returns-clause-store g c =
    let s = c.self.inside in
    rw (← c.self.view_is) (counts_beside c.postings_at.result s.hubs s.stations.items c.postings_at.new.stations.items c.postings_at.ensures.store)
