-- An arrival submits nothing.
use Rattle.std.proofs.Common.{ap, [], ◌∷◌}
use Rattle.x12_core.specs.Effect.{comes_to_station, reports_taken}
use Rattle.x12_core.specs.Submission.{listed}
use Rattle.x12_core.specs.View.{load_view}
use Rattle.x12_profile.specs.X12.{x12}
use Rattle.x12_core.proofs.DiskLemmas.{arrived}
use Rattle.x12_core.proofs.SubmissionLemmas.{arrival_listed}
use Rattle.x12_core.proofs.station_ask.take.Goals as goal

pub returns-in_ok-arrival-in-Item-clause-submits :
    goal.returns-in_ok-arrival-in-Item-clause-submits
returns-in_ok-arrival-in-Item-clause-submits g c = λ answers.
    arrival_listed c.args.site.node c.args.station.now.state c.arrive.new.self.state _ _ _ (listed c.reported.result) (c.in_ok-arrival-in-Item.ensures.took answers) c.reported.ensures.listed

pub returns-in_ok-arrival-in-Refusal-clause-submits :
    goal.returns-in_ok-arrival-in-Refusal-clause-submits
returns-in_ok-arrival-in-Refusal-clause-submits g c = λ answers.
    arrival_listed c.args.site.node c.args.station.now.state c.arrive-in-Refusal.new.self.state _ _ _ (listed c.answered.result) (c.in_ok-arrival-in-Refusal.ensures.took answers) c.answered.ensures.listed

-- What a packet leaves of the disk is its step.

pub returns-in_err-arrival-in-Item-clause-crash :
    goal.returns-in_err-arrival-in-Item-clause-crash
returns-in_err-arrival-in-Item-clause-crash g c =
    arrived g.R.Records _ c.args.site (reports_taken c.args.site.node c.args.from c.in-Item.item ∷ []) c.args.at.now _ _ _ c.args.station.now c.arrive.new.self c.deref.ensures.value (ap (λ l. comes_to_station x12 c.args.site c.args.from c.args.at.now c.args.station.now.state (load_view l)) c.in-Item.is) c.arrive.ensures.crash

pub returns-in_ok-arrival-in-Item-clause-crash :
    goal.returns-in_ok-arrival-in-Item-clause-crash
returns-in_ok-arrival-in-Item-clause-crash g c =
    arrived g.R.Records _ c.args.site (reports_taken c.args.site.node c.args.from c.in-Item.item ∷ []) c.args.at.now _ _ _ c.args.station.now c.arrive.new.self c.deref.ensures.value (ap (λ l. comes_to_station x12 c.args.site c.args.from c.args.at.now c.args.station.now.state (load_view l)) c.in-Item.is) c.arrive.ensures.crash

pub returns-in_err-arrival-in-Refusal-clause-crash :
    goal.returns-in_err-arrival-in-Refusal-clause-crash
returns-in_err-arrival-in-Refusal-clause-crash g c =
    arrived g.R.Records _ c.args.site [] c.args.at.now _ _ _ c.args.station.now c.arrive-in-Refusal.new.self c.deref-in-Refusal.ensures.value (ap (λ l. comes_to_station x12 c.args.site c.args.from c.args.at.now c.args.station.now.state (load_view l)) c.in-Refusal.is) c.arrive-in-Refusal.ensures.crash

pub returns-in_ok-arrival-in-Refusal-clause-crash :
    goal.returns-in_ok-arrival-in-Refusal-clause-crash
returns-in_ok-arrival-in-Refusal-clause-crash g c =
    arrived g.R.Records _ c.args.site [] c.args.at.now _ _ _ c.args.station.now c.arrive-in-Refusal.new.self c.deref-in-Refusal.ensures.value (ap (λ l. comes_to_station x12 c.args.site c.args.from c.args.at.now c.args.station.now.state (load_view l)) c.in-Refusal.is) c.arrive-in-Refusal.ensures.crash
