-- An arrival submits nothing.
use Rattle.std.proofs.Common.{ap, refl, subst, sym, []}
use Rattle.x12_core.specs.Ask.{does_at}
use Rattle.x12_core.specs.Disk.{StopsWhole}
use Rattle.x12_core.specs.Node.{IsStation}
use Rattle.x12_core.specs.Submission.{listed}
use Rattle.x12_core.specs.View.{ref_view}
use Rattle.x12_profile.specs.X12.{x12}
use Rattle.x12_core.proofs.DiskLemmas.{arrived}
use Rattle.x12_core.proofs.SubmissionLemmas.{arrival_listed}
use Rattle.x12_core.proofs.station_ask.ask_station.Goals as goal

pub returns-in_ok-arrival-in-Outside-clause-submits :
    goal.returns-in_ok-arrival-in-Outside-clause-submits
returns-in_ok-arrival-in-Outside-clause-submits g c = λ answers.
    arrival_listed c.args.site.node c.args.station.now.state c.arrive.new.self.state _ _ _ (listed c.answered.result) (c.in_ok-arrival-in-Outside.ensures.took answers) c.answered.ensures.listed

-- What is asked leaves of the disk its step.

pub returns-in_err-arrival-in-Outside-clause-crash :
    goal.returns-in_err-arrival-in-Outside-clause-crash
returns-in_err-arrival-in-Outside-clause-crash g c =
    arrived g.R.Records _ c.args.site [] _ _ _ _ c.args.station.now c.arrive.new.self refl (ap (λ a. does_at x12 c.args.site (ref_view a) (IsStation c.args.station.now.state)) c.in-Outside.is) c.arrive.ensures.crash

pub returns-in_ok-arrival-in-Outside-clause-crash :
    goal.returns-in_ok-arrival-in-Outside-clause-crash
returns-in_ok-arrival-in-Outside-clause-crash g c =
    arrived g.R.Records _ c.args.site [] _ _ _ _ c.args.station.now c.arrive.new.self refl (ap (λ a. does_at x12 c.args.site (ref_view a) (IsStation c.args.station.now.state)) c.in-Outside.is) c.arrive.ensures.crash

pub returns-in-Do-clause-crash :
    goal.returns-in-Do-clause-crash
returns-in-Do-clause-crash g c =
    subst (λ a. StopsWhole g.R.Records (does_at x12 c.args.site (ref_view a) (IsStation c.args.station.now.state)) c.act.result c.args.station.now c.act.new.station) (sym c.in-Do.is) c.act.ensures.crash

pub returns-in-Deliver-clause-crash :
    goal.returns-in-Deliver-clause-crash
returns-in-Deliver-clause-crash g c =
    subst (λ a. StopsWhole g.R.Records (does_at x12 c.args.site (ref_view a) (IsStation c.args.station.now.state)) c.take.result c.args.station.now c.take.new.station) (sym c.in-Deliver.is) c.take.ensures.crash
