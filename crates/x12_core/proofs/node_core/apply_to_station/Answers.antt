-- A fate that is told is no packet.
use Rattle.std.proofs.Common.{ap, subst, sym}
use Rattle.x12_core.specs.Ask.{does_at}
use Rattle.x12_core.specs.Bound.{station_bound}
use Rattle.x12_core.specs.Disk.{StopsWhole}
use Rattle.x12_core.specs.Node.{IsStation}
use Rattle.x12_core.specs.View.{ask_view}
use Rattle.x12_profile.specs.X12.{x12}
use Rattle.x12_core.proofs.DiskLemmas.{whole_err, whole_ok}
use Rattle.x12_core.proofs.node_core.apply_to_station.Goals as goal

pub returns-in-Err-clause-bounded : goal.returns-in-Err-clause-bounded
returns-in-Err-clause-bounded g c = c.tell.ensures.bounded (station_bound (ask_view c.args.ask.now) c.args.station.now.memory)

-- What is asked leaves of the disk its step.

pub returns-in_err-ask_station-in-Ok-clause-crash :
    goal.returns-in_err-ask_station-in-Ok-clause-crash
returns-in_err-ask_station-in-Ok-clause-crash g c =
    whole_err g.R.Records _ _ _ c.from_residual.result c.args.station.now c.ask_station.new.station _ (ap (λ a. does_at x12 c.args.site a (IsStation c.args.station.now.state)) (sym c.in-Ok.ensures.step)) c.from_residual.ensures.1 c.ask_station.ensures.crash

pub returns-in_ok-ask_station-in-Ok-clause-crash :
    goal.returns-in_ok-ask_station-in-Ok-clause-crash
returns-in_ok-ask_station-in-Ok-clause-crash g c =
    whole_ok g.R.Records _ _ _ _ c.args.station.now c.ask_station.new.station (ap (λ a. does_at x12 c.args.site a (IsStation c.args.station.now.state)) (sym c.in-Ok.ensures.step)) c.in_ok-ask_station-in-Ok.ensures.crash

pub returns-in-Err-clause-crash :
    goal.returns-in-Err-clause-crash
returns-in-Err-clause-crash g c =
    subst (λ a. StopsWhole g.R.Records (does_at x12 c.args.site a (IsStation c.args.station.now.state)) c.tell.result c.args.station.now c.tell.new.station) (sym c.in-Err.ensures.fate) c.tell.ensures.crash
