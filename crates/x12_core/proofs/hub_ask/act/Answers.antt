-- What each action leaves of the disk is its step.
use Rattle.std.proofs.Common.{ap}
use Rattle.x12_core.specs.Action.{acts}
use Rattle.x12_core.specs.Node.{IsHub}
use Rattle.x12_core.specs.View.{action_view}
use Rattle.x12_profile.specs.X12.{x12}
use Rattle.x12_core.proofs.DiskLemmas.{hub_stops}
use Rattle.x12_core.proofs.hub_ask.act.Goals as goal

pub returns-in_err-items-in-Collect-clause-crash :
    goal.returns-in_err-items-in-Collect-clause-crash
returns-in_err-items-in-Collect-clause-crash g c =
    hub_stops g.H.HubRecords _ _ _ _ c.args.hub.now c.collect.new.self (ap (λ a. acts x12 c.args.site (action_view a) (IsHub c.args.hub.now.hub)) c.in-Collect.is) (λ d h. absurd h) c.collect.ensures.crash

pub returns-in_ok-items-in-Collect-clause-crash :
    goal.returns-in_ok-items-in-Collect-clause-crash
returns-in_ok-items-in-Collect-clause-crash g c =
    hub_stops g.H.HubRecords _ _ _ _ c.args.hub.now c.collect.new.self (ap (λ a. acts x12 c.args.site (action_view a) (IsHub c.args.hub.now.hub)) c.in-Collect.is) (λ d h. absurd h) c.collect.ensures.crash

pub returns-in_err-enrol-in-Enrol-clause-crash :
    goal.returns-in_err-enrol-in-Enrol-clause-crash
returns-in_err-enrol-in-Enrol-clause-crash g c =
    hub_stops g.H.HubRecords _ _ _ _ c.args.hub.now c.enrol.new.self (ap (λ a. acts x12 c.args.site (action_view a) (IsHub c.args.hub.now.hub)) c.in-Enrol.is) (λ d h. h) c.enrol.ensures.crash

pub returns-in_ok-enrol-in-Enrol-clause-crash :
    goal.returns-in_ok-enrol-in-Enrol-clause-crash
returns-in_ok-enrol-in-Enrol-clause-crash g c =
    hub_stops g.H.HubRecords _ _ _ _ c.args.hub.now c.enrol.new.self (ap (λ a. acts x12 c.args.site (action_view a) (IsHub c.args.hub.now.hub)) c.in-Enrol.is) (λ d h. h) c.enrol.ensures.crash

pub returns-in_err-dismiss-in-Dismiss-clause-crash :
    goal.returns-in_err-dismiss-in-Dismiss-clause-crash
returns-in_err-dismiss-in-Dismiss-clause-crash g c =
    hub_stops g.H.HubRecords _ _ _ _ c.args.hub.now c.dismiss.new.self (ap (λ a. acts x12 c.args.site (action_view a) (IsHub c.args.hub.now.hub)) c.in-Dismiss.is) (λ d h. h) c.dismiss.ensures.crash

pub returns-in_ok-dismiss-in-Dismiss-clause-crash :
    goal.returns-in_ok-dismiss-in-Dismiss-clause-crash
returns-in_ok-dismiss-in-Dismiss-clause-crash g c =
    hub_stops g.H.HubRecords _ _ _ _ c.args.hub.now c.dismiss.new.self (ap (λ a. acts x12 c.args.site (action_view a) (IsHub c.args.hub.now.hub)) c.in-Dismiss.is) (λ d h. h) c.dismiss.ensures.crash

pub returns-in_err-restart-in-Restart-clause-crash :
    goal.returns-in_err-restart-in-Restart-clause-crash
returns-in_err-restart-in-Restart-clause-crash g c =
    hub_stops g.H.HubRecords _ _ _ _ c.args.hub.now c.restart.new.self (ap (λ a. acts x12 c.args.site (action_view a) (IsHub c.args.hub.now.hub)) c.in-Restart.is) (λ d h. absurd h) c.restart.ensures.crash

pub returns-in_ok-restart-in-Restart-clause-crash :
    goal.returns-in_ok-restart-in-Restart-clause-crash
returns-in_ok-restart-in-Restart-clause-crash g c =
    hub_stops g.H.HubRecords _ _ _ _ c.args.hub.now c.restart.new.self (ap (λ a. acts x12 c.args.site (action_view a) (IsHub c.args.hub.now.hub)) c.in-Restart.is) (λ d h. absurd h) c.restart.ensures.crash
