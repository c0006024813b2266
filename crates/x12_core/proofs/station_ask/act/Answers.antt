-- A fault of the records is one of any table; and what was submitted is listed.
use Rattle.std.proofs.Common.{ap, map, subst}
use Rattle.std.specs.Arc.{arc_slice_items}
use Rattle.x12_core.specs.Action.{acts}
use Rattle.x12_core.specs.Ask.{Do, suits}
use Rattle.x12_core.specs.Node.{IsStation}
use Rattle.x12_core.specs.Submission.{listed}
use Rattle.x12_core.specs.View.{action_view}
use Rattle.x12_profile.specs.X12.{x12}
use Rattle.x12_station.specs.Opened.{HoldsState}
use Rattle.x12_station.specs.Ordering.{order_view}
use Rattle.x12_station.specs.Station.{agreed}
use Rattle.x12_core.proofs.AskLemmas.{records_refuse_at}
use Rattle.x12_core.proofs.DiskLemmas.{ordered, prepared, stops, unasked}
use Rattle.x12_core.proofs.SubmissionLemmas.{orders_listed, prepared_listed}
use Rattle.x12_core.proofs.station_ask.act.Goals as goal

pub returns-in_err-set_agreement-in-Agree-clause-refused :
    goal.returns-in_err-set_agreement-in-Agree-clause-refused
returns-in_err-set_agreement-in-Agree-clause-refused g c = λ answers.
    let s = c.args.station.now.state in
    let i = c.args.site.node in
    records_refuse_at c.from_residual-in_err-set_agreement-in-Agree.result c.in_err-set_agreement-in-Agree.field-0.0 (Do (action_view c.args.action.now)) s i (ap (λ a. suits i (Do (action_view a)) (IsStation s)) c.in-Agree.is)
    c.in_err-set_agreement-in-Agree.ensures.fault c.from_residual-in_err-set_agreement-in-Agree.ensures.1

pub returns-in_err-restart-in-Restart-clause-refused :
    goal.returns-in_err-restart-in-Restart-clause-refused
returns-in_err-restart-in-Restart-clause-refused g c = λ answers.
    let s = c.args.station.now.state in
    let i = c.args.site.node in
    records_refuse_at c.from_residual-in_err-restart-in-Restart.result c.in_err-restart-in-Restart.field-0.0 (Do (action_view c.args.action.now)) s i (ap (λ a. suits i (Do (action_view a)) (IsStation s)) c.in-Restart.is)
    c.in_err-restart-in-Restart.ensures.fault c.from_residual-in_err-restart-in-Restart.ensures.1

pub returns-in_ok-sent-in-SubmitOrders-clause-submits :
    goal.returns-in_ok-sent-in-SubmitOrders-clause-submits
returns-in_ok-sent-in-SubmitOrders-clause-submits g c = λ answers.
    let sent = c.in_ok-sent-in-SubmitOrders.sent in
    orders_listed c.args.site.node sent.icn c.args.station.now.state c.submit_orders.new.self.state _ _ _ (arc_slice_items sent.bytes)
    (listed c.submitted.result) (c.in_ok-sent-in-SubmitOrders.ensures.took answers) c.in_ok-sent-in-SubmitOrders.ensures.number c.submitted.ensures.listed

pub returns-in_ok-sent-in-SubmitPrepared-clause-submits :
    goal.returns-in_ok-sent-in-SubmitPrepared-clause-submits
returns-in_ok-sent-in-SubmitPrepared-clause-submits g c = λ answers.
    let sent = c.in_ok-sent-in-SubmitPrepared.sent in
    prepared_listed c.args.site.node sent.icn c.args.station.now.state c.submit_prepared.new.self.state _ (arc_slice_items sent.bytes)
    (listed c.submitted-in-SubmitPrepared.result) (c.in_ok-sent-in-SubmitPrepared.ensures.took answers) c.in_ok-sent-in-SubmitPrepared.ensures.number c.submitted-in-SubmitPrepared.ensures.listed

-- What each action leaves of the disk is its step.

pub returns-in_err-sent-in-SubmitOrders-clause-crash :
    goal.returns-in_err-sent-in-SubmitOrders-clause-crash
returns-in_err-sent-in-SubmitOrders-clause-crash g c =
    ordered g.R.Records _ c.args.site c.in-SubmitOrders.to c.in-SubmitOrders.at _ _ _ c.args.station.now c.submit_orders.new.self (ap (map order_view) c.deref.ensures.value) (ap (λ a. acts x12 c.args.site (action_view a) (IsStation c.args.station.now.state)) c.in-SubmitOrders.is) c.submit_orders.ensures.crash

pub returns-in_err-sent-in-SubmitPrepared-clause-crash :
    goal.returns-in_err-sent-in-SubmitPrepared-clause-crash
returns-in_err-sent-in-SubmitPrepared-clause-crash g c =
    prepared g.R.Records _ c.args.site _ _ _ c.args.station.now c.submit_prepared.new.self c.deref-in-SubmitPrepared.ensures.value (ap (λ a. acts x12 c.args.site (action_view a) (IsStation c.args.station.now.state)) c.in-SubmitPrepared.is) c.submit_prepared.ensures.crash

pub returns-in_err-due-in-Tick-clause-crash :
    goal.returns-in_err-due-in-Tick-clause-crash
returns-in_err-due-in-Tick-clause-crash g c =
    stops g.R.Records _ _ _ _ c.args.station.now c.tick.new.self (ap (λ a. acts x12 c.args.site (action_view a) (IsStation c.args.station.now.state)) c.in-Tick.is) (λ d h. absurd h) c.tick.ensures.asks_none.left

pub returns-in_err-set_agreement-in-Agree-clause-crash :
    goal.returns-in_err-set_agreement-in-Agree-clause-crash
returns-in_err-set_agreement-in-Agree-clause-crash g c =
    stops g.R.Records _ _ _ _ c.args.station.now c.set_agreement.new.self (ap (λ a. acts x12 c.args.site (action_view a) (IsStation c.args.station.now.state)) c.in-Agree.is)
    (λ d h. subst (λ v. HoldsState (record c.args.station.now.state { agreements = agreed v c.args.station.now.state.agreements }) d) c.in_ok-agreement-in-Agree.ensures h) c.set_agreement.ensures.crash

pub returns-in_err-restart-in-Restart-clause-crash :
    goal.returns-in_err-restart-in-Restart-clause-crash
returns-in_err-restart-in-Restart-clause-crash g c =
    stops g.R.Records _ _ _ _ c.args.station.now c.restart.new.self (ap (λ a. acts x12 c.args.site (action_view a) (IsStation c.args.station.now.state)) c.in-Restart.is) (λ d h. absurd h) c.restart.ensures.crash

pub returns-in_ok-sent-in-SubmitOrders-clause-crash :
    goal.returns-in_ok-sent-in-SubmitOrders-clause-crash
returns-in_ok-sent-in-SubmitOrders-clause-crash g c =
    ordered g.R.Records _ c.args.site c.in-SubmitOrders.to c.in-SubmitOrders.at _ _ _ c.args.station.now c.submit_orders.new.self (ap (map order_view) c.deref.ensures.value) (ap (λ a. acts x12 c.args.site (action_view a) (IsStation c.args.station.now.state)) c.in-SubmitOrders.is) c.submit_orders.ensures.crash

pub returns-in_ok-sent-in-SubmitPrepared-clause-crash :
    goal.returns-in_ok-sent-in-SubmitPrepared-clause-crash
returns-in_ok-sent-in-SubmitPrepared-clause-crash g c =
    prepared g.R.Records _ c.args.site _ _ _ c.args.station.now c.submit_prepared.new.self c.deref-in-SubmitPrepared.ensures.value (ap (λ a. acts x12 c.args.site (action_view a) (IsStation c.args.station.now.state)) c.in-SubmitPrepared.is) c.submit_prepared.ensures.crash

pub returns-in_ok-due-in-Tick-clause-crash :
    goal.returns-in_ok-due-in-Tick-clause-crash
returns-in_ok-due-in-Tick-clause-crash g c =
    stops g.R.Records _ _ _ _ c.args.station.now c.tick.new.self (ap (λ a. acts x12 c.args.site (action_view a) (IsStation c.args.station.now.state)) c.in-Tick.is) (λ d h. absurd h) c.tick.ensures.asks_none.left

pub returns-in_ok-set_agreement-in-Agree-clause-crash :
    goal.returns-in_ok-set_agreement-in-Agree-clause-crash
returns-in_ok-set_agreement-in-Agree-clause-crash g c =
    stops g.R.Records _ _ _ _ c.args.station.now c.set_agreement.new.self (ap (λ a. acts x12 c.args.site (action_view a) (IsStation c.args.station.now.state)) c.in-Agree.is)
    (λ d h. subst (λ v. HoldsState (record c.args.station.now.state { agreements = agreed v c.args.station.now.state.agreements }) d) c.in_ok-agreement-in-Agree.ensures h) c.set_agreement.ensures.crash

pub returns-in_ok-restart-in-Restart-clause-crash :
    goal.returns-in_ok-restart-in-Restart-clause-crash
returns-in_ok-restart-in-Restart-clause-crash g c =
    stops g.R.Records _ _ _ _ c.args.station.now c.restart.new.self (ap (λ a. acts x12 c.args.site (action_view a) (IsStation c.args.station.now.state)) c.in-Restart.is) (λ d h. absurd h) c.restart.ensures.crash

pub returns-in_err-agreement-in-Agree-clause-crash :
    goal.returns-in_err-agreement-in-Agree-clause-crash
returns-in_err-agreement-in-Agree-clause-crash g c =
    unasked g.R.Records _ c.from_residual-in_err-agreement-in-Agree.result c.args.station.now _ c.from_residual-in_err-agreement-in-Agree.ensures.1
