-- The hub's faults at bytes from outside are those of its table.
use Rattle.std.proofs.Common.{sym, subst, ap, refl, Err, None, []}
use Rattle.x12_core.specs.Core.{IsCoreRefusal}
use Rattle.x12_core.specs.Disk.{HubStopsWhole}
use Rattle.x12_core.specs.Fault.{IsHubFault}
use Rattle.x12_core.specs.Ask.{bytes_of_ask, does_at, suits}
use Rattle.x12_core.specs.Node.{IsHub}
use Rattle.x12_core.specs.View.{ref_view}
use Rattle.x12_profile.specs.X12.{x12}
use Rattle.x12_core.proofs.AskLemmas.{fault_is, handed}
use Rattle.x12_core.proofs.DiskLemmas.{deposited}
use Rattle.x12_core.proofs.hub_ask.ask_hub.Goals as goal

pub returns-in_err-deposit-in-Outside-clause-refused :
    goal.returns-in_err-deposit-in-Outside-clause-refused
returns-in_err-deposit-in-Outside-clause-refused g c = λ answers.
    let h = c.args.hub.now.hub in
    let b = c.in-Outside.bytes.now in
    let i = c.args.site.node in
    let fault = c.in_err-deposit-in-Outside.field-0.0 in
    let told = c.in_err-deposit-in-Outside.ensures in
    handed c.from_residual.result fault (IsCoreRefusal i (ref_view c.args.ask.now) (IsHub h))
    (ap (λ a. suits i (ref_view a) (IsHub h)) c.in-Outside.is, subst (λ a. IsHubFault h (bytes_of_ask (ref_view a)) fault) (sym c.in-Outside.is) (fault_is h b fault (λ f is. (told.unreadable f).0 (ap Err is)) (told.exhausted answers)))
    c.from_residual.ensures.1

-- What is asked leaves of the disk its step.

pub returns-in_err-deposit-in-Outside-clause-crash :
    goal.returns-in_err-deposit-in-Outside-clause-crash
returns-in_err-deposit-in-Outside-clause-crash g c =
    deposited g.H.HubRecords _ c.args.site.node [] None _ _ _ _ c.args.hub.now c.deposit.new.self refl (ap (λ a. does_at x12 c.args.site (ref_view a) (IsHub c.args.hub.now.hub)) c.in-Outside.is) c.deposit.ensures.crash

pub returns-in_ok-deposit-in-Outside-clause-crash :
    goal.returns-in_ok-deposit-in-Outside-clause-crash
returns-in_ok-deposit-in-Outside-clause-crash g c =
    deposited g.H.HubRecords _ c.args.site.node [] None _ _ _ _ c.args.hub.now c.deposit.new.self refl (ap (λ a. does_at x12 c.args.site (ref_view a) (IsHub c.args.hub.now.hub)) c.in-Outside.is) c.deposit.ensures.crash

pub returns-in-Do-clause-crash :
    goal.returns-in-Do-clause-crash
returns-in-Do-clause-crash g c =
    subst (λ a. HubStopsWhole g.H.HubRecords (does_at x12 c.args.site (ref_view a) (IsHub c.args.hub.now.hub)) c.act.result c.args.hub.now c.act.new.hub) (sym c.in-Do.is) c.act.ensures.crash

pub returns-in-Deliver-clause-crash :
    goal.returns-in-Deliver-clause-crash
returns-in-Deliver-clause-crash g c =
    subst (λ a. HubStopsWhole g.H.HubRecords (does_at x12 c.args.site (ref_view a) (IsHub c.args.hub.now.hub)) c.take.result c.args.hub.now c.take.new.hub) (sym c.in-Deliver.is) c.take.ensures.crash
