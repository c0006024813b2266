-- What is asked leaves of the disk its step.
use Rattle.std.proofs.Common.{ap, sym}
use Rattle.x12_core.specs.Ask.{does_at}
use Rattle.x12_core.specs.Node.{IsHub}
use Rattle.x12_profile.specs.X12.{x12}
use Rattle.x12_core.proofs.DiskLemmas.{hub_whole_err, hub_whole_ok}
use Rattle.x12_core.proofs.node_core.apply_to_hub.Goals as goal

pub returns-in_err-ask_hub-in-Ok-clause-crash :
    goal.returns-in_err-ask_hub-in-Ok-clause-crash
returns-in_err-ask_hub-in-Ok-clause-crash g c =
    hub_whole_err g.H.HubRecords _ _ _ c.from_residual.result c.args.hub.now c.ask_hub.new.hub _ (ap (λ a. does_at x12 c.args.site a (IsHub c.args.hub.now.hub)) (sym c.in-Ok.ensures.step)) c.from_residual.ensures.1 c.ask_hub.ensures.crash

pub returns-in_ok-ask_hub-in-Ok-clause-crash :
    goal.returns-in_ok-ask_hub-in-Ok-clause-crash
returns-in_ok-ask_hub-in-Ok-clause-crash g c =
    hub_whole_ok g.H.HubRecords _ _ _ _ c.args.hub.now c.ask_hub.new.hub (ap (λ a. does_at x12 c.args.site a (IsHub c.args.hub.now.hub)) (sym c.in-Ok.ensures.step)) c.in_ok-ask_hub-in-Ok.ensures.crash
