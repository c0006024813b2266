-- The hub's faults at a deposit are those of its table.
use Rattle.std.proofs.Common.{ℕ, sym, subst, ap, Err, Some, None, [], ◌∷◌}
use Rattle.x12_envelopes.specs.declared.moment.Moment.{Moment}
use Rattle.x12_hub.specs.Hub.{Hub}
use Rattle.x12_core.specs.declared.fault.CoreFault.{CoreFault}
use Rattle.x12_core.specs.Ask.{Comes, is_for}
use Rattle.x12_core.specs.Core.{IsCoreRefusal}
use Rattle.x12_core.specs.Effect.{comes_to_hub, reports_taken}
use Rattle.x12_core.specs.Fault.{IsHubFault}
use Rattle.x12_core.specs.Node.{IsHub}
use Rattle.x12_core.specs.Packet.{Load, PacketName, carried}
use Rattle.x12_core.specs.View.{load_view}
use Rattle.x12_profile.specs.X12.{x12}
use Rattle.x12_core.proofs.AskLemmas.{fault_is, handed}
use Rattle.x12_core.proofs.DiskLemmas.{deposited, hub_stops}
use Rattle.x12_core.proofs.hub_ask.take.Goals as goal

abbrev Refuses : ℕ → ℕ → Load → Moment → Hub → CoreFault → Type 0
Refuses i from l m h f = (name : PacketName) → IsCoreRefusal i (Comes name from l m) (IsHub h) f

pub returns-in_err-decision-in-Deposit-clause-refused :
    goal.returns-in_err-decision-in-Deposit-clause-refused
returns-in_err-decision-in-Deposit-clause-refused g c = λ answers.
    let h = c.args.hub.now.hub in
    let fault = c.in_err-decision-in-Deposit.field-0.0 in
    let told = c.in_err-decision-in-Deposit.ensures in
    let of_bytes = subst (λ b. IsHubFault h (Some b) fault) c.bytes.ensures (fault_is h c.bytes.result.now fault (λ f is. (told.unreadable f).0 (ap Err is)) (told.exhausted answers)) in
    handed c.from_residual.result fault (Refuses c.args.node c.args.from (load_view c.args.load.now) c.args.at.now h)
    (λ name. (ap (λ l. is_for (load_view l) (Some (IsHub h))) c.in-Deposit.is, subst (λ l. IsHubFault h (carried (load_view l)) fault) (sym c.in-Deposit.is) of_bytes))
    c.from_residual.ensures.1

pub returns-in_err-decision-in-Item-clause-refused :
    goal.returns-in_err-decision-in-Item-clause-refused
returns-in_err-decision-in-Item-clause-refused g c = λ answers.
    let h = c.args.hub.now.hub in
    let fault = c.in_err-decision-in-Item.field-0.0 in
    let told = c.in_err-decision-in-Item.ensures in
    let of_bytes = subst (λ b. IsHubFault h (Some b) fault) c.deref.ensures.value (fault_is h c.deref.result.now fault (λ f is. (told.unreadable f).0 (ap Err is)) (told.exhausted answers)) in
    handed c.from_residual-in_err-decision-in-Item.result fault (Refuses c.args.node c.args.from (load_view c.args.load.now) c.args.at.now h)
    (λ name. (ap (λ l. is_for (load_view l) (Some (IsHub h))) c.in-Item.is, subst (λ l. IsHubFault h (carried (load_view l)) fault) (sym c.in-Item.is) of_bytes))
    c.from_residual-in_err-decision-in-Item.ensures.1

pub returns-in_err-deposit-in-Refusal-clause-refused :
    goal.returns-in_err-deposit-in-Refusal-clause-refused
returns-in_err-deposit-in-Refusal-clause-refused g c = λ answers.
    let h = c.args.hub.now.hub in
    let fault = c.in_err-deposit-in-Refusal.field-0.0 in
    let told = c.in_err-deposit-in-Refusal.ensures in
    let of_bytes = subst (λ b. IsHubFault h (Some b) fault) c.deref-in-Refusal.ensures.value (fault_is h c.deref-in-Refusal.result.now fault (λ f is. (told.unreadable f).0 (ap Err is)) (told.exhausted answers)) in
    handed c.from_residual-in_err-deposit-in-Refusal.result fault (Refuses c.args.node c.args.from (load_view c.args.load.now) c.args.at.now h)
    (λ name. (ap (λ l. is_for (load_view l) (Some (IsHub h))) c.in-Refusal.is, subst (λ l. IsHubFault h (carried (load_view l)) fault) (sym c.in-Refusal.is) of_bytes))
    c.from_residual-in_err-deposit-in-Refusal.ensures.1

-- What a packet leaves of the disk is its step.

pub returns-in_err-decision-in-Deposit-clause-crash :
    goal.returns-in_err-decision-in-Deposit-clause-crash
returns-in_err-decision-in-Deposit-clause-crash g c =
    deposited g.H.HubRecords _ c.args.node [] (Some c.args.from) c.args.at.now _ _ _ c.args.hub.now c.deposit.new.self c.bytes.ensures (ap (λ l. comes_to_hub x12 c.args.node c.args.from c.args.at.now c.args.hub.now.hub (load_view l)) c.in-Deposit.is) c.deposit.ensures.crash

pub returns-in_ok-decision-in-Deposit-clause-crash :
    goal.returns-in_ok-decision-in-Deposit-clause-crash
returns-in_ok-decision-in-Deposit-clause-crash g c =
    deposited g.H.HubRecords _ c.args.node [] (Some c.args.from) c.args.at.now _ _ _ c.args.hub.now c.deposit.new.self c.bytes.ensures (ap (λ l. comes_to_hub x12 c.args.node c.args.from c.args.at.now c.args.hub.now.hub (load_view l)) c.in-Deposit.is) c.deposit.ensures.crash

pub returns-in_err-decision-in-Item-clause-crash :
    goal.returns-in_err-decision-in-Item-clause-crash
returns-in_err-decision-in-Item-clause-crash g c =
    deposited g.H.HubRecords _ c.args.node (reports_taken c.args.node c.args.from c.in-Item.item ∷ []) (Some c.args.from) c.args.at.now _ _ _ c.args.hub.now c.deposit-in-Item.new.self c.deref.ensures.value (ap (λ l. comes_to_hub x12 c.args.node c.args.from c.args.at.now c.args.hub.now.hub (load_view l)) c.in-Item.is) c.deposit-in-Item.ensures.crash

pub returns-in_ok-decision-in-Item-clause-crash :
    goal.returns-in_ok-decision-in-Item-clause-crash
returns-in_ok-decision-in-Item-clause-crash g c =
    deposited g.H.HubRecords _ c.args.node (reports_taken c.args.node c.args.from c.in-Item.item ∷ []) (Some c.args.from) c.args.at.now _ _ _ c.args.hub.now c.deposit-in-Item.new.self c.deref.ensures.value (ap (λ l. comes_to_hub x12 c.args.node c.args.from c.args.at.now c.args.hub.now.hub (load_view l)) c.in-Item.is) c.deposit-in-Item.ensures.crash

pub returns-in_err-deposit-in-Refusal-clause-crash :
    goal.returns-in_err-deposit-in-Refusal-clause-crash
returns-in_err-deposit-in-Refusal-clause-crash g c =
    deposited g.H.HubRecords _ c.args.node [] None c.args.at.now _ _ _ c.args.hub.now c.deposit-in-Refusal.new.self c.deref-in-Refusal.ensures.value (ap (λ l. comes_to_hub x12 c.args.node c.args.from c.args.at.now c.args.hub.now.hub (load_view l)) c.in-Refusal.is) c.deposit-in-Refusal.ensures.crash

pub returns-in_ok-deposit-in-Refusal-clause-crash :
    goal.returns-in_ok-deposit-in-Refusal-clause-crash
returns-in_ok-deposit-in-Refusal-clause-crash g c =
    deposited g.H.HubRecords _ c.args.node [] None c.args.at.now _ _ _ c.args.hub.now c.deposit-in-Refusal.new.self c.deref-in-Refusal.ensures.value (ap (λ l. comes_to_hub x12 c.args.node c.args.from c.args.at.now c.args.hub.now.hub (load_view l)) c.in-Refusal.is) c.deposit-in-Refusal.ensures.crash

pub returns-in_err-taken-in-Taken-clause-crash :
    goal.returns-in_err-taken-in-Taken-clause-crash
returns-in_err-taken-in-Taken-clause-crash g c =
    hub_stops g.H.HubRecords _ _ _ _ c.args.hub.now c.taken.new.self (ap (λ l. comes_to_hub x12 c.args.node c.args.from c.args.at.now c.args.hub.now.hub (load_view l)) c.in-Taken.is) (λ d h. h) c.taken.ensures.crash

pub returns-in_ok-taken-in-Taken-clause-crash :
    goal.returns-in_ok-taken-in-Taken-clause-crash
returns-in_ok-taken-in-Taken-clause-crash g c =
    hub_stops g.H.HubRecords _ _ _ _ c.args.hub.now c.taken.new.self (ap (λ l. comes_to_hub x12 c.args.node c.args.from c.args.at.now c.args.hub.now.hub (load_view l)) c.in-Taken.is) (λ d h. h) c.taken.ensures.crash
