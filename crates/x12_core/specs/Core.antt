-- A core, what it did where it was asked, and why it refuses.
use Rattle.std.specs.Prelude.{◌≡◌, ℕ, Bool, true, false, Some}
use Rattle.x12_core.specs.declared.node_core.Answer.{Answer}
use Rattle.x12_core.specs.declared.node_core.Answer.TheVariants as answer
use Rattle.x12_core.specs.declared.node_core.Core.{Core}
use Rattle.x12_core.specs.declared.node_core.Core.TheVariants as core
use Rattle.x12_core.specs.declared.fault.CoreFault.{CoreFault}
use Rattle.x12_core.specs.declared.fault.CoreFault.TheVariants as code
use Rattle.x12_core.specs.Ask.{Ask, does_at, suits, fate_told}
use Rattle.x12_core.specs.Fault.{IsRefusalOfAsk}
use Rattle.x12_core.specs.Node.{Node, IsHub, IsStation}
use Rattle.x12_core.specs.declared.packet.Site.{Site}
use Rattle.x12_core.specs.Sends.{sends_view}
use Rattle.x12_profile.specs.X12.{x12}

-- the node that a core is
abbrev pub node_of : {R H : Type 0} → Core R H → Node
node_of (core.Station s) = IsStation s.state
node_of (core.Hub h) = IsHub h.hub

-- whether its records answer
abbrev pub core_answers : {R H : Type 0} → Core R H → Bool
core_answers (core.Station s) = s.answers
core_answers (core.Hub h) = h.answers

-- whether their disk has returned what was written
abbrev pub core_clean : {R H : Type 0} → Core R H → Bool
core_clean (core.Station s) = s.clean
core_clean (core.Hub h) = h.clean

-- how often its records failed
abbrev pub core_failures : {R H : Type 0} → Core R H → ℕ
core_failures (core.Station s) = s.failures
core_failures (core.Hub h) = h.failures

-- the node of this site did as it was asked: it became another and sends these packets, or it told
-- a fate and stayed as it was
abbrev pub Did : Site → Ask → (old new : Node) → Answer → Type 0
Did i ask old new (answer.Sent sends) =
    does_at x12 i ask old ≡ Some (record { node = new; sends = sends_view sends })
Did i ask old new (answer.Fate fate) = (fate_told x12 ask old ≡ Some fate) × (new ≡ old)

-- the node of this number refuses so what it is asked: nodes of its kind aren't asked so, memory was
-- missing, its own table says so, or its records failed
abbrev pub IsCoreRefusal : ℕ → Ask → Node → CoreFault → Type 0
IsCoreRefusal i ask n code.WrongKind = suits i ask n ≡ false
IsCoreRefusal i ask n code.Memory = suits i ask n ≡ true
IsCoreRefusal i ask n (code.Node fault) = (suits i ask n ≡ true) × IsRefusalOfAsk ask n fault
