-- What a hub does in a turn over the folder of one depositor: steps of its definition, while its records answer.
use Rattle.std.specs.Prelude.{◌≡◌, IsTrue, List, Some, map, ℕ}
use Rattle.x12_envelopes.specs.declared.moment.Moment.{Moment}
use Rattle.x12_hub.specs.Hub.{HubOutcome, collect, deposit, taken}
use Rattle.x12_hub.specs.HubView.{HubView}
use Rattle.x12_profile.specs.Interchange.{Bytes}
use Rattle.x12_profile.specs.X12.{x12}
use Rattle.x12_spool.specs.declared.depositor.Depositor.{Depositor}
use Rattle.x12_spool.specs.declared.hub.HubAt.{HubAt}
use Rattle.x12_spool.specs.Depositor.{MayDeposit, sent_back}
use Rattle.x12_spool.specs.Node.{Offered, item_offer}

-- a deposit of this depositor, and what the hub sends back of it
pub record IsDepositAt {H : Type 0} (depositor : Depositor) (at : Moment) (b : Bytes) (old new : HubView H) (sends : List Bytes) : Type 0 where
  pub may : MayDeposit depositor b
  pub step : IsTrue new.answers → IsTrue old.answers
      × (outcome : HubOutcome) × (deposit x12 old.hub at b ≡ Some (record { hub = new.hub; outcome = outcome }))
      × (sends ≡ sent_back depositor b outcome)

-- an item of this node's mailbox was taken
abbrev pub IsTakenAt : {H : Type 0} → ℕ → ℕ → HubView H → HubView H → Type 0
IsTakenAt node item old new = IsTrue new.answers → IsTrue old.answers × (new.hub ≡ taken old.hub node item)

-- what waits in this node's mailbox
abbrev pub AreWaitingAt : {H : Type 0} → ℕ → HubView H → HubView H → List Offered → Type 0
AreWaitingAt node old new offered = IsTrue new.answers → IsTrue old.answers
    × (new.hub ≡ old.hub) × (offered ≡ map item_offer (collect old.hub node))

-- the hub is as it was
abbrev pub IsSameHub : {H : Type 0} → HubView H → HubView H → Type 0
IsSameHub old new = IsTrue new.answers → IsTrue old.answers × (new.hub ≡ old.hub)

-- the same moment, over the same folder
abbrev pub IsSameTurn : {H : Type 0} → HubAt H → HubAt H → Type 0
IsSameTurn old new = (new.at ≡ old.at) × (new.depositor ≡ old.depositor) × (new.node ≡ old.node)
