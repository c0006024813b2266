-- What each state of a hub has, and each of its steps keeps: its decisions are numbered by their
-- items, and no bytes stand twice in them.
use Rattle.std.specs.Prelude.{◌≡◌, ◌≢◌, ℕ, ◌+◌, Some, length, slice_get, AllPairs}
use Rattle.x12_envelopes.specs.declared.party.Party.{Party}
use Rattle.x12_envelopes.specs.declared.moment.Moment.{Moment}
use Rattle.x12_profile.specs.Interchange.{Bytes}
use Rattle.x12_profile.specs.Profile.{Profile}
use Rattle.x12_hub.specs.Hub.{Hub, HubStep, Boxed, new_hub, deposit, taken, enrolled, dismissed}

-- of a hub
pub record IsHubState (h : Hub) : Type 0 where
  -- the last item number is the number of decisions
  pub counted : h.item ≡ length h.decisions
  -- an item's number is the place of its decision, from 1
  pub numbered : (place node item : ℕ) (b : Bytes)
      → slice_get h.decisions place ≡ Some (record { body = b; outcome = Boxed node item })
      → item ≡ place + 1
  -- no bytes were decided twice
  pub once : AllPairs (λ d e. d.body ≢ e.body) h.decisions

-- a new hub is in such a state, and each step of a hub keeps it
pub record HubStepsKeep (p : Profile) : Type 0 where
  pub new : (me : Party) → IsHubState (new_hub me)
  pub deposits : (h : Hub) (at : Moment) (b : Bytes) (step : HubStep) → IsHubState h
      → deposit p h at b ≡ Some step → IsHubState step.hub
  pub takes : (h : Hub) (node item : ℕ) → IsHubState h → IsHubState (taken h node item)
  pub enrols : (h : Hub) (party : Party) (node : ℕ) → IsHubState h
      → IsHubState (enrolled h party node)
  pub dismisses : (h : Hub) (party : Party) → IsHubState h → IsHubState (dismissed h party)
