-- A hub decides once: no bytes stand twice among its decisions, each decision has the next item
-- number, and what was decided stays.
use Rattle.std.specs.Prelude.{◌≡◌, ℕ, List, [], ◌∷◌, length, Some, None}
use Rattle.x12_envelopes.specs.declared.party.Party.{Party}
use Rattle.x12_envelopes.specs.declared.moment.Moment.{Moment}
use Rattle.x12_profile.specs.Interchange.{Bytes}
use Rattle.x12_profile.specs.Profile.{Profile}
use Rattle.x12_hub.specs.Hub.{Hub, HubStep, Decision, HubOutcome, new_hub, decided, deposit, taken, enrolled, dismissed}

-- no bytes stand twice in a list of decisions: none behind a decision is on its bytes
abbrev pub AreOnce : List Decision → Type 0
AreOnce [] = Unit {0}
AreOnce (d ∷ ds) = (decided ds d.body ≡ None) × AreOnce ds

-- no bytes stand twice among the decisions, and the last item number is how many decisions there are
pub record IsCounted (h : Hub) : Type 0 where
  pub once : AreOnce h.decisions
  pub count : h.item ≡ length h.decisions

-- what is decided stays: the later hub gives each bytes the outcome that the earlier one did
abbrev pub StaysDecided : Hub → Hub → Type 0
StaysDecided old new =
    (b : Bytes) (o : HubOutcome) → decided old.decisions b ≡ Some o → decided new.decisions b ≡ Some o

-- a hub of any profile, from empty records on, whatever happens to it
pub record HubDecidesOnce : Type 0 where
  pub new : (me : Party) → IsCounted (new_hub me)
  pub deposits :
      (p : Profile) (h : Hub) (at : Moment) (b : Bytes) (step : HubStep) → IsCounted h →
      deposit p h at b ≡ Some step → IsCounted step.hub
  pub takes : (h : Hub) (node item : ℕ) → IsCounted h → IsCounted (taken h node item)
  pub enrols : (h : Hub) (party : Party) (node : ℕ) → IsCounted h → IsCounted (enrolled h party node)
  pub dismisses : (h : Hub) (party : Party) → IsCounted h → IsCounted (dismissed h party)
  -- a deposit's outcome is what the hub then says of the bytes; what is decided stays at each step
  pub answers :
      (p : Profile) (h : Hub) (at : Moment) (b : Bytes) (step : HubStep) →
      deposit p h at b ≡ Some step → decided step.hub.decisions b ≡ Some step.outcome
  pub keeps :
      (p : Profile) (h : Hub) (at : Moment) (b : Bytes) (step : HubStep) →
      deposit p h at b ≡ Some step → StaysDecided h step.hub
  pub keeps_at_taking : (h : Hub) (node item : ℕ) → StaysDecided h (taken h node item)
  pub keeps_at_enrolling : (h : Hub) (party : Party) (node : ℕ) → StaysDecided h (enrolled h party node)
  pub keeps_at_dismissing : (h : Hub) (party : Party) → StaysDecided h (dismissed h party)
