-- What a call makes of a running network: an event that was taken, a run, and a run that a refusal
-- stopped.
use Rattle.std.specs.Prelude.{◌≡◌, ℕ, ◌≤◌, List, [], ◌∷◌, length, map, take, Some, slice_get, ◌⊎◌, None}
use Rattle.x12_profile.specs.X12.{x12}
use Rattle.x12_world.specs.declared.outcome.Outcome.{Outcome as CodeOutcome}
use Rattle.x12_world.specs.declared.refused.Refused.{Refused}
use Rattle.x12_world.specs.declared.refused.Refused.TheVariants.{Memory}
use Rattle.x12_world.specs.EventRefusal.{event_refusal}
use Rattle.x12_world.specs.Loss.{Happening, happens_so, run_so}
use Rattle.x12_world.specs.Outcome.{EventOutcome, outcome_of}
use Rattle.x12_world.specs.Refusing.{IsNetworkRefusal}
use Rattle.x12_world.specs.View.{told_view}
use Rattle.x12_world.specs.World.{World, Event}

abbrev pub outcome_view : CodeOutcome → EventOutcome
outcome_view o = record {
  event = o.event;
  packets = map told_view o.packets.items;
  lost = o.lost;
}

-- an event, and whether the packets that it sent were lost, by its outcome
abbrev pub happening : Event → EventOutcome → Happening
happening e o = record { event = e; lost = o.lost }

-- an event was taken: no row of the table refuses it, the world is the definition's, and the outcome
-- tells it
pub record Ran (w : World) (e : Event) (o : EventOutcome) (new : World) : Type 0 where
  pub table : event_refusal x12 w e ≡ None
  pub world : new ≡ happens_so x12 w (happening e o)
  pub outcome : o ≡ outcome_of x12 w (happening e o)

-- each event was taken, in the world that those before it left
abbrev pub EachRan : World → List Event → List EventOutcome → World → Type 0
EachRan w [] [] new = new ≡ w
EachRan w (e ∷ es) (o ∷ os) new = (mid : World) × Ran w e o mid × EachRan mid es os new
EachRan w [] (o ∷ os) new = ⊥
EachRan w (e ∷ es) [] new = ⊥

-- events, and whether the packets of each were lost
abbrev pub happenings : List Event → List EventOutcome → List Happening
happenings (e ∷ es) (o ∷ os) = happening e o ∷ happenings es os
happenings [] os = []
happenings (e ∷ es) [] = []

-- a run: each event was taken, and the world is the definition's run
pub record RanAll (w : World) (es : List Event) (os : List EventOutcome) (new : World) : Type 0 where
  pub each : EachRan w es os new
  pub world : new ≡ run_so x12 (happenings es os) w

-- a run that stopped at this place, from 0: the events before it were taken, and its event was
-- refused, or memory was missing
pub record StoppedAt (w : World) (es : List Event) (place : ℕ) (r : Refused) (new : World) :
    Type 0 where
  pub within : place ≤ length es
  pub before : (os : List EventOutcome) × RanAll w (take place es) os new
  pub why : (r ≡ Memory) ⊎ ((e : Event) × (slice_get es place ≡ Some e) × IsNetworkRefusal new e r)
