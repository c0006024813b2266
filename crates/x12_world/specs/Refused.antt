-- Refusals have names: an event is taken exactly where the table of refusals is empty, and one that
-- is refused changes nothing.
use Rattle.std.specs.Prelude.{◌≡◌, suc, Some, None}
use Rattle.x12_profile.specs.Profile.{Profile}
use Rattle.x12_world.specs.World.{World, Event}
use Rattle.x12_world.specs.EventRefusal.{EventRefusal, event_refusal}
use Rattle.x12_world.specs.Run.{happens}

-- of an event in a world
pub record IsRefusedByName (p : Profile) (w : World) (e : Event) : Type 0 where
  -- an event that the table refuses leaves the world as it was
  pub refused : (r : EventRefusal) → event_refusal p w e ≡ Some r → happens p w e ≡ w
  -- any other is one event more
  pub taken : event_refusal p w e ≡ None → (happens p w e).events ≡ suc w.events
