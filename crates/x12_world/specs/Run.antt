-- Runs: what becomes of a world by a list of events, in any network.
use Rattle.std.specs.Prelude.{List, [], ◌∷◌, ◌++◌, if◌then◌else◌, is_some}
use Rattle.x12_profile.specs.Profile.{Profile}
use Rattle.x12_world.specs.World.{World, Event}
use Rattle.x12_world.specs.Effect.{asked_by, after_asked}
use Rattle.x12_world.specs.EventRefusal.{event_refusal}
use Rattle.x12_world.specs.Network.{Network, IsNetwork, new_nodes}

module _ (p : Profile) where
  -- the world after an event, which changes nothing where it is refused
  abbrev pub happens : World → Event → World
  happens w e = if is_some (event_refusal p w e) then w else after_asked p w (asked_by w.packets e)

  -- the world after a list of events; one that is refused is passed over, where `World::run` stops
  abbrev pub run : List Event → World → World
  run [] w = w
  run (e ∷ es) w = run es (happens w e)

-- a network with empty records, in which nothing was sent
abbrev pub new_world : Network → World
new_world net = record { nodes = new_nodes net; packets = []; events = 0 }

-- what holds of the world after each list of events, in each network
abbrev pub InEveryWorld : (p : Profile) → (World → Type 0) → Type 0
InEveryWorld p P = (net : Network) → IsNetwork p net → (events : List Event)
    → P (run p events (new_world net))

-- what holds of the worlds after each list of events and after each longer list, in each network
abbrev pub InEveryRun : (p : Profile) → (World → World → Type 0) → Type 0
InEveryRun p P = (net : Network) → IsNetwork p net → (events more : List Event)
    → P (run p events (new_world net)) (run p (events ++ more) (new_world net))
