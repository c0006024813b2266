-- Between nodes nothing contradicts: not the evidence, and not the bytes under a number.
use Rattle.std.specs.Prelude.{◌≡◌, ℕ, Some, Contains}
use Rattle.x12_profile.specs.Interchange.{Bytes, PlacedEvidence}
use Rattle.x12_profile.specs.Profile.{Profile}
use Rattle.x12_station.specs.History.{KeptArrival, filed, told_in}
use Rattle.x12_station.specs.Station.{Station}
use Rattle.x12_world.specs.World.{World, StationAt}
use Rattle.x12_world.specs.Traffic.{IsNode, WasSent, HasSubmitted}

module _ (p : Profile) where
  -- between nodes nothing contradicts
  pub record NoConflict (w : World) : Type 0 where
    -- all that a station was ever told of a set that it addressed to a node says the same
    pub one_fate : (s : Station) (x : Bytes) → HasSubmitted w s x → IsNode w (p.receiver x)
        → (e f : PlacedEvidence) → Contains (told_in p s.me s.hubs s.items x) e
        → Contains (told_in p s.me s.hubs s.items x) f → e.place ≡ f.place → e.fate ≡ f.fate
    -- what bears a node's name is never other bytes under a filed number
    pub never_other : (b : Bytes) → WasSent w b → IsNode w (p.sender b) → (j : ℕ) (s : Station)
        → StationAt w j s → (f : KeptArrival) → filed p s.items (p.sender b) (p.number b) ≡ Some f
        → f.body ≡ b
