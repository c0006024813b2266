-- Control numbers: an interchange that bears a node's name, in any packet that was ever sent, has a
-- number up to the node's last one. The numbers of a station's submissions rise, and their groups have
-- numbers up to its last one.
use Rattle.std.specs.Prelude.{◌≡◌, ℕ, ◌<◌, ◌≤◌, Contains, AllPairs}
use Rattle.x12_profile.specs.Interchange.{Bytes}
use Rattle.x12_profile.specs.Profile.{Profile}
use Rattle.x12_station.specs.History.{submissions}
use Rattle.x12_station.specs.Station.{Station}
use Rattle.x12_hub.specs.Hub.{Hub}
use Rattle.x12_world.specs.World.{World, StationAt, HubAt}
use Rattle.x12_world.specs.Traffic.{WasSent}

module _ (p : Profile) where
  -- of a world
  pub record NumbersAreUsed (w : World) : Type 0 where
    -- the interchanges that bear a station's name, in any packet that was ever sent
    pub of_station : (i : ℕ) (s : Station) (b : Bytes) → StationAt w i s → WasSent w b
        → p.sender b ≡ s.me → p.number b ≤ s.book.interchange
    -- its submissions, each with a greater number than those before it
    pub of_submissions : (i : ℕ) (s : Station) → StationAt w i s
        → AllPairs (λ x y. p.number x < p.number y) (submissions s.items)
    -- the groups of its submissions
    pub of_groups : (i : ℕ) (s : Station) (x : Bytes) (g : ℕ) → StationAt w i s
        → Contains (submissions s.items) x → Contains (p.groups x) g → g ≤ s.book.group
    -- the interchanges that bear a hub's name
    pub of_hub : (i : ℕ) (h : Hub) (b : Bytes) → HubAt w i h → WasSent w b
        → p.sender b ≡ h.me → p.number b ≤ h.icn
