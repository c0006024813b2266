-- The words of the headline: what a sender holds of a set, what its receiver has posted of it, and
-- when the acknowledgment of an interchange is kept and handled.
use Rattle.std.specs.Prelude.{◌≡◌, ℕ, List, Some, Contains, ◌⊎◌}
use Rattle.x12_profile.specs.Interchange.{Bytes, PlacedTransactionSet}
use Rattle.x12_profile.specs.Profile.{Profile}
use Rattle.x12_station.specs.History.{HasCame, submissions, arrivals, fate_in, posted_under, key_of}
use Rattle.x12_station.specs.Station.{Station}
use Rattle.x12_hub.specs.Hub.{Hub, refused_with}
use Rattle.x12_world.specs.World.{World, StationAt, HubAt}
use Rattle.x12_outbound.specs.declared.fate.Fate.{Fate}

module _ (p : Profile) where
  -- node i submitted x, whose set is t, and holds t as this
  abbrev pub HoldsAs : World → ℕ → Bytes → PlacedTransactionSet → Fate → Type 0
  HoldsAs w i x t fate = (s : Station) × StationAt w i s × Contains (submissions s.items) x
      × Contains (p.sets x) t × (fate_in p s.me s.hubs s.items x t.place ≡ fate)

  -- where x's receiver is a station, this is what its postings have under the key of x's set t
  abbrev pub PostedAs : World → Bytes → PlacedTransactionSet → List Bytes → Type 0
  PostedAs w x t bytes = (j : ℕ) (s : Station) → StationAt w j s → s.me ≡ p.receiver x
      → posted_under p (key_of p x t.place) s.items ≡ bytes

  -- r is x's kept acknowledgment: its receiver filed it as the reply, or a hub refused x with it
  abbrev pub IsKept : World → Bytes → Bytes → Type 0
  IsKept w x r = ((j : ℕ) × (s : Station) × StationAt w j s × (s.me ≡ p.receiver x)
      × HasCame s.items x (Some r))
      ⊎ ((k : ℕ) × (h : Hub) × HubAt w k h × Contains h.decisions (refused_with x r))

  -- x's kept acknowledgment stands among the arrivals of node i, whoever submitted x
  abbrev pub IsHandled : World → ℕ → Bytes → Type 0
  IsHandled w i x = (r : Bytes) × (s : Station) × StationAt w i s × IsKept w x r
      × Contains (arrivals s.items) r
