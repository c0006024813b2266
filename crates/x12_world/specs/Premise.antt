-- The laws can be met, and the headline then speaks of something: sets get accepted, sets get
-- noted, and sets get rejected, in a network with one hub and in one with two.
use Rattle.std.specs.Prelude.{◌≡◌, ℕ, List, Bool, is_some}
use Rattle.x12_profile.specs.Interchange.{Bytes, PlacedTransactionSet}
use Rattle.x12_profile.specs.Profile.{Profile}
use Rattle.x12_profile.specs.Laws.{Laws}
use Rattle.x12_world.specs.World.{Event}
use Rattle.x12_world.specs.Held.{HoldsAs}
use Rattle.x12_world.specs.Network.{Network, IsNetwork}
use Rattle.x12_world.specs.Run.{new_world, run}
use Rattle.x12_outbound.specs.declared.fate.Fate.TheVariants.{Accepted, Noted, Rejected}
use Rattle.x12_outbound.specs.declared.fate.Fate.{Fate}

-- some run of some network, with two hubs or with one, ends with a set that its sender holds as this
abbrev pub Reaches : Profile → (has_two : Bool) → Fate → Type 0
Reaches p has_two fate = (net : Network) × IsNetwork p net × (is_some net.second ≡ has_two)
    × (events : List Event) × (i : ℕ) × (x : Bytes) × (t : PlacedTransactionSet)
    × HoldsAs p (run p events (new_world net)) i x t fate

-- some profile meets the laws, and reaches each final fate, with one hub and with two
abbrev pub PremiseIsMet : Type 0
PremiseIsMet = (p : Profile) × Laws p
    × ((has_two : Bool) → Reaches p has_two Accepted × Reaches p has_two Noted
    × Reaches p has_two Rejected)
