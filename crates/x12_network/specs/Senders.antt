-- Whose packets come into a node's inboxes.
use Rattle.std.specs.Prelude.{◌==◌, ◌&&◌, ◌++◌, ◌∷◌, ◌≡◌, [], if◌then◌else◌, Bool, List, Some, filter, map, not, slice_get, ℕ}
use Rattle.x12_core.specs.declared.packet.Site.{Site}

-- a hub's site: its own number stands for both
abbrev pub is_hub_site : Site → Bool
is_hub_site at = at.node == at.hub

-- a station's, at this hub
abbrev pub is_station_site : ℕ → Site → Bool
is_station_site hub at = not (is_hub_site at) && (at.hub == hub)

-- that of another hub than this one
abbrev pub is_other_hub_site : ℕ → Site → Bool
is_other_hub_site hub at = is_hub_site at && not (at.node == hub)

-- the numbers of the sites that pass a test, in their order
abbrev pub numbers_where : (Site → Bool) → List Site → List ℕ
numbers_where test sites = map (λ s. s.node) (filter test sites)

-- The nodes whose packets come into a node's inboxes, in the order of these: into a station's those of its hub; into a hub's
-- those of the stations that are at it, in the order of the sites, and then those of the other hub, if there is one.
abbrev pub senders_into : List Site → Site → List ℕ
senders_into sites at =
    if is_hub_site at
    then numbers_where (is_station_site at.node) sites ++ numbers_where (is_other_hub_site at.node) sites
    else at.hub ∷ []

-- each of these has the number of the site at its place, and its inboxes are for the packets that come to it
abbrev pub ArePlaced : List Site → List (ℕ × List ℕ) → Type 0
ArePlaced sites nodes = (place : ℕ) (at : Site) (n : ℕ × List ℕ) → slice_get sites place ≡ Some at → slice_get nodes place ≡ Some n
    → (n.0 ≡ at.node) × (n.1 ≡ senders_into sites at)
