-- What an interchange that arrives is, by what is filed under its sender and number.
use Rattle.std.specs.Prelude.{ℕ, List, Option, Some, None, if◌then◌else◌, bytes_eq, option_map}
use Rattle.std.specs.Borrow.{Bor}
use Rattle.x12_inbound.specs.declared.sighting.Seen.{Seen}
use Rattle.x12_inbound.specs.declared.sighting.Seen.TheVariants.{New, Same, Other}
use Rattle.x12_inbound.specs.Filing.{FiledInterchange}
use Rattle.x12_inbound.specs.Arrival.{Arrival, arrived_view}

-- the first that comes under its number, the same again with the reply that was kept,
-- or another one
pub data Sighting : Type 0 where
  first : Arrival → Sighting
  again : Option (List ℕ) → Sighting
  other : Sighting

-- first where nothing is filed; else the same where its bytes are those that are filed
unfoldable pub sighting_of : Option FiledInterchange → Arrival → Sighting
sighting_of None a = first a
sighting_of (Some f) a = if bytes_eq f.bytes a.bytes then again f.reply else other

-- what the code's answer stands for
abbrev pub seen_view : Seen → Sighting
seen_view (New a) = first (arrived_view a)
seen_view (Same reply) = again (option_map (λ (b : Bor (List ℕ)). b.now) reply)
seen_view Other = other
