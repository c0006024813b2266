-- What bears no node's name moves nothing between nodes.
use Rattle.std.specs.Prelude.{◌≡◌, ℕ, Option, Some, None, Contains, false}
use Rattle.x12_profile.specs.Interchange.{Bytes, PlaceOfSet}
use Rattle.x12_profile.specs.Profile.{Profile}
use Rattle.x12_station.specs.History.{submissions, fate_in, posted_under}
use Rattle.x12_station.specs.Station.{Station}
use Rattle.x12_core.specs.Ask.{bytes_of_ask}
use Rattle.x12_world.specs.Effect.{Asked, asked_by}
use Rattle.x12_world.specs.World.{World, Event, StationAt, is_named}
use Rattle.x12_world.specs.Traffic.{IsNode}
use Rattle.x12_world.specs.Run.{happens}
use Rattle.x12_acks.specs.Submission.{TransactionSetKey}

-- the interchange that comes with what is asked, if some is
abbrev pub bytes_asked : Option Asked → Option Bytes
bytes_asked None = None
bytes_asked (Some a) = bytes_of_ask a.ask

-- the interchange that an event brings to a node: from outside, or in a packet
abbrev pub brings : World → Event → Option Bytes
brings w e = bytes_asked (asked_by w.packets e)

module _ (p : Profile) where
  -- no fate of a set addressed to a node changes, and no posting under a node's name
  pub record MovesNothing (before after : World) : Type 0 where
    pub fates : (i : ℕ) (s s' : Station) → StationAt before i s → StationAt after i s' → (x : Bytes)
        → Contains (submissions s.items) x → IsNode before (p.receiver x) → (k : PlaceOfSet)
        → fate_in p s'.me s'.hubs s'.items x k ≡ fate_in p s.me s.hubs s.items x k
    pub postings : (j : ℕ) (s s' : Station) → StationAt before j s → StationAt after j s'
        → (k : TransactionSetKey) → IsNode before k.sender
        → posted_under p k s'.items ≡ posted_under p k s.items

  -- an event that brings bytes under no node's name does so
  abbrev pub OutsidersMoveNothing : World → Type 0
  OutsidersMoveNothing w = (e : Event) (b : Bytes) → brings w e ≡ Some b → is_named p w b ≡ false
      → MovesNothing w (happens p w e)
