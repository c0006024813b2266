-- The exchange: what the network is for, without mailboxes, retries, books, kept replies or
-- restarts. A world refines it: each event is one of its three steps or none.
use Rattle.std.specs.Prelude.{◌≡◌, ◌≢◌, ◌⊎◌, ◌↔◌, ℕ, List, [], ◌∷◌, Bool, false, if◌then◌else◌, Contains}
use Rattle.x12_envelopes.specs.declared.party.Party.{Party}
use Rattle.x12_judge.specs.declared.verdict.SetResult.{SetResult}
use Rattle.x12_judge.specs.declared.verdict.SetResult.TheVariants.{Rejected}
use Rattle.x12_judge.specs.Set.{takes}
use Rattle.x12_acks.specs.Evidence.{fate_of_result}
use Rattle.x12_profile.specs.Interchange.{Bytes, PlaceOfSet, PlacedTransactionSet}
use Rattle.x12_profile.specs.Profile.{Profile}
use Rattle.x12_station.specs.History.{Posting, fate_in, postings, posted_under, key_of, posting_of}
use Rattle.x12_station.specs.Station.{Station}
use Rattle.x12_world.specs.World.{World, Event, StationAt}
use Rattle.x12_world.specs.Traffic.{HasSubmitted}
use Rattle.x12_world.specs.Network.{Network, IsNetwork}
use Rattle.x12_world.specs.Run.{happens, new_world}
use Rattle.x12_outbound.specs.Fate.{ended}
use Rattle.x12_outbound.specs.declared.fate.Fate.TheVariants.{Pending}
use Rattle.x12_outbound.specs.declared.fate.Fate.{Fate}

-- a verdict on an interchange's sets: its receiver's, or a hub's, which rejects each
pub data ExchangeVerdict : Type 0 where
  ByReceiver : (PlaceOfSet → SetResult) → ExchangeVerdict
  ByHub : ExchangeVerdict

-- what a verdict says of the set at a place
abbrev pub result_of : ExchangeVerdict → PlaceOfSet → SetResult
result_of (ByReceiver v) k = v k
result_of ByHub k = Rejected

-- how far an interchange is: not submitted; submitted; its verdict written; and learnt by its
-- sender
pub data Standing : Type 0 where
  Unknown : Standing
  Waiting : Standing
  Judged : ExchangeVerdict → Standing
  Learnt : ExchangeVerdict → Standing

-- the standing of each interchange
abbrev pub Exchange : Type 0
Exchange = Bytes → Standing

-- the three steps, at one interchange
pub data Moves (from to : Standing) : Type 0 where
  submits : from ≡ Unknown → to ≡ Waiting → Moves from to
  writes : (v : ExchangeVerdict) → from ≡ Waiting → to ≡ Judged v → Moves from to
  learns : (v : ExchangeVerdict) → from ≡ Judged v → to ≡ Learnt v → Moves from to

-- the sender's fate of a set: the verdict's, once it is learnt
abbrev pub fate_of : Standing → PlaceOfSet → Fate
fate_of Unknown k = Pending
fate_of Waiting k = Pending
fate_of (Judged v) k = Pending
fate_of (Learnt v) k = ended (fate_of_result (result_of v k))

-- whether its receiver has posted it: as soon as the verdict is written
abbrev pub is_posted : Standing → PlaceOfSet → Bool
is_posted Unknown k = false
is_posted Waiting k = false
is_posted (Judged v) k = takes (result_of v k)
is_posted (Learnt v) k = takes (result_of v k)

-- the bytes that are posted of a set
abbrev pub posted_of : Standing → PlacedTransactionSet → List Bytes
posted_of st t = if is_posted st t.place then t.bytes ∷ [] else []

-- some station of the world has this party
abbrev pub IsStationName : World → Party → Type 0
IsStationName w party = (j : ℕ) × (s : Station) × StationAt w j s × (s.me ≡ party)

module _ (p : Profile) where
  -- one interchange moves by one step, and no other; a submission takes a new number of its sender
  pub record IsStep (e f : Exchange) : Type 0 where
    pub interchange : Bytes
    pub moves : Moves (e interchange) (f interchange)
    pub others : (y : Bytes) → y ≢ interchange → f y ≡ e y
    pub new_number : e interchange ≡ Unknown → (y : Bytes) → e y ≢ Unknown
        → p.sender y ≡ p.sender interchange → p.number y ≢ p.number interchange

  -- one step, or none
  abbrev pub IsStepOrNone : Exchange → Exchange → Type 0
  IsStepOrNone e f = ((x : Bytes) → f x ≡ e x) ⊎ IsStep e f

  -- the nodes agree with an exchange
  pub record Refines (w : World) (e : Exchange) : Type 0 where
    -- its interchanges are those that a station submitted to a station
    pub interchanges : (x : Bytes)
        → (e x ≢ Unknown) ↔ (((s : Station) × HasSubmitted w s x) × IsStationName w (p.receiver x))
    -- its fates are the senders' fates
    pub fates : (s : Station) (x : Bytes) (t : PlacedTransactionSet) → HasSubmitted w s x →
        e x ≢ Unknown
        → Contains (p.sets x) t → fate_in p s.me s.hubs s.items x t.place ≡ fate_of (e x) t.place
    -- its postings are the receivers' postings, key by key and byte by byte, each once
    pub posted : (j : ℕ) (a : Station) (x : Bytes) (t : PlacedTransactionSet) → StationAt w j a
        → e x ≢ Unknown → a.me ≡ p.receiver x → Contains (p.sets x) t
        → posted_under p (key_of p x t.place) a.items ≡ posted_of (e x) t
    -- and a receiver has no other under a station's name
    pub no_other : (j : ℕ) (a : Station) (q : Posting) → StationAt w j a
        → Contains (postings p a.items) q → IsStationName w q.key.sender
        → (x : Bytes) × (t : PlacedTransactionSet) × (e x ≢ Unknown) × (p.receiver x ≡ a.me)
        × Contains (p.sets x) t × (q ≡ posting_of p x t)

  -- the worlds of a list of events refine exchanges, each one step after the one before, or the
  -- same
  abbrev pub Follows : World → Exchange → List Event → Type 0
  Follows w e [] = Refines w e
  Follows w e (ev ∷ evs) = Refines w e × (f : Exchange) × IsStepOrNone e f
      × Follows (happens p w ev) f evs

-- nothing was submitted
abbrev pub empty_exchange : Exchange
empty_exchange x = Unknown

-- every run of every network does so, from the first event on
abbrev pub EveryRunFollows : Profile → Type 0
EveryRunFollows p = (net : Network) → IsNetwork p net → (events : List Event)
    → Follows p (new_world net) empty_exchange events
