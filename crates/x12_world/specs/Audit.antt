-- What an auditor sees of a submitted set: its sender's fate and its receiver's postings, by key.
use Rattle.std.specs.Prelude.{◌≡◌, ◌≢◌, AllPairs, ℕ, List, [], ◌∷◌, Bool, true, false, flat_map, find, Option, Some, length, bytes_eq, is_some, option_map, option_and_then, Contains, unwrap_or, ◌↔◌}
use Rattle.std.specs.List.{list_all}
use Rattle.x12_envelopes.specs.declared.party.Party.{Party}
use Rattle.x12_judge.specs.Agreement.{is_same_party}
use Rattle.x12_profile.specs.Interchange.{Bytes, PlacedTransactionSet}
use Rattle.x12_profile.specs.Profile.{Profile}
use Rattle.x12_station.specs.History.{submissions, fate_in, posted_under, key_of}
use Rattle.x12_station.specs.Station.{Station}
use Rattle.x12_station.specs.Key.{OwnSet, own_set, own_key, own_keys, own_fate}
use Rattle.x12_core.specs.Node.{Node, IsHub, IsStation}
use Rattle.x12_world.specs.World.{World, StationAt}
use Rattle.x12_world.specs.Held.{HoldsAs}
use Rattle.x12_station.specs.StationStep.{fate_by_key}
use Rattle.x12_acks.specs.Submission.{TransactionSetKey}
use Rattle.x12_outbound.specs.declared.fate.Fate.{Fate}
use Rattle.x12_report.specs.Audit.{postings_are_bad}

-- what is found of one submitted set
pub record Audit : Type 0 where
  pub key : TransactionSetKey
  pub receiver : Party
  pub fate : Fate
  -- how many postings have its key, where the receiver is a station
  pub posted : Option ℕ
  -- whether each of them has the submitted bytes
  pub intact : Bool

-- the station that a node is
abbrev pub station_in : Node → List Station
station_in (IsHub h) = []
station_in (IsStation s) = s ∷ []

-- the stations, by their numbers: a second hub is none
abbrev pub stations_of : World → List Station
stations_of w = flat_map station_in w.nodes.listed

-- the station of this party
abbrev pub station_named : World → Party → Option Station
station_named w party = find (λ s. is_same_party s.me party) (stations_of w)

module _ (p : Profile) where
  -- what the receiver's postings have under the key of a submitted set, where it is a station
  abbrev pub posted_of_own : World → OwnSet → Option (List Bytes)
  posted_of_own w c =
      option_map (λ s. posted_under p
      (own_key p c) s.items) (station_named w (p.receiver c.interchange))

  -- what is found of a set that this station submitted
  abbrev pub audit_of : World → Station → OwnSet → Audit
  audit_of w s c = record {
    key = own_key p c;
    receiver = p.receiver c.interchange;
    fate = own_fate p s.me s.hubs s.items c;
    posted = option_map length (posted_of_own w c);
    intact = list_all (bytes_eq c.set.bytes) (unwrap_or (posted_of_own w c) []);
  }

  -- what is found of the set with this key, if its sender is a station that submitted one
  abbrev pub audit : World → TransactionSetKey → Option Audit
  audit w k =
      option_and_then (λ s. option_map (audit_of w s) (own_set p s.items k)) (station_named w k.sender)

  -- the keys of all submitted sets, station by station
  abbrev pub keys_of : World → List TransactionSetKey
  keys_of w = flat_map (λ s. own_keys p s.items) (stations_of w)

  -- an operator has nothing to look into
  abbrev pub NoAuditIsBad : World → Type 0
  NoAuditIsBad w = (k : TransactionSetKey) (a : Audit) → audit w k ≡ Some a
      → postings_are_bad a.fate a.intact a.posted ≡ false

  -- what is asked by key is what is held
  pub record KeysTell (w : World) : Type 0 where
    -- the fate by a set's key is the fate that its sender holds
    pub held : (i : ℕ) (s : Station) (x : Bytes) (t : PlacedTransactionSet) → StationAt w i s
        → Contains (submissions s.items) x → Contains (p.sets x) t
        → fate_by_key p s (key_of p x t.place) ≡ Some (fate_in p s.me s.hubs s.items x t.place)
    -- a fate by key is held of a submitted set with that key
    pub known : (i : ℕ) (s : Station) (k : TransactionSetKey) (fate : Fate) → StationAt w i s
        → fate_by_key p s k ≡ Some fate
        → (x : Bytes) × (t : PlacedTransactionSet) × HoldsAs p w i x t fate
        × (key_of p x t.place ≡ k)
    -- an audit of a set's key is of that set
    pub audited : (i : ℕ) (s : Station) (x : Bytes) (t : PlacedTransactionSet) → StationAt w i s
        → Contains (submissions s.items) x → Contains (p.sets x) t
        → audit w (key_of p x t.place)
        ≡ Some (audit_of w s (record { interchange = x; set = t }))
    -- no key stands twice among those of the submitted sets
    pub once : AllPairs (λ j k. j ≢ k) (keys_of w)
    -- and there is an audit exactly for these
    pub exactly : (k : TransactionSetKey) → Contains (keys_of w) k ↔ (is_some (audit w k) ≡ true)
