-- The sets that were submitted, and the order of their keys.
use Rattle.std.specs.Prelude.{◌≡◌, ◌≢◌, ℕ, List, AllPairs, Some, flat_map, map, option_and_then, option_map, option_to_list}
use Rattle.std.specs.List.Sorted.{IsPermutation}
use Rattle.std.specs.declared.cmp.Ordering.TheVariants.{Less}
use Rattle.x12_acks.specs.Submission.{TransactionSetKey}
use Rattle.x12_inbound.specs.Order.{set_order}
use Rattle.x12_profile.specs.X12.{x12}
use Rattle.x12_station.specs.History.{Item, submission_under}
use Rattle.x12_station.specs.Key.{own_keys, own_set, own_sets}
use Rattle.x12_station.specs.Station.{Station}
use Rattle.x12_world.specs.Auditing.{station_among}
use Rattle.x12_world.specs.Placing.{OutgoingSet, addressed, outgoing, outgoing_in}

-- the sets that were submitted under a number
abbrev pub outgoing_under : List Item → ℕ → List OutgoingSet
outgoing_under items n = flat_map outgoing_in (option_to_list (submission_under x12 items n))

-- each key is below those behind it: by the sender's qualifier and identifier, byte by byte, then by
-- the number of the interchange, then by the place of the group, then by the place of the set
abbrev pub KeysRise : List TransactionSetKey → Type 0
KeysRise keys = AllPairs (λ j k. set_order j k ≡ Less) keys

-- the keys of the sets that stations submitted, station by station
abbrev pub keys_of_stations : List Station → List TransactionSetKey
keys_of_stations ss = flat_map (λ (s : Station). own_keys x12 s.items) ss

-- these are they; and they rise, where no key stands twice
pub record AreKeysOf (ss : List Station) (keys : List TransactionSetKey) : Type 0 where
  pub all : IsPermutation (keys_of_stations ss) keys
  pub rise : AllPairs (λ j k. j ≢ k) (keys_of_stations ss) → KeysRise keys

-- the sets that stations submitted, station by station
abbrev pub sets_of_stations : List Station → List OutgoingSet
sets_of_stations ss = flat_map (λ (s : Station). map outgoing (own_sets x12 s.items)) ss

-- the keys of sets, in their order
abbrev pub keys_of_sets : List OutgoingSet → List TransactionSetKey
keys_of_sets sets = map (λ s. s.key) sets

-- these are they, in the order of their keys
pub record AreSetsOf (ss : List Station) (sets : List OutgoingSet) : Type 0 where
  pub all : IsPermutation (sets_of_stations ss) sets
  pub keys : AreKeysOf ss (keys_of_sets sets)

-- the station of its key's sender submitted this set under its key
abbrev pub IsSubmittedBy : List Station → OutgoingSet → Type 0
IsSubmittedBy ss set =
    option_map addressed (option_and_then (λ (s : Station). own_set x12 s.items set.key)
    (station_among ss set.key.sender)) ≡ Some set.set
