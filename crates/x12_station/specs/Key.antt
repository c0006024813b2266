-- What a history is asked by key: the fate of a set that was submitted, and all such keys.
use Rattle.std.specs.Prelude.{List, map, flat_map, find, Option, option_map}
use Rattle.x12_envelopes.specs.declared.party.Party.{Party}
use Rattle.x12_acks.specs.Submission.{TransactionSetKey}
use Rattle.x12_acks.specs.Key.{is_same_key}
use Rattle.x12_outbound.specs.declared.fate.Fate.{Fate}
use Rattle.x12_outbound.specs.Settling.{Fates}
use Rattle.x12_profile.specs.Interchange.{Bytes, PlacedTransactionSet}
use Rattle.x12_profile.specs.Profile.{Profile}
use Rattle.x12_station.specs.History.{Item, submissions, fate_in, key_of}

-- a set, and the submission that it stands in
pub record OwnSet : Type 0 where
  pub interchange : Bytes
  pub set : PlacedTransactionSet

module _ (p : Profile) where
  -- the sets of all submissions, in their order
  abbrev pub own_sets : List Item → List OwnSet
  own_sets items =
      flat_map (λ x. map (λ t. record { interchange = x; set = t }) (p.sets x)) (submissions items)

  -- the key of a submitted set
  abbrev pub own_key : OwnSet → TransactionSetKey
  own_key c = key_of p c.interchange c.set.place

  -- the submitted set with this key
  abbrev pub own_set : List Item → TransactionSetKey → Option OwnSet
  own_set items k = find (λ c. is_same_key k (own_key c)) (own_sets items)

  -- the fate of a submitted set
  abbrev pub own_fate : Party → List Party → List Item → OwnSet → Fate
  own_fate me hubs items c = fate_in p me hubs items c.interchange c.set.place

  -- the fate of the set with each key; None where no such set was submitted
  abbrev pub own_fates : Party → List Party → List Item → Fates
  own_fates me hubs items k = option_map (own_fate me hubs items) (own_set items k)

  -- the keys of all submitted sets, in their order
  abbrev pub own_keys : List Item → List TransactionSetKey
  own_keys items = map own_key (own_sets items)
