-- The transaction sets of an interchange by their places, and with their keys.
use Rattle.std.specs.Prelude.{ℕ, List, Bool, ◌&&◌, ◌==◌, map, flat_map}
use Rattle.std.specs.List.{enumerate_from}
use Rattle.x12_acks.specs.Submission.{TransactionSetKey}
use Rattle.x12_envelopes.specs.declared.delimiters.Delims.{Delims}
use Rattle.x12_envelopes.specs.declared.header.Header.{Header}
use Rattle.x12_envelopes.specs.declared.party.Party.{Party}
use Rattle.x12_envelopes.specs.declared.shape.GroupView.{GroupView}
use Rattle.x12_envelopes.specs.Shape.{group_view}
use Rattle.x12_profile.specs.Interchange.{Bytes, PlacedTransactionSet}
use Rattle.x12_profile.specs.X12.{x12, sets_of_group}
use Rattle.x12_station.specs.Key.{OwnSet, own_key}
use Rattle.x12_acks.specs.Key.{key_view}
use Rattle.x12_world.specs.declared.placing.Addressed.{Addressed}
use Rattle.x12_world.specs.declared.placing.OutgoingSet.{OutgoingSet as CodeOutgoingSet}

-- a submitted set as it was sent: the party that it was submitted to, and its bytes
pub record AddressedSet : Type 0 where
  pub receiver : Party
  pub bytes : Bytes

abbrev pub addressed : OwnSet → AddressedSet
addressed c = record { receiver = x12.receiver c.interchange; bytes = c.set.bytes }

-- what the code's stands for
abbrev pub addressed_view : Addressed → AddressedSet
addressed_view a = record { receiver = a.receiver; bytes = a.bytes.items }

-- a submitted set as it was sent, with its key
pub record OutgoingSet : Type 0 where
  pub key : TransactionSetKey
  pub set : AddressedSet

abbrev pub outgoing : OwnSet → OutgoingSet
outgoing c = record { key = own_key x12 c; set = addressed c }

-- what the code's stands for
abbrev pub outgoing_view : CodeOutgoingSet → OutgoingSet
outgoing_view s = record { key = key_view s.key; set = addressed_view s.set }

-- the sets of the groups that were read, by place
abbrev pub sets_of_groups : Delims → List GroupView → List PlacedTransactionSet
sets_of_groups d gs = flat_map sets_of_group (enumerate_from 1 (map (group_view d) gs))

-- whether a set stands at these places
abbrev pub stands_at : ℕ → ℕ → PlacedTransactionSet → Bool
stands_at group set t = (group == t.place.group) && (set == t.place.set)

-- the key of a set under this header
abbrev pub key_at : Header → PlacedTransactionSet → TransactionSetKey
key_at h t = record { sender = h.sender; icn = h.icn; group = t.place.group; set = t.place.set }

-- a set under this header, with its key
abbrev pub outgoing_at : Header → PlacedTransactionSet → OutgoingSet
outgoing_at h t = record {
  key = key_at h t;
  set = record { receiver = h.receiver; bytes = t.bytes };
}

-- the sets of an interchange, in their order
abbrev pub outgoing_in : Bytes → List OutgoingSet
outgoing_in x = map (λ t. outgoing (record { interchange = x; set = t })) (x12.sets x)
