-- Submitted interchanges: what a sender sent, and the keys of its transaction sets.
use Rattle.std.specs.Prelude.{ℕ, ◌<◌, List, map, flat_map, All}
use Rattle.std.specs.List.{enumerate_from}
use Rattle.x12_envelopes.specs.Place.{its_place, its_item}
use Rattle.x12_envelopes.specs.declared.party.Party.{Party}
use Rattle.x12_envelopes.specs.declared.header.Header.{Header}
use Rattle.x12_envelopes.specs.Shape.{Interchange, FunctionalGroup, TransactionSet}

-- a submitted transaction set: its number (ST02)
pub record SubmittedSet : Type 0 where
  pub number : List ℕ

-- a submitted functional group: GS01, its number (GS06), and its transaction sets
pub record SubmittedGroup : Type 0 where
  pub functional : List ℕ
  pub number : ℕ
  pub sets : List SubmittedSet

-- a submitted interchange: its parties, its number (ISA13), its bytes, and its functional groups
pub record Submission : Type 0 where
  pub sender : Party
  pub receiver : Party
  pub icn : ℕ
  pub bytes : List ℕ
  pub groups : List SubmittedGroup

-- the key of a transaction set: its interchange by sender and number, the place of its group among
-- the groups, and its place in the group, both from 1
pub record TransactionSetKey : Type 0 where
  pub sender : Party
  pub icn : ℕ
  pub group : ℕ
  pub set : ℕ

-- a submitted transaction set with its key
pub record KeyedSet : Type 0 where
  pub key : TransactionSetKey
  pub number : List ℕ

-- a submitted functional group with the keys of its transaction sets
pub record KeyedGroup : Type 0 where
  pub functional : List ℕ
  pub number : ℕ
  pub sets : List KeyedSet

abbrev pub keyed_set : Submission → ℕ → ℕ → SubmittedSet → KeyedSet
keyed_set e group place s = record {
  key = record { sender = e.sender; icn = e.icn; group = group; set = place };
  number = s.number;
}

abbrev pub keyed_group : Submission → ℕ → SubmittedGroup → KeyedGroup
keyed_group e place g = record {
  functional = g.functional;
  number = g.number;
  sets = map (λ s. keyed_set e place (its_place s) (its_item s)) (enumerate_from 1 g.sets);
}

-- the groups of a submitted interchange, by place
unfoldable pub keyed_groups : Submission → List KeyedGroup
keyed_groups e = map (λ g. keyed_group e (its_place g) (its_item g)) (enumerate_from 1 e.groups)

-- its transaction sets, by rising key
unfoldable pub keyed_sets : Submission → List KeyedSet
keyed_sets e = flat_map (λ g. g.sets) (keyed_groups e)

-- what is submitted by sending an interchange with this header and this outline
abbrev pub submitted_set : TransactionSet → SubmittedSet
submitted_set s = record { number = s.number }

abbrev pub submitted_group : FunctionalGroup → SubmittedGroup
submitted_group g =
    record { functional = g.functional; number = g.number; sets = map submitted_set g.sets }

unfoldable pub submission_of : Header → List ℕ → Interchange → Submission
submission_of h bytes x = record {
  sender = h.sender;
  receiver = h.receiver;
  icn = h.icn;
  bytes = bytes;
  groups = map submitted_group x.groups;
}

-- Of two interchanges that are sent one after the other the later has the higher numbers: its own,
-- and those of its groups.
pub record IsBefore (earlier later : Submission) : Type 0 where
  pub interchange : earlier.icn < later.icn
  pub groups : All (λ g. All (λ h. g.number < h.number) later.groups) earlier.groups
