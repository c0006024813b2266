-- The order in which interchanges and transaction sets are kept: by sender, then by number,
-- then by place.
use Rattle.std.specs.Prelude.{ℕ, Bool, ◌&&◌, ◌==◌}
use Rattle.std.specs.declared.cmp.Ordering.{Ordering}
use Rattle.std.specs.Ordering.{nat_cmp, ordering_then}
use Rattle.std.specs.Cmp.Lexicographic.{slice_cmp}
use Rattle.x12_envelopes.specs.declared.party.Party.{Party}
use Rattle.x12_judge.specs.Agreement.{is_same_party}
use Rattle.x12_acks.specs.Submission.{TransactionSetKey}

-- the key of an interchange: its sender, and its number (ISA13)
pub record InterchangeKey : Type 0 where
  pub sender : Party
  pub icn : ℕ

abbrev pub interchange : Party → ℕ → InterchangeKey
interchange sender icn = record { sender = sender; icn = icn }

-- the interchange that holds a transaction set
abbrev pub interchange_holding : TransactionSetKey → InterchangeKey
interchange_holding k = interchange k.sender k.icn

-- the same sender and number
abbrev pub is_same_interchange : InterchangeKey → InterchangeKey → Bool
is_same_interchange j k = is_same_party j.sender k.sender && j.icn == k.icn

-- by qualifier, then by identifier, byte by byte
abbrev pub party_order : Party → Party → Ordering
party_order p q =
    ordering_then (slice_cmp nat_cmp p.qualifier q.qualifier) (slice_cmp nat_cmp p.id q.id)

-- by sender, then by number
abbrev pub interchange_order : InterchangeKey → InterchangeKey → Ordering
interchange_order j k = ordering_then (party_order j.sender k.sender) (nat_cmp j.icn k.icn)

-- by interchange, then by the place of the group, then by the place of the transaction set
abbrev pub set_order : TransactionSetKey → TransactionSetKey → Ordering
set_order j k =
    let interchanges = interchange_order (interchange_holding j) (interchange_holding k) in
    ordering_then (ordering_then interchanges (nat_cmp j.group k.group)) (nat_cmp j.set k.set)
