-- Which transaction set a piece of evidence settles: the one whose numbers it names, if it comes
-- from one who may say so.
use Rattle.std.specs.Prelude.{ℕ, Bool, ◌&&◌, ◌||◌, List, Option, Some, None, ◌==◌, if◌then◌else◌}
use Rattle.std.specs.Prelude.{bytes_eq}
use Rattle.std.specs.List.{list_any}
use Rattle.x12_envelopes.specs.declared.party.Party.{Party}
use Rattle.x12_judge.specs.Agreement.{is_same_party}
use Rattle.x12_acks.specs.Submission.{TransactionSetKey}
use Rattle.x12_acks.specs.Evidence.{Evidence, tells, unmatched, FinalFate}
use Rattle.x12_acks.specs.Key.{is_same_key}
use Rattle.x12_outbound.specs.Piece.{SetNaming, by_interchange, by_group_and_set, SetStatement}
use Rattle.x12_outbound.specs.Piece.{PlannedPiece}

-- the numbers of a submitted transaction set: its key, the receiver of its interchange, GS01 and
-- GS06 of its group, and ST02
pub record SetNumbers : Type 0 where
  pub key : TransactionSetKey
  pub receiver : Party
  pub functional : List ℕ
  pub group : ℕ
  pub set : List ℕ

-- a TA1 names the interchange, and is evidence for each of its sets by place; a 997 names the group
-- (AK101, AK102) and the set (AK202)
abbrev pub naming_names : SetNaming → TransactionSetKey → SetNumbers → Bool
naming_names by_interchange about n = is_same_key about n.key
naming_names (by_group_and_set functional group set) about n =
    is_same_party about.sender n.key.sender
    && bytes_eq functional n.functional && group == n.group && bytes_eq set n.set

-- the receiver of an interchange may acknowledge it; one of the sender's hubs may refuse it by a
-- TA1
abbrev pub naming_may_say : SetNaming → List Party → Party → Party → Bool
naming_may_say by_interchange hubs receiver from =
    is_same_party receiver from || list_any (is_same_party from) hubs
naming_may_say naming hubs receiver from = is_same_party receiver from

-- a statement settles this set: it names its numbers, and comes from one who may say so
unfoldable pub is_about : List Party → SetNumbers → SetStatement → Bool
is_about hubs n s = naming_names s.naming s.key n && naming_may_say s.naming hubs n.receiver s.from

-- the evidence that a statement is, or that answers nothing which was submitted
abbrev pub stated : Option SetStatement → Evidence
stated None = unmatched
stated (Some s) = tells s.key s.fate

-- a transaction set that is out of its ledger, to be settled: its numbers, and its sender's hubs
pub record LiftedSet : Type 0 where
  pub numbers : SetNumbers
  pub hubs : List Party

-- a transaction set with its final fate, to go back to its ledger
pub record SettledSet : Type 0 where
  pub key : TransactionSetKey
  pub fate : FinalFate

-- the fate that a statement gives a lifted set, if it is about it
abbrev pub fate_by_statement : LiftedSet → Option SetStatement → Option FinalFate
fate_by_statement o None = None
fate_by_statement o (Some s) = if is_about o.hubs o.numbers s then Some s.fate else None

-- the fate that a piece of evidence gives a lifted set
unfoldable pub settled_by : LiftedSet → PlannedPiece → Option FinalFate
settled_by o piece = fate_by_statement o piece.statement
