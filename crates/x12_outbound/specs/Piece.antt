-- A planned piece of evidence: what is said of a submitted transaction set, and what that is for
-- the ledger that planned it.
use Rattle.std.specs.Prelude.{ℕ, List, Option, option_map}
use Rattle.x12_envelopes.specs.declared.party.Party.{Party}
use Rattle.x12_envelopes.specs.Shape.{bytes_of_set_no}
use Rattle.x12_acks.specs.Submission.{TransactionSetKey}
use Rattle.x12_acks.specs.Evidence.{FinalFate}
use Rattle.x12_acks.specs.Key.{key_view}
use Rattle.x12_outbound.specs.Fate.{final_fate}
use Rattle.x12_outbound.specs.declared.evidence.Naming.{Naming}
use Rattle.x12_outbound.specs.declared.evidence.Naming.TheVariants.{Interchange, TransactionSet}
use Rattle.x12_outbound.specs.declared.evidence.Statement.{Statement}
use Rattle.x12_outbound.specs.declared.evidence.Finding.{Finding as CodeFinding}
use Rattle.x12_outbound.specs.declared.evidence.Finding.TheVariants as code
use Rattle.x12_outbound.specs.declared.evidence.Piece.{Piece}

-- what an answer names: a TA1 an interchange (TA101); a 997 a functional group (AK101, AK102) and a
-- transaction set of it (AK202)
pub data SetNaming : Type 0 where
  by_interchange : SetNaming
  by_group_and_set : List ℕ → ℕ → List ℕ → SetNaming

-- that a submitted transaction set was accepted or rejected: who says so, the sender of the
-- interchange that holds the answer; of which set; and what names it
pub record SetStatement : Type 0 where
  pub from : Party
  pub key : TransactionSetKey
  pub naming : SetNaming
  pub fate : FinalFate

-- what a piece is, the pieces before it counted: it settles a pending set, repeats a final fate or
-- contradicts it, or answers nothing that was submitted
pub data Finding : Type 0 where
  Settles : Finding
  Repeats : Finding
  Conflicts : Finding
  Unmatched : Finding

-- a piece; no statement where nothing that was submitted is answered
pub record PlannedPiece : Type 0 where
  pub statement : Option SetStatement
  pub finding : Finding

-- what the code's pieces stand for
abbrev pub naming_view : Naming → SetNaming
naming_view Interchange = by_interchange
naming_view (TransactionSet functional group set) =
    by_group_and_set functional group (bytes_of_set_no set)

abbrev pub set_statement_view : Statement → SetStatement
set_statement_view s = record {
  from = s.from;
  key = key_view s.key;
  naming = naming_view s.naming;
  fate = final_fate s.fate;
}

abbrev pub finding_view : CodeFinding → Finding
finding_view code.Settles = Settles
finding_view code.Repeats = Repeats
finding_view code.Conflicts = Conflicts
finding_view code.Unmatched = Unmatched

abbrev pub piece_view : Piece → PlannedPiece
piece_view p = record {
  statement = option_map set_statement_view p.statement;
  finding = finding_view p.finding;
}
