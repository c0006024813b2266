-- What the pieces of a plan name beside their sets: what the answer names that brings them.
use Rattle.std.specs.Prelude.{ℕ, List, map, flat_map, Option, Some, None, option_map}
use Rattle.x12_envelopes.specs.declared.party.Party.{Party}
use Rattle.x12_acks.specs.Answer.{Acknowledgment, of_interchange, of_group, unclear}
use Rattle.x12_acks.specs.Evidence.{Evidence, tells, unmatched, answer_evidence}
use Rattle.x12_acks.specs.Submission.{Submission, TransactionSetKey}
use Rattle.x12_outbound.specs.Piece.{SetNaming, by_interchange, by_group_and_set, SetStatement}
use Rattle.x12_outbound.specs.Piece.{PlannedPiece}

-- what an answer names: a TA1 an interchange (TA101), a 997 a functional group (AK101, AK102)
pub data Subject : Type 0 where
  an_interchange : ℕ → Subject
  a_group : List ℕ → ℕ → Subject

-- what a statement names beside its set
abbrev pub subject_with : TransactionSetKey → SetNaming → Subject
subject_with key by_interchange = an_interchange key.icn
subject_with key (by_group_and_set functional group set) = a_group functional group

abbrev pub subject_in : Option SetStatement → Option Subject
subject_in statement = option_map (λ s. subject_with s.key s.naming) statement

-- what an answer names; nothing where it is unclear
abbrev pub subject_of : Acknowledgment → Option Subject
subject_of (of_interchange icn code note) = Some (an_interchange icn)
subject_of (of_group a) = Some (a_group a.functional a.number)
subject_of unclear = None

-- what a piece of evidence is to name, where its answer names this: nothing where nothing is found
abbrev pub subject_for : Option Subject → Evidence → Option Subject
subject_for named (tells key fate) = named
subject_for named unmatched = None

-- what the pieces of answers are to name, piece by piece
unfoldable pub subjects_of :
    List Party → List Submission → Party → List Acknowledgment → List (Option Subject)
subjects_of hubs submissions from answers =
    flat_map (λ a. map (subject_for (subject_of a)) (answer_evidence hubs submissions from a)) answers

-- what pieces name
abbrev pub subjects_in : List PlannedPiece → List (Option Subject)
subjects_in pieces = map (λ p. subject_in p.statement) pieces
