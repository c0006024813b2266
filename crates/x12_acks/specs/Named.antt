-- Which submitted interchange an answer names, and the evidence for a list of them by the one that
-- is named.
use Rattle.std.specs.Prelude.{◌≡◌, ℕ, Bool, true, false, ◌&&◌, ◌==◌, List, [], ◌∷◌, filter, find, Option, Some, None, bytes_eq, Contains, AllPairs, if◌then◌else◌, ◌⊎◌, option_and_then}
use Rattle.std.specs.List.{list_any, AllByRecursion}
use Rattle.std.specs.Option.{option_or}
use Rattle.x12_envelopes.specs.declared.party.Party.{Party}
use Rattle.x12_envelopes.specs.declared.shape.AcknowledgmentCode.{AcknowledgmentCode}
use Rattle.x12_judge.specs.Agreement.{is_same_party}
use Rattle.x12_acks.specs.Answer.{Acknowledgment, of_interchange, of_group, unclear, FunctionalGroupAnswer}
use Rattle.x12_acks.specs.Submission.{Submission, SubmittedGroup, IsBefore}
use Rattle.x12_acks.specs.Evidence.{Evidence, tells, unmatched, is_acknowledged_by, answer_evidence, evidence_of, found_interchange, found_group}

-- a 997 names this group: its code and its number (AK101, AK102)
abbrev pub names_group : FunctionalGroupAnswer → SubmittedGroup → Bool
names_group a g = bytes_eq g.functional a.functional && g.number == a.number

-- An answer from this party names a submission: a TA1 by its number, from its receiver or one of
-- the sender's hubs; a 997 by one of its groups, from its receiver.
abbrev pub names_submission : List Party → Party → Acknowledgment → Submission → Bool
names_submission hubs from (of_interchange icn code note) e = is_acknowledged_by hubs from icn e
names_submission hubs from (of_group a) e =
    is_same_party e.receiver from && list_any (names_group a) e.groups
names_submission hubs from unclear e = false

-- the evidence of an answer for the one submission that it names, or for none
abbrev pub evidence_for_one :
    List Party → Party → Acknowledgment → Option Submission → List Evidence
evidence_for_one hubs from a None = answer_evidence hubs [] from a
evidence_for_one hubs from a (Some e) = answer_evidence hubs (e ∷ []) from a

-- What an answer tells the sender of these submissions is what it tells of the first that it names:
-- whatever the list.
abbrev pub EvidenceIsOfTheNamed : Type 0
EvidenceIsOfTheNamed =
    (hubs : List Party) (from : Party) (submissions : List Submission) (a : Acknowledgment) →
    answer_evidence hubs submissions from a
    ≡ evidence_for_one hubs from a (find (names_submission hubs from a) submissions)

-- Submissions whose numbers rise.

-- each submission is before those that follow it
abbrev pub SubmissionsRise : List Submission → Type 0
SubmissionsRise all = AllPairs IsBefore all

-- at most one element passes
abbrev pub AtMostOne : {X : Type 0} → (X → Bool) → List X → Type 0
AtMostOne {X} p xs =
    (x y : X) → Contains xs x → Contains xs y → p x ≡ true → p y ≡ true → x ≡ y

-- Of submissions whose numbers rise each answer names at most one, and each number of an
-- interchange or of a group is that of at most one.
pub record NamesOne : Type 0 where
  pub answer :
      (all : List Submission) → SubmissionsRise all →
      (hubs : List Party) (from : Party) (a : Acknowledgment) →
      AtMostOne (names_submission hubs from a) all
  pub number :
      (all : List Submission) → SubmissionsRise all → (icn : ℕ) → AtMostOne (λ e. e.icn == icn) all
  pub group :
      (all : List Submission) → SubmissionsRise all → (number : ℕ) →
      AtMostOne (λ e. list_any (λ g. g.number == number) e.groups) all

-- a list of submissions holds all that these answers name in another, and nothing else
pub record HoldsTheNamed (hubs : List Party) (from : Party) (answers : List Acknowledgment)
    (all some : List Submission) : Type 0 where
  pub of_all : (e : Submission) → Contains some e → Contains all e
  pub named :
      (e : Submission) (a : Acknowledgment) → Contains all e → Contains answers a →
      names_submission hubs from a e ≡ true → Contains some e

-- The evidence for submissions whose numbers rise is that for any list that holds the named ones,
-- in whatever order: as for the open ones and those that were found elsewhere.
abbrev pub EvidenceNeedsTheNamed : Type 0
EvidenceNeedsTheNamed =
    (hubs : List Party) (from : Party) (all some : List Submission)
    (answers : List Acknowledgment) →
    SubmissionsRise all → HoldsTheNamed hubs from answers all some →
    evidence_of hubs some from answers ≡ evidence_of hubs all from answers

-- a list in two parts, in whatever order: the open ones and the closed ones
pub record IsInParts (all near far : List Submission) : Type 0 where
  pub open_of : (e : Submission) → Contains near e → Contains all e
  pub closed_of : (e : Submission) → Contains far e → Contains all e
  pub either : (e : Submission) → Contains all e → Contains near e ⊎ Contains far e

-- What is found among all is what is found among the open ones, or else among the closed ones.
pub record FoundInParts : Type 0 where
  pub submission :
      (hubs : List Party) (from : Party) (all near far : List Submission) (a : Acknowledgment) →
      SubmissionsRise all → IsInParts all near far →
      answer_evidence hubs all from a
      ≡ evidence_for_one hubs from a
      (option_or (find (names_submission hubs from a) near)
      (find (names_submission hubs from a) far))
  pub interchange :
      (hubs : List Party) (from : Party) (all near far : List Submission) (icn : ℕ) →
      SubmissionsRise all → IsInParts all near far →
      found_interchange hubs all from icn
      ≡ option_or (found_interchange hubs near from icn) (found_interchange hubs far from icn)
  pub group :
      (from : Party) (all near far : List Submission) (a : FunctionalGroupAnswer) →
      SubmissionsRise all → IsInParts all near far →
      found_group all from a ≡ option_or (found_group near from a) (found_group far from a)

-- what a finder by number gave, if it passes
abbrev pub found_if : {X : Type 0} → (X → Bool) → Option X → Option X
found_if p found = option_and_then (λ x. if p x then Some x else None) found

-- A finder by an interchange's number, or by a group's, finds the submission that an answer names.
pub record FinderFinds : Type 0 where
  pub by_number :
      (hubs : List Party) (from : Party) (all : List Submission) (icn note : ℕ)
      (code : AcknowledgmentCode) →
      SubmissionsRise all →
      find (names_submission hubs from (of_interchange icn code note)) all
      ≡ found_if (names_submission hubs from (of_interchange icn code note))
      (find (λ e. e.icn == icn) all)
  pub by_group :
      (hubs : List Party) (from : Party) (all : List Submission) (a : FunctionalGroupAnswer) →
      SubmissionsRise all →
      find (names_submission hubs from (of_group a)) all
      ≡ found_if (names_submission hubs from (of_group a))
      (find (λ e. list_any (λ g. g.number == a.number) e.groups) all)

-- The evidence of one submission.

-- a piece tells of a set of the interchange of this number
abbrev pub tells_of : ℕ → Evidence → Bool
tells_of icn (tells key fate) = key.icn == icn
tells_of icn unmatched = false

-- a piece tells of nothing, or of a set of this submission
abbrev pub IsOwn : Submission → Evidence → Type 0
IsOwn e (tells key fate) = (key.icn ≡ e.icn) × (key.sender ≡ e.sender)
IsOwn e unmatched = Unit {0}

-- Of one submission the evidence tells what it tells for it alone, in the same order; and all that
-- is told for it alone is of its keys.
pub record EvidenceOfEach : Type 0 where
  pub cut :
      (hubs : List Party) (from : Party) (all : List Submission) (x : Submission)
      (answers : List Acknowledgment) →
      SubmissionsRise all → Contains all x →
      filter (tells_of x.icn) (evidence_of hubs all from answers)
      ≡ filter (tells_of x.icn) (evidence_of hubs (x ∷ []) from answers)
  pub alone :
      (hubs : List Party) (from : Party) (x : Submission) (answers : List Acknowledgment) →
      AllByRecursion (IsOwn x) (evidence_of hubs (x ∷ []) from answers)
