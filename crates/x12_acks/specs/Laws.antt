-- What holds of answers, over the definitions alone.
use Rattle.std.specs.Prelude.{◌≡◌, ◌≤◌, ℕ, Bool, false, List, [], ◌∷◌, ◌++◌, ◌==◌, map}
use Rattle.std.specs.Prelude.{flat_map, if◌then◌else◌, Ok, true, unwrap_or, bytes_eq}
use Rattle.std.specs.Prelude.{codes, ◌⊎◌, Contains}
use Rattle.std.specs.List.{AllByRecursion, IsDistinct, list_any}
use Rattle.x12_envelopes.specs.declared.shape.AcknowledgmentCode.TheVariants as interchange
use Rattle.x12_envelopes.specs.declared.party.Party.{Party}
use Rattle.x12_envelopes.specs.declared.delimiters.Delims.{Delims}
use Rattle.x12_envelopes.specs.declared.moment.Moment.{Moment}
use Rattle.x12_envelopes.specs.declared.header.Header.{Header}
use Rattle.x12_envelopes.specs.Delimiters.{bytes_are_delimiters}
use Rattle.x12_envelopes.specs.Party.{is_plain_party}
use Rattle.x12_envelopes.specs.Header.{header_of}
use Rattle.x12_envelopes.specs.Outline.{outline_of}
use Rattle.x12_envelopes.specs.Byte.{value_of_digits}
use Rattle.x12_envelopes.specs.Content.{code_of_acknowledgment}
use Rattle.x12_envelopes.specs.Segment.{Segment}
use Rattle.x12_envelopes.specs.Envelope.{WrittenInterchange, WrittenGroup, WrittenSet, set_segments}
use Rattle.x12_envelopes.specs.Envelope.{element_at, written}
use Rattle.x12_envelopes.specs.Fitting.{interchange_fits}
use Rattle.x12_envelopes.specs.RoundTrip.{written_outline}
use Rattle.x12_envelopes.specs.Writable.{IsAddress}
use Rattle.x12_envelopes.specs.Shape.{FunctionalGroup, Interchange}
use Rattle.x12_judge.specs.Controls.{JudgingTerms}
use Rattle.x12_judge.specs.Verdict.{judgement_of, group_is_acknowledgment}
use Rattle.x12_acks.specs.Reply.{reply_of, refusal_of, MayAnswer}
use Rattle.x12_acks.specs.Statement.{Statement, statement_of}
use Rattle.x12_acks.specs.Submission.{Submission, keyed_sets, submission_of}
use Rattle.x12_acks.specs.Evidence.{rejected, Evidence, tells_each, evidence_of}
use Rattle.x12_acks.specs.Told.{told_by_place}
use Rattle.x12_acks.specs.Answer.{FunctionalAcknowledgment, acknowledgment_statements, said_by}
use Rattle.x12_acks.specs.Answer.{answer_of, answers_of, Acknowledgment, of_interchange, of_group}
use Rattle.x12_acks.specs.Answer.{unclear}

-- A 997 is read as its grammar says: each acknowledgment is read as what it says, and what is none
-- is unclear.
pub record GrammarIsRead : Type 0 where
  pub only :
      (a : FunctionalAcknowledgment) →
      answer_of (acknowledgment_statements a) ≡ of_group (said_by a)
  pub found :
      (statements : List Statement) →
      (answer_of statements ≡ unclear)
      ⊎ ((a : FunctionalAcknowledgment) × (statements ≡ acknowledgment_statements a))

-- What an interchange to be written answers, by its segments.

abbrev pub written_ta1 : Segment → Acknowledgment
written_ta1 s =
    of_interchange (value_of_digits (element_at s 1))
    (unwrap_or (code_of_acknowledgment (element_at s 4)) interchange.Accepted)
    (value_of_digits (element_at s 5))

abbrev pub written_set : WrittenSet → Acknowledgment
written_set s = answer_of (map statement_of (set_segments s))

abbrev pub written_group : WrittenGroup → List Acknowledgment
written_group g =
    if bytes_eq (element_at g.header 1) (codes "FA") then map written_set g.sets else []

unfoldable pub written_answers : WrittenInterchange → List Acknowledgment
written_answers x = map written_ta1 x.tas ++ flat_map written_group x.groups

-- a group of this number
abbrev pub has_group : ℕ → Submission → Bool
has_group number e = list_any (λ g. g.number == number) e.groups

-- one of these submitted interchanges; none before it has its number
pub record IsFirstNumbered (submissions : List Submission) (e : Submission) : Type 0 where
  pub before : List Submission
  pub behind : List Submission
  pub is : submissions ≡ before ++ e ∷ behind
  pub icn : list_any (λ o. o.icn == e.icn) before ≡ false

-- one of these submitted interchanges; none before it has its number, or a group of the number of
-- one of its groups
pub record IsSubmittedAmong (submissions : List Submission) (e : Submission) : Type 0 where
  pub first : IsFirstNumbered submissions e
  pub groups : AllByRecursion (λ g. list_any (has_group g.number) first.before ≡ false) e.groups

-- the numbers of a group's transaction sets differ
abbrev pub HasDistinctSets : FunctionalGroup → Type 0
HasDistinctSets g = IsDistinct (λ s t. bytes_eq s.number t.number) g.sets

-- an interchange as its sender submitted it: it can be read, has no group of acknowledgments, and
-- neither the numbers of its groups nor those of a group's transaction sets repeat
pub record IsOfOrders (h : Header) (bytes : List ℕ) (x : Interchange) : Type 0 where
  pub header : header_of bytes ≡ Ok h
  pub outline : outline_of h.delims bytes ≡ Ok x
  pub orders : AllByRecursion (λ g. group_is_acknowledgment g ≡ false) x.groups
  pub groups : IsDistinct (λ g o. g.number == o.number) x.groups
  pub sets : AllByRecursion HasDistinctSets x.groups

-- What the receiver's reply to a submitted interchange tells its sender, who has these hubs and
-- these submitted interchanges, is the verdict of each of its sets, once; and what a refusal by the
-- receiver or by one of the hubs tells is a rejection of each, whatever the interchange holds.
pub record SegmentsTellVerdict : Type 0 where
  pub reply :
      (hubs : List Party) (submissions : List Submission) (terms : JudgingTerms)
      (h : Header) (bytes : List ℕ) (x : Interchange) (at : Moment) (icn gcn : ℕ) →
      IsOfOrders h bytes x → IsSubmittedAmong submissions (submission_of h bytes x) →
      evidence_of hubs submissions h.receiver
      (written_answers
      (reply_of h (judgement_of h.receiver terms h bytes) h.receiver at icn gcn))
      ≡ told_by_place (submission_of h bytes x) (judgement_of h.receiver terms h bytes).verdict
  pub refusal :
      (hubs : List Party) (from : Party) (submissions : List Submission) (note : ℕ) (h : Header)
      (bytes : List ℕ) (x : Interchange) (at : Moment) (icn : ℕ) →
      header_of bytes ≡ Ok h → IsFirstNumbered submissions (submission_of h bytes x) →
      (from ≡ h.receiver) ⊎ Contains hubs from →
      evidence_of hubs submissions from (written_answers (refusal_of note h from at icn))
      ≡ tells_each rejected (keyed_sets (submission_of h bytes x))

-- bytes that arrive can be read, and what they answer is this evidence for the sender of these
-- submitted interchanges, who has these hubs
pub record Tells (hubs : List Party) (submissions : List Submission) (bytes : List ℕ)
    (evidence : List Evidence) : Type 0 where
  pub header : Header
  pub outline : Interchange
  pub is_header : header_of bytes ≡ Ok header
  pub is_outline : outline_of header.delims bytes ≡ Ok outline
  pub told :
      evidence_of hubs submissions header.sender (answers_of header.delims outline) ≡ evidence

-- What an interchange that fits answers, as it is read back, is what its segments answer.
abbrev pub AnswersReadBack : Type 0
AnswersReadBack =
    (x : WrittenInterchange) →
    interchange_fits x ≡ true → answers_of x.delims (written_outline x) ≡ written_answers x

-- A plain party may stand in ISA, under whatever delimiters.
abbrev pub PlainPartyIsAddress : Type 0
PlainPartyIsAddress =
    (d : Delims) (p : Party) → bytes_are_delimiters d ≡ true → is_plain_party p ≡ true
    → IsAddress d p

-- Each reply to an interchange whose header can be read, and each refusal of it with a note of at
-- most three digits, fits: it is read back as it was meant. They come from one who may answer it,
-- under control numbers of at most nine digits.
pub record ReplyFits : Type 0 where
  pub reply :
      (me : Party) (terms : JudgingTerms) (h : Header) (bytes : List ℕ) (at : Moment)
      (icn gcn : ℕ) →
      header_of bytes ≡ Ok h → MayAnswer h me → icn ≤ 999999999 → gcn ≤ 999999999 →
      interchange_fits (reply_of h (judgement_of me terms h bytes) me at icn gcn) ≡ true
  pub refusal :
      (me : Party) (note : ℕ) (h : Header) (bytes : List ℕ) (at : Moment) (icn : ℕ) →
      header_of bytes ≡ Ok h → MayAnswer h me → icn ≤ 999999999 → note ≤ 999 →
      interchange_fits (refusal_of note h me at icn) ≡ true

-- who may refuse an interchange: its receiver, or one of these hubs that is a plain party
abbrev pub MayRefuse : List Party → Header → Party → Type 0
MayRefuse hubs h from = (from ≡ h.receiver) ⊎ (Contains hubs from × (is_plain_party from ≡ true))

-- The bytes of the receiver's reply to a submitted interchange tell its sender the verdict of each
-- of its sets, once; and those of a refusal by the receiver or by one of the hubs, with a note of
-- at most three digits, tell a rejection of each. The control numbers have at most nine digits.
pub record ReplyTellsVerdict : Type 0 where
  pub reply :
      (hubs : List Party) (submissions : List Submission) (terms : JudgingTerms)
      (h : Header) (bytes : List ℕ) (x : Interchange) (at : Moment) (icn gcn : ℕ) →
      IsOfOrders h bytes x → IsSubmittedAmong submissions (submission_of h bytes x) →
      icn ≤ 999999999 → gcn ≤ 999999999 →
      Tells hubs submissions
      (written (reply_of h (judgement_of h.receiver terms h bytes) h.receiver at icn gcn))
      (told_by_place (submission_of h bytes x) (judgement_of h.receiver terms h bytes).verdict)
  pub refusal :
      (hubs : List Party) (from : Party) (submissions : List Submission) (note : ℕ) (h : Header)
      (bytes : List ℕ) (x : Interchange) (at : Moment) (icn : ℕ) →
      header_of bytes ≡ Ok h → IsFirstNumbered submissions (submission_of h bytes x) →
      MayRefuse hubs h from → icn ≤ 999999999 → note ≤ 999 →
      Tells hubs submissions (written (refusal_of note h from at icn))
      (tells_each rejected (keyed_sets (submission_of h bytes x)))
