-- What each function of the profile is, of bytes whose header can be read under these fields. Nothing else unfolds it.
use Rattle.std.specs.Prelude.{◌≡◌, ℕ, List, [], ◌∷◌, ◌++◌, true, false, flat_map, Result, Ok, Err, is_some, refl, IsTrue}
use mathlib.Core.Path.{ap}
use Rattle.x12_envelopes.specs.declared.header.Header.{Header}
use Rattle.x12_envelopes.specs.declared.header.HeaderFault.{HeaderFault}
use Rattle.x12_envelopes.specs.declared.moment.Moment.{Moment}
use Rattle.x12_envelopes.specs.declared.party.Party.{Party}
use Rattle.x12_envelopes.specs.declared.shape.Outline.{Outline}
use Rattle.x12_envelopes.specs.declared.shape.OutlineFault.{OutlineFault}
use Rattle.x12_envelopes.specs.Header.{header_of}
use Rattle.x12_envelopes.specs.Envelope.{written}
use Rattle.x12_envelopes.specs.Outline.{outline_of}
use Rattle.x12_envelopes.specs.Shape.{Interchange}
use Rattle.x12_judge.specs.Agreement.{TradingAgreement}
use Rattle.x12_judge.specs.Bound.{IsReadOf}
use Rattle.x12_judge.specs.Interchange.{reading_is_silent, reading_view}
use Rattle.x12_judge.specs.Verdict.{judgement_by, judgement_of}
use Rattle.x12_acks.specs.Accepted.{accepted_by_verdict, noted_by_verdict}
use Rattle.x12_acks.specs.Answer.{answers_of}
use Rattle.x12_acks.specs.Evidence.{evidence_of}
use Rattle.x12_acks.specs.Place.{accepted_by_reply, noted_by_reply}
use Rattle.x12_acks.specs.Reply.{reply_of, refusal_of}
use Rattle.x12_acks.specs.Submission.{submission_of}
use Rattle.x12_profile.specs.Interchange.{Bytes, PlaceOfSet, Book, Order}
use Rattle.x12_profile.specs.Reading.{header_in, outline_in, answers_in, if_ok}
use Rattle.x12_profile.specs.Order.{order_interchange}
use Rattle.x12_profile.specs.declared.edition.Edition.{Edition}
use Rattle.x12_profile.specs.Edition.{terms_by}
use Rattle.x12_profile.specs.X12.{x12, accepted_in, noted_in, pieces_read, result_at, group_numbers, is_order_outline, is_refused, judged_by, needs_of, sets_by_place, submission_in_bytes, told_by_piece}

-- by the terms of each edition
pub is_first : (ed : Edition) (me : Party) (a : List TradingAgreement) (h : Header) (b : Bytes) → judged_by ed me a h b ≡ judgement_of me (terms_by ed a) h b
is_first ed me a h b = refl

-- what was read of bytes says what they deserve
pub judged_as_read : (ed : Edition) (me : Party) (a : List TradingAgreement) (h : Header) (b : Bytes) (r : Result Outline OutlineFault)
    → IsReadOf b h r → judgement_by me (terms_by ed a) h (reading_view h.delims r) ≡ judged_by ed me a h b
unfolding judgement_of
judged_as_read ed me a h b r read = ap (judgement_by me (terms_by ed a) h) read.is

-- bytes with a header
pub header_known : (b : Bytes) → IsTrue (x12.has_header b) → (h : Header) × (header_of b ≡ Ok h)
unfolding x12 header_in
header_known b e = by (header_of b) refl e
  where
    by : (r : Result Header HeaderFault) → header_of b ≡ r → is_some (if_ok r) ≡ true → (h : Header) × (header_of b ≡ Ok h)
    by (Ok h) is e = (h, is)
    by (Err f) is e = absurd cc

module _ (b : Bytes) (h : Header) (is : header_of b ≡ Ok h) where
  pub has_header_is : x12.has_header b ≡ true
  unfolding x12 header_in
  has_header_is = rw is refl

  pub sender_is : x12.sender b ≡ h.sender
  unfolding x12 header_in
  sender_is = rw is refl

  pub receiver_is : x12.receiver b ≡ h.receiver
  unfolding x12 header_in
  receiver_is = rw is refl

  pub number_is : x12.number b ≡ h.icn
  unfolding x12 header_in
  number_is = rw is refl

  pub refuses_is : (ed : Edition) (me : Party) → x12.refuses ed me b ≡ is_refused (judged_by ed me [] h b).verdict
  unfolding x12 header_in
  refuses_is ed me = rw is refl

  pub verdict_is : (ed : Edition) (me : Party) (a : List TradingAgreement) (k : PlaceOfSet) → x12.verdict ed me a b k ≡ result_at k (noted_by_verdict h.sender h.icn (judged_by ed me a h b).verdict) (accepted_by_verdict h.sender h.icn (judged_by ed me a h b).verdict)
  unfolding x12 header_in
  verdict_is ed me a k = rw is refl

  pub needs_is : (ed : Edition) (me : Party) (a : List TradingAgreement) → x12.needs ed me a b ≡ needs_of ed me a b h
  unfolding x12 header_in
  needs_is ed me a = rw is refl

  pub reply_is : (ed : Edition) (me : Party) (a : List TradingAgreement) (at : Moment) (book : Book) → x12.reply ed me a at book b ≡ written (reply_of h (judged_by ed me a h b) me at book.interchange book.group)
  unfolding x12 header_in
  reply_is ed me a at book = rw is refl

  pub refusal_is : (note : ℕ) (me : Party) (at : Moment) (icn : ℕ) → x12.refusal note me at icn b ≡ written (refusal_of note h me at icn)
  unfolding x12 header_in
  refusal_is note me at icn = rw is refl

  -- and whose outline can be read
  module _ (o : Interchange) (there : outline_of h.delims b ≡ Ok o) where
    pub groups_are : x12.groups b ≡ group_numbers o
    unfolding x12 header_in outline_in
    groups_are = rw (is, there) refl

    pub sets_are : x12.sets b ≡ sets_by_place o
    unfolding x12 header_in outline_in
    sets_are = rw (is, there) refl

    pub is_submission_is : x12.is_submission b ≡ is_order_outline o
    unfolding x12 header_in outline_in
    is_submission_is = rw (is, there) refl

    pub is_silent_is : x12.is_silent b ≡ reading_is_silent (Ok o)
    unfolding x12 header_in outline_in
    is_silent_is = rw (is, there) refl

    pub answers_are : answers_in b ≡ answers_of h.delims o
    unfolding header_in
    answers_are = rw (is, there) refl

    pub accepted_are : (r : Bytes) → accepted_in b r ≡ accepted_by_reply h o (answers_in r)
    unfolding header_in
    accepted_are r = rw (is, there) refl

    pub noted_are : (r : Bytes) → noted_in b r ≡ noted_by_reply h o (answers_in r)
    unfolding header_in
    noted_are r = rw (is, there) refl

    pub submission_is : submission_in_bytes b ≡ submission_of h b o ∷ []
    unfolding header_in
    submission_is = rw (is, there) refl

  -- and whose outline can't
  module _ (f : OutlineFault) (there : outline_of h.delims b ≡ Err f) where
    pub no_accepted : (r : Bytes) → accepted_in b r ≡ []
    unfolding header_in
    no_accepted r = rw (is, there) refl

    pub no_noted : (r : Bytes) → noted_in b r ≡ []
    unfolding header_in
    no_noted r = rw (is, there) refl

    pub no_submission : submission_in_bytes b ≡ []
    unfolding header_in
    no_submission = rw (is, there) refl

    pub no_sets : x12.sets b ≡ []
    unfolding x12 header_in outline_in
    no_sets = rw (is, there) refl

    pub never_submitted : x12.is_submission b ≡ false
    unfolding x12 header_in outline_in
    never_submitted = rw (is, there) refl

-- bytes whose header can't be read
module _ (b : Bytes) (f : HeaderFault) (is : header_of b ≡ Err f) where
  pub no_submission_of : submission_in_bytes b ≡ []
  unfolding header_in
  no_submission_of = rw is refl

  pub no_sets_of : x12.sets b ≡ []
  unfolding x12 header_in outline_in
  no_sets_of = rw is refl

  pub not_submitted_of : x12.is_submission b ≡ false
  unfolding x12 header_in outline_in
  not_submitted_of = rw is refl

pub result_is : (b r : Bytes) (k : PlaceOfSet) → x12.result b r k ≡ result_at k (noted_in b r) (accepted_in b r)
unfolding x12
result_is b r k = refl

pub evidence_is : (ed : Edition) (hubs : List Party) (b x : Bytes) → x12.evidence ed hubs b x ≡ flat_map told_by_piece (pieces_read ed (evidence_of hubs (submission_in_bytes x ++ []) (x12.sender b) (answers_in b)))
unfolding x12
evidence_is ed hubs b x = refl

pub orders_are : (me to : Party) (at : Moment) (book : Book) (texts : List Order) → x12.orders me to at book texts ≡ written (order_interchange me to at book texts)
unfolding x12
orders_are me to at book texts = refl
