-- What a reply to a submission by its receiver tells, and a refusal by a hub: the verdict of each set, once, by place.
use Rattle.std.specs.Prelude.{◌≡◌, ℕ, List, [], ◌∷◌, ◌++◌, false, flat_map, Ok, refl, IsTrue}
use Rattle.std.specs.List.{AllByRecursion, list_any}
use mathlib.Core.Path.{sym, ap, ap₂, subst, ◌∙◌}
use Rattle.x12_numbers.specs.Book.{is_rising}
use Rattle.x12_envelopes.specs.declared.header.Header.{Header}
use Rattle.x12_envelopes.specs.declared.party.Party.{Party}
use Rattle.x12_envelopes.specs.Header.{header_of}
use Rattle.x12_envelopes.specs.Envelope.{written}
use Rattle.x12_envelopes.specs.Outline.{outline_of}
use Rattle.x12_envelopes.specs.Shape.{Interchange}
use Rattle.x12_judge.specs.Agreement.{TradingAgreement}
use Rattle.x12_judge.specs.Controls.{JudgingTerms}
use Rattle.x12_judge.specs.Verdict.{judgement_of, InterchangeVerdict}
use Rattle.x12_acks.specs.Accepted.{accepted_by_verdict, noted_by_verdict}
use Rattle.x12_acks.specs.Evidence.{Evidence as Piece, evidence_of}
use Rattle.x12_acks.specs.Laws.{IsFirstNumbered, IsSubmittedAmong, Tells, has_group}
use Rattle.x12_acks.specs.Reply.{reply_of}
use Rattle.x12_acks.specs.Submission.{Submission, SubmittedGroup, submission_of}
use Rattle.x12_acks.specs.Told.{told_by_place}
use Rattle.x12_profile.specs.Interchange.{Bytes, PlacedTransactionSet, evidence_by}
use Rattle.x12_profile.specs.declared.edition.Edition.{Edition}
use Rattle.x12_profile.specs.Laws.{IsReply}
use Rattle.x12_profile.specs.Reading.{answers_in}
use Rattle.x12_acks.specs.Evidence.{fate_of_result}
use Rattle.x12_acks.specs.Told.{result_by_verdict}
use Rattle.x12_profile.specs.Edition.{fate_read, terms_by}
use Rattle.x12_profile.specs.X12.{x12, result_at, sets_by_place, told_by_piece, pieces_read}
use Rattle.x12_profile.proofs.Below.{Below}
use Rattle.x12_profile.proofs.FieldLemmas as field
use Rattle.x12_profile.proofs.PlaceLemmas.{all_told}
use Rattle.x12_profile.proofs.ReplyLemmas as reply
use Rattle.x12_profile.proofs.SubmissionLemmas as submission

none_before : (gs : List SubmittedGroup) → AllByRecursion (λ g. list_any (has_group g.number) [] ≡ false) gs
none_before [] = tt
none_before (g ∷ gs) = (refl, none_before gs)

-- one submission alone
pub first_alone : (e : Submission) → IsFirstNumbered (e ∷ []) e
first_alone e = record { before = []; behind = []; is = refl; icn = refl }

pub submitted_alone : (e : Submission) → IsSubmittedAmong (e ∷ []) e
unfolding first_alone
submitted_alone e = record { first = first_alone e; groups = none_before e.groups }

-- bytes that tell something of one submission
pub evidence_told : (ed : Edition) (hubs : List Party) (b x : Bytes) (h : Header) (o : Interchange) (es : List Piece) → header_of x ≡ Ok h → outline_of h.delims x ≡ Ok o → Tells hubs (submission_of h x o ∷ []) b es → x12.evidence ed hubs b x ≡ flat_map told_by_piece (pieces_read ed es)
evidence_told ed hubs b x h o es known there tells =
    field.evidence_is ed hubs b x
    ∙ ap (λ ss. flat_map told_by_piece (pieces_read ed (evidence_of hubs (ss ++ []) (x12.sender b) (answers_in b)))) (field.submission_is x h known o there)
    ∙ ap₂ (λ from answers. flat_map told_by_piece (pieces_read ed (evidence_of hubs (submission_of h x o ∷ []) from answers))) (field.sender_is b tells.header tells.is_header) (field.answers_are b tells.header tells.is_header tells.outline tells.is_outline)
    ∙ ap (λ told. flat_map told_by_piece (pieces_read ed told)) tells.told

-- what is told by place
by_place : (ed : Edition) (h : Header) (x : Bytes) (o : Interchange) (v : InterchangeVerdict) → flat_map told_by_piece (pieces_read ed (told_by_place (submission_of h x o) v)) ≡ evidence_by ed (λ k. result_at k (noted_by_verdict h.sender h.icn v) (accepted_by_verdict h.sender h.icn v)) (sets_by_place o)
unfolding told_by_place submission_of
by_place ed h x o v = all_told ed (result_by_verdict h.sender h.icn v) h x o

by_profile : (read ed : Edition) (me : Party) (a : List TradingAgreement) (x : Bytes) (h : Header) → header_of x ≡ Ok h → (sets : List PlacedTransactionSet) → evidence_by read (x12.verdict ed me a x) sets ≡ evidence_by read (λ k. result_at k (noted_by_verdict h.sender h.icn (judgement_of me (terms_by ed a) h x).verdict) (accepted_by_verdict h.sender h.icn (judgement_of me (terms_by ed a) h x).verdict)) sets
by_profile read ed me a x h known [] = refl
by_profile read ed me a x h known (s ∷ sets) = ap₂ (λ v es. record { place = s.place; fate = fate_read read (fate_of_result v) } ∷ es) (field.verdict_is x h known ed me a s.place ∙ ap (λ j. result_at s.place (noted_by_verdict h.sender h.icn j.verdict) (accepted_by_verdict h.sender h.icn j.verdict)) (field.is_first ed me a h x)) (by_profile read ed me a x h known sets)

module _ (g : Below) (me : Party) (a : List TradingAgreement) (x r : Bytes) (w : IsReply x12 me a x r) (s : submission.IsSubmitted x) (n : ℕ) (rising : IsTrue (is_rising n (x12.groups x))) (own : x12.receiver x ≡ me) where
  abbrev h : Header
  h = s.header

  abbrev e : Submission
  e = submission_of h x s.outline

  abbrev terms : JudgingTerms
  terms = terms_by w.edition a

  mine : h.receiver ≡ me
  mine = sym (field.receiver_is x h s.is_header) ∙ own

  abbrev reply_by : Party → Bytes
  reply_by who = written (reply_of h (judgement_of who terms h x) who w.at w.book.interchange w.book.group)

  bytes_are : r ≡ reply_by me
  bytes_are = w.bytes ∙ field.reply_is x h s.is_header w.edition me a w.at w.book ∙ ap (λ j. written (reply_of h j me w.at w.book.interchange w.book.group)) (field.is_first w.edition me a h x)

  tells_it : (hubs : List Party) → Tells hubs (e ∷ []) r (told_by_place e (judgement_of me terms h x).verdict)
  tells_it hubs =
      let at = reply.numbers g me a x r w in
      subst (λ bytes. Tells hubs (e ∷ []) bytes (told_by_place e (judgement_of me terms h x).verdict)) (sym bytes_are)
      (subst (λ who. Tells hubs (e ∷ []) (reply_by who) (told_by_place e (judgement_of who terms h x).verdict)) mine
      (g.tells.reply hubs (e ∷ []) terms h x s.outline w.at w.book.interchange w.book.group (submission.of_orders x s n rising) (submitted_alone e) at.0 at.1))

  pub tells_verdict : (ed : Edition) (hubs : List Party) → x12.evidence ed hubs r x ≡ evidence_by ed (x12.verdict w.edition me a x) (x12.sets x)
  tells_verdict ed hubs =
      evidence_told ed hubs r x h s.outline (told_by_place e (judgement_of me terms h x).verdict) s.is_header s.is_outline (tells_it hubs)
      ∙ by_place ed h x s.outline (judgement_of me terms h x).verdict
      ∙ sym (by_profile ed w.edition me a x h s.is_header (sets_by_place s.outline))
      ∙ ap (evidence_by ed (x12.verdict w.edition me a x)) (sym (field.sets_are x h s.is_header s.outline s.is_outline))

-- the law
pub tells : Below → (me : Party) (a : List TradingAgreement) (x r : Bytes) (w : IsReply x12 me a x r)
    → IsTrue (x12.is_submission x) → (n : ℕ) → IsTrue (is_rising n (x12.groups x)) → x12.receiver x ≡ me → (ed : Edition) (hubs : List Party)
    → x12.evidence ed hubs r x ≡ evidence_by ed (x12.verdict w.edition me a x) (x12.sets x)
tells g me a x r w orders n rising own ed hubs = tells_verdict g me a x r w (submission.submitted x orders) n rising own ed hubs
