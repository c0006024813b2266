-- A reply, at the profile: what it is, what it accepts, whom it is from and to.
use Rattle.std.specs.Prelude.{◌≡◌, ◌≢◌, ℕ, ◌+◌, ◌≤◌, List, [], ◌∷◌, Bool, true, false, not, cond, map, filter, Option, Some, None, Result, Ok, Err, refl, IsTrue}
use Rattle.std.specs.List.{enumerate_from}
use mathlib.Core.Path.{sym, ap, ap₂, ◌∙◌}
use mathlib.Core.Logic.{inr}
use Rattle.x12_envelopes.specs.declared.delimiters.Delims.{Delims}
use Rattle.x12_envelopes.specs.declared.header.Header.{Header}
use Rattle.x12_envelopes.specs.declared.moment.Moment.{Moment}
use Rattle.x12_envelopes.specs.declared.party.Party.{Party}
use Rattle.x12_envelopes.specs.declared.shape.OutlineFault.{OutlineFault}
use Rattle.x12_envelopes.specs.Header.{header_of}
use Rattle.x12_envelopes.specs.Envelope.{WrittenInterchange, written}
use Rattle.x12_envelopes.specs.Fitting.{interchange_fits}
use Rattle.x12_envelopes.specs.Outline.{outline_of}
use Rattle.x12_envelopes.specs.Party.{is_plain_party}
use Rattle.x12_envelopes.specs.RoundTrip.{written_group_outline}
use Rattle.x12_envelopes.specs.Shape.{Interchange, FunctionalGroup}
use Rattle.x12_judge.specs.Agreement.{TradingAgreement, is_same_party}
use Rattle.x12_judge.specs.Controls.{JudgingTerms}
use Rattle.x12_judge.specs.Group.{FunctionalGroupVerdict}
use Rattle.x12_judge.specs.Interchange.{note_of_interchange}
use Rattle.x12_judge.specs.Verdict.{judgement_of, verdict_by, verdicts_of_groups, group_is_acknowledgment}
use Rattle.x12_acks.specs.Accepted.{AcceptedSet, sets_by_verdict, accepted_by_verdict, noted_by_verdict}
use Rattle.x12_acks.specs.Place.{sets_by_reply}
use Rattle.x12_judge.specs.declared.verdict.SetResult.{SetResult}
use Rattle.x12_judge.specs.Set.{takes, is_noted}
use Rattle.x12_acks.specs.Laws.{written_answers}
use Rattle.x12_acks.specs.Reply.{reply_of, reply_to, reply_tas, answer_groups, judged_groups}
use Rattle.x12_profile.specs.Interchange.{Bytes, PlaceOfSet}
use Rattle.x12_profile.specs.declared.edition.Edition.{Edition}
use Rattle.x12_profile.specs.Edition.{terms_by}
use Rattle.x12_profile.specs.Laws.{IsReply}
use Rattle.x12_profile.specs.Reading.{answers_in}
use Rattle.x12_profile.specs.X12.{x12, accepted_in, noted_in, result_at, group_numbers, is_refused}
use Rattle.x12_profile.proofs.Below.{Below}
use Rattle.x12_profile.proofs.FieldLemmas as field
use Rattle.x12_profile.proofs.PartyLemmas.{is_same_party-Decides}
use Rattle.x12_profile.proofs.WrittenLemmas as back
use Rattle.std.proofs.Common.{true≢false}

-- a plain party of the profile is one of X12
pub plainly : (me : Party) → IsTrue (x12.is_plain me) → is_plain_party me ≡ true
unfolding x12
plainly me e = e

-- a group of acknowledgments isn't to be acknowledged
none_asked : (d : Delims) (at : Moment) (gcn : ℕ) (vs : List FunctionalGroupVerdict) → filter (λ g. not (group_is_acknowledgment g)) (map (written_group_outline d) (answer_groups at gcn vs)) ≡ []
unfolding answer_groups
none_asked d at gcn [] = refl
none_asked d at gcn (v ∷ vs) = refl

-- What is accepted of an interchange without groups, or without those to be acknowledged, or to another receiver.

none_by : (test : SetResult → Bool) (sender : Party) (icn : ℕ) (n : Option ℕ) → sets_by_verdict test sender icn (verdict_by n []) ≡ []
unfolding sets_by_verdict
none_by test sender icn None = refl
none_by test sender icn (Some n) = refl

none_enumerated : (n : ℕ) (gs : List FunctionalGroup) → map (λ g. g.number) (filter (λ g. not (group_is_acknowledgment g)) gs) ≡ [] → filter (λ place. not (group_is_acknowledgment place.1)) (enumerate_from n gs) ≡ []
none_enumerated n [] e = refl
none_enumerated n (z ∷ gs) e = by (group_is_acknowledgment z) e (none_enumerated (n + 1) gs)
  where
    by : (t : Bool) → map (λ (g : FunctionalGroup). g.number) (cond (not t) (z ∷ filter (λ g. not (group_is_acknowledgment g)) gs) (filter (λ g. not (group_is_acknowledgment g)) gs)) ≡ [] → (map (λ (g : FunctionalGroup). g.number) (filter (λ g. not (group_is_acknowledgment g)) gs) ≡ [] → filter (λ place. not (group_is_acknowledgment place.1)) (enumerate_from (n + 1) gs) ≡ []) → cond (not t) ((n, z) ∷ filter (λ place. not (group_is_acknowledgment place.1)) (enumerate_from (n + 1) gs)) (filter (λ place. not (group_is_acknowledgment place.1)) (enumerate_from (n + 1) gs)) ≡ []
    by true e more = more e
    by false e more = absurd cc

module _ (me : Party) (a : JudgingTerms) (h : Header) (b : Bytes) where
  -- the sets whose result by the verdict passes a test
  abbrev pub kept : (SetResult → Bool) → List AcceptedSet
  kept test = sets_by_verdict test h.sender h.icn (judgement_of me a h b).verdict

  pub none_of_fault : (test : SetResult → Bool) (f : OutlineFault) → outline_of h.delims b ≡ Err f → kept test ≡ []
  unfolding judgement_of verdicts_of_groups
  none_of_fault test f is = rw is (none_by test h.sender h.icn (note_of_interchange a.controls me h (Err f)))

  none_of_none : (test : SetResult → Bool) (o : Interchange) → outline_of h.delims b ≡ Ok o → group_numbers o ≡ [] → kept test ≡ []
  unfolding judgement_of verdicts_of_groups
  none_of_none test o is none = rw (is, none_enumerated 1 o.groups none) (none_by test h.sender h.icn (note_of_interchange a.controls me h (Ok o)))

  none_of_other : (test : SetResult → Bool) → is_same_party h.receiver me ≡ false → kept test ≡ []
  unfolding judgement_of note_of_interchange sets_by_verdict
  none_of_other test is = rw is refl

  refused_other : is_same_party h.receiver me ≡ false → is_refused (judgement_of me a h b).verdict ≡ true
  unfolding judgement_of note_of_interchange
  refused_other is = rw is refl

-- The reply.

module _ (g : Below) (me : Party) (a : List TradingAgreement) (b r : Bytes) (w : IsReply x12 me a b r) where
  pub known : (h : Header) × (header_of b ≡ Ok h)
  known = field.header_known b w.header

  abbrev pub h : Header
  h = known.0

  -- by which the edition judged
  abbrev pub terms : JudgingTerms
  terms = terms_by w.edition a

  abbrev pub answer : WrittenInterchange
  answer = reply_of h (judgement_of me terms h b) me w.at w.book.interchange w.book.group

  pub numbers : (w.book.interchange ≤ 999999999) × (w.book.group ≤ 999999999)
  numbers = back.within w.book.interchange w.book.group w.within

  pub bytes_are : r ≡ written answer
  bytes_are = w.bytes ∙ field.reply_is b h known.1 w.edition me a w.at w.book ∙ ap (λ j. written (reply_of h j me w.at w.book.interchange w.book.group)) (field.is_first w.edition me a h b)

  pub fitting : interchange_fits answer ≡ true
  fitting = g.fits.reply me terms h b w.at w.book.interchange w.book.group known.1 (inr (plainly me w.plain)) numbers.0 numbers.1

  pub from : x12.sender r ≡ me
  unfolding reply_of reply_to
  from = back.sender_is g.read r answer bytes_are fitting

  pub to : x12.receiver r ≡ x12.sender b
  unfolding reply_of reply_to
  to = back.receiver_is g.read r answer bytes_are fitting ∙ sym (field.sender_is b h known.1)

  pub number : x12.number r ≡ w.book.interchange
  unfolding reply_of reply_to
  number = back.number_is g.read r answer bytes_are fitting

  pub no_groups : x12.groups r ≡ []
  unfolding reply_of reply_to
  no_groups = back.groups_are g.read r answer bytes_are fitting ∙ ap (map (λ (z : FunctionalGroup). z.number)) (none_asked answer.delims w.at w.book.group (judged_groups (judgement_of me terms h b).verdict))

  pub answers_are : answers_in r ≡ written_answers answer
  answers_are = back.answers_are g.read r answer bytes_are fitting

  pub is_taken : (ed : Edition) → x12.refuses ed (x12.sender b) r ≡ false
  unfolding reply_of
  is_taken ed = back.is_taken ed g.read b r h me w.at w.book.interchange (reply_tas h (judgement_of me terms h b).verdict) (answer_groups w.at w.book.group (judged_groups (judgement_of me terms h b).verdict)) known.1 bytes_are fitting

  -- What it accepts.

  accepted_with : (o : Result Interchange OutlineFault) → outline_of h.delims b ≡ o → accepted_in b r ≡ kept me terms h b takes
  accepted_with (Ok o) is =
      field.accepted_are b h known.1 o is r
      ∙ ap (sets_by_reply takes h o) answers_are
      ∙ g.places.segments takes refl me terms h b o w.at w.book.interchange w.book.group is
  accepted_with (Err f) is = field.no_accepted b h known.1 f is r ∙ sym (none_of_fault me terms h b takes f is)

  noted_with : (o : Result Interchange OutlineFault) → outline_of h.delims b ≡ o → noted_in b r ≡ kept me terms h b is_noted
  noted_with (Ok o) is =
      field.noted_are b h known.1 o is r
      ∙ ap (sets_by_reply is_noted h o) answers_are
      ∙ g.places.segments is_noted refl me terms h b o w.at w.book.interchange w.book.group is
  noted_with (Err f) is = field.no_noted b h known.1 f is r ∙ sym (none_of_fault me terms h b is_noted f is)

  verdict_here : (k : PlaceOfSet) → x12.verdict w.edition me a b k ≡ result_at k (kept me terms h b is_noted) (kept me terms h b takes)
  verdict_here k = field.verdict_is b h known.1 w.edition me a k ∙ ap (λ j. result_at k (noted_by_verdict h.sender h.icn j.verdict) (accepted_by_verdict h.sender h.icn j.verdict)) (field.is_first w.edition me a h b)

  pub result : (k : PlaceOfSet) → x12.result b r k ≡ x12.verdict w.edition me a b k
  result k = field.result_is b r k ∙ ap₂ (result_at k) (noted_with (outline_of h.delims b) refl) (accepted_with (outline_of h.delims b) refl) ∙ sym (verdict_here k)

  nothing : ((test : SetResult → Bool) → kept me terms h b test ≡ []) → (k : PlaceOfSet) → takes (x12.result b r k) ≡ false
  nothing none k = ap takes (result k ∙ verdict_here k ∙ ap₂ (result_at k) (none is_noted) (none takes))

  none_without : (o : Result Interchange OutlineFault) → outline_of h.delims b ≡ o → x12.groups b ≡ [] → (test : SetResult → Bool) → kept me terms h b test ≡ []
  none_without (Ok o) is none test = none_of_none me terms h b test o is (sym (field.groups_are b h known.1 o is) ∙ none)
  none_without (Err f) is none test = none_of_fault me terms h b test f is

  pub accepts_no_group : x12.groups b ≡ [] → (k : PlaceOfSet) → takes (x12.result b r k) ≡ false
  accepts_no_group none k = nothing (none_without (outline_of h.delims b) refl none) k

  other_party : x12.receiver b ≢ me → (t : Bool) → is_same_party h.receiver me ≡ t → is_same_party h.receiver me ≡ false
  other_party other false is = is
  other_party other true is = absurd (other (field.receiver_is b h known.1 ∙ (is_same_party-Decides h.receiver me).0 is))

  pub accepts_no_other : x12.receiver b ≢ me → (k : PlaceOfSet) → takes (x12.result b r k) ≡ false
  accepts_no_other other k = nothing (λ test. none_of_other me terms h b test (other_party other (is_same_party h.receiver me) refl)) k

-- A station refuses what isn't addressed to it.

module _ (ed : Edition) (me : Party) (b : Bytes) (there : IsTrue (x12.has_header b)) (took : x12.refuses ed me b ≡ false) where
  header : (h : Header) × (header_of b ≡ Ok h)
  header = field.header_known b there

  own : (t : Bool) → is_same_party header.0.receiver me ≡ t → x12.receiver b ≡ me
  own true is = field.receiver_is b header.0 header.1 ∙ (is_same_party-Decides header.0.receiver me).0 is
  own false is = absurd (true≢false (sym (field.refuses_is b header.0 header.1 ed me ∙ ap (λ j. is_refused j.verdict) (field.is_first ed me [] header.0 b) ∙ refused_other me (terms_by ed []) header.0 b is) ∙ took))

  pub refuses_others : x12.receiver b ≡ me
  refuses_others = own (is_same_party header.0.receiver me) refl
