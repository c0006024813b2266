-- A refusal, at the profile: what it is, what it tells, whom it is from and to.
use Rattle.std.specs.Prelude.{◌≡◌, ℕ, ◌≤◌, List, [], ◌∷◌, true, false, Ok, refl, IsTrue, Contains, ◌⊎◌, codes}
use native.Mathlib.Omega.{arith}
use mathlib.Core.Path.{sym, ap, subst, ◌∙◌}
use mathlib.Core.Logic.{inl, inr}
use Rattle.x12_envelopes.specs.declared.header.Header.{Header}
use Rattle.x12_envelopes.specs.declared.party.Party.{Party}
use Rattle.x12_envelopes.specs.Header.{header_of}
use Rattle.x12_envelopes.specs.Envelope.{WrittenInterchange, written}
use Rattle.x12_envelopes.specs.Fitting.{interchange_fits}
use Rattle.x12_envelopes.specs.Shape.{Interchange}
use Rattle.x12_acks.specs.Evidence.{rejected, tells_each}
use Rattle.x12_acks.specs.Laws.{Tells, written_answers, written_ta1}
use Rattle.x12_acks.specs.Reply.{refusal_of, reply_to, ta1_segment}
use Rattle.x12_acks.specs.Submission.{keyed_sets, submission_of}
use Rattle.x12_profile.specs.declared.edition.Edition.{Edition}
use Rattle.x12_judge.specs.declared.verdict.SetResult.TheVariants.{Rejected}
use Rattle.x12_profile.specs.Interchange.{Bytes, PlacedEvidence, evidence_by}
use Rattle.x12_profile.specs.Laws.{IsTa1Refusal}
use Rattle.x12_profile.specs.Reading.{answers_in}
use Rattle.x12_profile.specs.X12.{x12}
use Rattle.x12_profile.proofs.Below.{Below}
use Rattle.x12_profile.proofs.FieldLemmas as field
use Rattle.x12_numbers.proofs.Shelf.{none_in_nil, contains_cons}
use Rattle.x12_profile.proofs.NamedLemmas.{IsNamed, Telling, telling}
use Rattle.x12_profile.proofs.PlaceLemmas.{all_rejected}
use Rattle.x12_profile.proofs.ReplyLemmas.{plainly}
use Rattle.x12_profile.proofs.SubmissionLemmas as submission
use Rattle.x12_profile.proofs.TellsLemmas.{evidence_told, first_alone}
use Rattle.x12_profile.proofs.WrittenLemmas as back

small : (n : ℕ) → (n ≡ 9) ⊎ (n ≡ 25) → n ≤ 999
small n (inl e) = omega (arith, e)
small n (inr e) = omega (arith, e)

module _ (g : Below) (me : Party) (b r : Bytes) (w : IsTa1Refusal x12 me b r) where
  known : (h : Header) × (header_of b ≡ Ok h)
  known = field.header_known b w.header

  abbrev h : Header
  h = known.0

  abbrev refusal : WrittenInterchange
  refusal = refusal_of w.note h me w.at w.icn

  bytes_are : r ≡ written refusal
  bytes_are = w.bytes ∙ field.refusal_is b h known.1 w.note me w.at w.icn

  fitting : interchange_fits refusal ≡ true
  fitting = g.fits.refusal me w.note h b w.at w.icn known.1 (inr (plainly me w.plain)) w.within (small w.note w.known)

  pub from : x12.sender r ≡ me
  unfolding refusal_of reply_to
  from = back.sender_is g.read r refusal bytes_are fitting

  pub to : x12.receiver r ≡ x12.sender b
  unfolding refusal_of reply_to
  to = back.receiver_is g.read r refusal bytes_are fitting ∙ sym (field.sender_is b h known.1)

  pub number : x12.number r ≡ w.icn
  unfolding refusal_of reply_to
  number = back.number_is g.read r refusal bytes_are fitting

  pub no_groups : x12.groups r ≡ []
  unfolding refusal_of reply_to
  no_groups = back.groups_are g.read r refusal bytes_are fitting

  pub is_taken : (ed : Edition) → x12.refuses ed (x12.sender b) r ≡ false
  unfolding refusal_of
  is_taken ed = back.is_taken ed g.read b r h me w.at w.icn (ta1_segment h (codes "R") w.note ∷ []) [] known.1 bytes_are fitting

  -- What it tells.

  segments : written_answers refusal ≡ written_ta1 (ta1_segment h (codes "R") w.note) ∷ []
  unfolding written_answers refusal_of reply_to
  segments = refl

  answers_are : answers_in r ≡ written_ta1 (ta1_segment h (codes "R") w.note) ∷ []
  answers_are = back.answers_are g.read r refusal bytes_are fitting ∙ segments

  -- its answer names what has the refused number
  named_number : (hubs : List Party) (x : Bytes) (t : Telling hubs r x) → h.icn ≡ (submission_of t.header x t.outline).icn
  named_number hubs x t = elim (contains_cons t.answer (written_ta1 (ta1_segment h (codes "R") w.note)) [] (subst (λ as'. Contains as' t.answer) answers_are t.answers)) [
    | inl same ↦ sym (g.number b h known.1) ∙ sym (subst (λ z. IsNamed hubs (x12.sender r) (submission_of t.header x t.outline) z) (sym same) t.named).0
    | inr past ↦ none_in_nil t.answer past
  ]

  number_of : (x : Bytes) (hx : Header) (o : Interchange) → header_of x ≡ Ok hx → x12.number x ≡ (submission_of hx x o).icn
  unfolding submission_of
  number_of x hx o is = field.number_is x hx is

  pub about : (ed : Edition) (hubs : List Party) (x : Bytes) (e : PlacedEvidence) → Contains (x12.evidence ed hubs r x) e → x12.number b ≡ x12.number x
  about ed hubs x e told = let t = telling ed hubs r x e told in field.number_is b h known.1 ∙ named_number hubs x t ∙ sym (number_of x t.header t.outline t.is_header)

  -- the same header, read of b as of a submission
  tells_by : (s : submission.IsSubmitted b) (ed : Edition) (hubs : List Party) → Contains hubs me → x12.evidence ed hubs r b ≡ evidence_by ed (λ k. Rejected) (x12.sets b)
  tells_by s ed hubs hub =
      let e = submission_of s.header b s.outline in
      let bytes : r ≡ written (refusal_of w.note s.header me w.at w.icn) = w.bytes ∙ field.refusal_is b s.header s.is_header w.note me w.at w.icn in
      let rejects : Tells hubs (e ∷ []) r (tells_each rejected (keyed_sets e)) = subst (λ z. Tells hubs (e ∷ []) z (tells_each rejected (keyed_sets e))) (sym bytes) (g.tells.refusal hubs me (e ∷ []) w.note s.header b s.outline w.at w.icn s.is_header (first_alone e) (inr (hub, plainly me w.plain)) w.within (small w.note w.known)) in
      evidence_told ed hubs r b s.header s.outline (tells_each rejected (keyed_sets e)) s.is_header s.is_outline rejects
      ∙ all_rejected ed s.header b s.outline
      ∙ ap (evidence_by ed (λ k. Rejected)) (sym (field.sets_are b s.header s.is_header s.outline s.is_outline))

  -- by a hub on a submission it rejects each set once
  pub tells : IsTrue (x12.is_submission b) → (ed : Edition) (hubs : List Party) → Contains hubs me → x12.evidence ed hubs r b ≡ evidence_by ed (λ k. Rejected) (x12.sets b)
  tells orders ed hubs hub = tells_by (submission.submitted b orders) ed hubs hub
