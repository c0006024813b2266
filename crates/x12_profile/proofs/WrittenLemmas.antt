-- What the profile reads of an interchange that was written and fits.
use Rattle.std.specs.Prelude.{◌≡◌, ℕ, List, Bool, true, false, ◌&&◌, Option, None, Ok, if◌then◌else◌, refl, length, drop, codes, ◌∷◌, [], ◌≤◌, nat_le}
use Rattle.std.specs.Char.{is_ascii_digit}
use native.Mathlib.Omega.{arith}
use mathlib.Core.Path.{ap, ◌∙◌}
use Rattle.std.proofs.lemmas.Bool.{and_parts}
use Rattle.std.proofs.lemmas.Bool.Decides.{Decides-eqb, nat_tests}
use Rattle.std.proofs.lemmas.List.{length-map}
use Rattle.x12_envelopes.specs.declared.header.Header.{Header}
use Rattle.x12_envelopes.specs.declared.moment.Moment.{Moment}
use Rattle.x12_envelopes.specs.declared.party.Party.{Party}
use Rattle.x12_envelopes.specs.Byte.{bytes_are_digits, value_of_digits, number_of_digits}
use Rattle.x12_envelopes.specs.Header.{header_of}
use Rattle.x12_envelopes.specs.Envelope.{WrittenInterchange, WrittenGroup, written, written_header}
use Rattle.x12_envelopes.specs.Fitting.{interchange_fits}
use Rattle.x12_envelopes.specs.Moment.{text_is_date, text_is_month_and_day}
use Rattle.x12_envelopes.specs.Outline.{outline_of}
use Rattle.x12_envelopes.specs.RoundTrip.{written_outline, written_group_outline}
use Rattle.x12_envelopes.specs.Segment.{Segment}
use Rattle.x12_judge.specs.declared.controls.Controls.{Controls}
use Rattle.x12_judge.specs.declared.controls.Controls.TheVariants.{Until401, Until501}
use Rattle.x12_judge.specs.Controls.{standard_is_unsupported, version_is_supported}
use Rattle.x12_judge.specs.Interchange.{note_of_interchange}
use Rattle.x12_judge.specs.Verdict.{judgement_of, verdict_by, verdicts_of_groups}
use Rattle.x12_judge.specs.Group.{FunctionalGroupVerdict}
use Rattle.x12_acks.specs.Laws.{written_answers}
use Rattle.x12_envelopes.specs.Letter.{letter, is_one_of}
use Rattle.x12_acks.specs.Reply.{reply_to, reply_usage}
use Rattle.x12_profile.specs.declared.edition.Edition.{Edition}
use Rattle.x12_profile.specs.Edition.{controls_of, terms_by}
use Rattle.x12_profile.specs.Interchange.{Bytes}
use Rattle.x12_profile.specs.Reading.{answers_in}
use Rattle.x12_profile.specs.X12.{x12, group_numbers, is_refused}
use Rattle.x12_profile.proofs.Below.{ReadBack}
use Rattle.x12_profile.proofs.FieldLemmas as field
use Rattle.x12_acks.proofs.ReplyGroupLemmas.{same_party_itself}

-- control numbers of at most nine digits
pub within : (i j : ℕ) → (nat_le i 999999999 && nat_le j 999999999) ≡ true → (i ≤ 999999999) × (j ≤ 999999999)
within i j e = grind (arith, nat_tests)

-- Bytes that are a written interchange.

module _ (g : ReadBack) (b : Bytes) (w : WrittenInterchange) (is : b ≡ written w) (fit : interchange_fits w ≡ true) where
  pub header_is : header_of b ≡ Ok (written_header w)
  header_is = ap header_of is ∙ g.header w fit

  pub outline_is : outline_of w.delims b ≡ Ok (written_outline w)
  outline_is = ap (outline_of w.delims) is ∙ g.outline w fit

  pub sender_is : x12.sender b ≡ w.sender
  sender_is = field.sender_is b (written_header w) header_is

  pub receiver_is : x12.receiver b ≡ w.receiver
  receiver_is = field.receiver_is b (written_header w) header_is

  pub number_is : x12.number b ≡ w.icn
  number_is = field.number_is b (written_header w) header_is

  pub groups_are : x12.groups b ≡ group_numbers (written_outline w)
  groups_are = field.groups_are b (written_header w) header_is (written_outline w) outline_is

  pub answers_are : answers_in b ≡ written_answers w
  answers_are = field.answers_are b (written_header w) header_is (written_outline w) outline_is ∙ g.answers w fit

-- The receiver of a reply doesn't refuse it.

later : (a b : ℕ) (text : List ℕ) → bytes_are_digits (a ∷ b ∷ text) ≡ true → bytes_are_digits text ≡ true
later a b text e = (and_parts (is_ascii_digit b) (bytes_are_digits text) (and_parts (is_ascii_digit a) (is_ascii_digit b && bytes_are_digits text) e).1).1

both_ends : (x z : Bool) → (x && true && z) ≡ true → (x ≡ true) × (z ≡ true)
both_ends true z e = (refl, e)
both_ends false z e = absurd cc

-- a date of eight digits without its century is a date
short_date : (text : List ℕ) → length text ≡ 8 → text_is_date text ≡ true → text_is_date (drop 2 text) ≡ true
unfolding text_is_date
short_date (a ∷ b ∷ c ∷ d ∷ e ∷ f ∷ g ∷ h ∷ []) eight is =
    let parts = both_ends (bytes_are_digits (a ∷ b ∷ c ∷ d ∷ e ∷ f ∷ g ∷ h ∷ [])) (text_is_month_and_day (e ∷ f ∷ g ∷ h ∷ [])) is in
    rw (later a b (c ∷ d ∷ e ∷ f ∷ g ∷ h ∷ []) parts.0, parts.1) refl
short_date text eight is = absurd cc

usage_known : (u : ℕ) → is_one_of (codes "PTI") (reply_usage u) ≡ true
usage_known u = by (is_one_of (codes "PTI") u) refl
  where
    by : (b : Bool) → is_one_of (codes "PTI") u ≡ b → is_one_of (codes "PTI") (if b then u else letter (codes "P")) ≡ true
    by true is = is
    by false is = refl

-- what a reply has in ISA11 and ISA12 is taken by older and by newer controls
version_known : (c : Controls) → version_is_supported c (codes "00401") ≡ true
unfolding number_of_digits value_of_digits
version_known Until401 = refl
version_known Until501 = refl

standard_known : (c : Controls) (h : Header) → h.standard ≡ letter (codes "U") → standard_is_unsupported c h ≡ false
standard_known Until401 h is = rw is refl
standard_known Until501 h is = rw is refl

no_note : (c : Controls) (h : Header) (me : Party) (at : Moment) (icn : ℕ) (tas : List Segment) (groups : List WrittenGroup)
    → note_of_interchange c h.sender (written_header (reply_to h me at icn tas groups)) (Ok (written_outline (reply_to h me at icn tas groups))) ≡ None
unfolding note_of_interchange reply_to
no_note c h me at icn tas groups =
    rw (same_party_itself h.sender, standard_known c (written_header (reply_to h me at icn tas groups)) refl, version_known c, short_date at.date at.with_century at.on_a_day, at.in_a_day, usage_known h.usage, (Decides-eqb icn icn).1 refl, length-map groups (written_group_outline h.delims), (Decides-eqb (length groups) (length groups)).1 refl) refl

none_refused : (n : Option ℕ) (vs : List FunctionalGroupVerdict) → n ≡ None → is_refused (verdict_by n vs) ≡ false
none_refused n vs is = rw is refl

module _ (ed : Edition) (g : ReadBack) (b r : Bytes) (h : Header) (me : Party) (at : Moment) (icn : ℕ) (tas : List Segment) (groups : List WrittenGroup) (known : header_of b ≡ Ok h) where
  abbrev w : WrittenInterchange
  w = reply_to h me at icn tas groups

  judged : r ≡ written w → interchange_fits w ≡ true → is_refused (judgement_of h.sender (terms_by ed []) (written_header w) r).verdict ≡ is_refused (verdict_by (note_of_interchange (controls_of ed) h.sender (written_header w) (Ok (written_outline w))) (verdicts_of_groups [] (written_header w) (Ok (written_outline w))))
  unfolding judgement_of
  judged is fit = rw (outline_is g r w is fit) refl

  pub is_taken : r ≡ written w → interchange_fits w ≡ true → x12.refuses ed (x12.sender b) r ≡ false
  is_taken is fit =
      ap (λ who. x12.refuses ed who r) (field.sender_is b h known)
      ∙ field.refuses_is r (written_header w) (header_is g r w is fit) ed h.sender
      ∙ ap (λ j. is_refused j.verdict) (field.is_first ed h.sender [] (written_header w) r)
      ∙ judged is fit
      ∙ none_refused (note_of_interchange (controls_of ed) h.sender (written_header w) (Ok (written_outline w))) (verdicts_of_groups [] (written_header w) (Ok (written_outline w))) (no_note (controls_of ed) h me at icn tas groups)
