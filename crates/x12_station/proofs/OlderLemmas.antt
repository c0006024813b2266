-- What answers tell as an edition reads them is their evidence as that edition reads it.
use Rattle.std.specs.Prelude.{◌≡◌, ℕ, ◌+◌, not, List, [], ◌∷◌, ◌++◌, Bool, map, find, flat_map, count_by, cond, Option, Some, None, option_map, unwrap_or, bytes_eq, if◌then◌else◌, refl}
use mathlib.Core.Path.{sym, ap, ap₂, ◌∙◌}
use Rattle.std.proofs.lemmas.List.{map-append}
use Rattle.std.proofs.lemmas.List.Sums.{sum_by-cons}
use Rattle.x12_envelopes.specs.declared.party.Party.{Party}
use Rattle.x12_envelopes.specs.declared.shape.AcknowledgmentCode.TheVariants as interchange
use Rattle.x12_acks.specs.Answer.{Acknowledgment, of_interchange, of_group, unclear, TransactionSetAnswer}
use Rattle.x12_acks.specs.declared.answer.AnswerCode.{AnswerCode}
use Rattle.x12_acks.specs.declared.answer.AnswerCode.TheVariants.{Accepted, ErrorsNoted, Rejected, MacFailed, AssuranceFailed, ContentUnreadable, PartiallyAccepted}
use Rattle.x12_acks.specs.Evidence.{Evidence, tells, unmatched, FinalFate, accepted, rejected, fate_of_code, tells_each, listed_evidence, unlisted, group_evidence, found_interchange, found_group, or_unmatched, answer_evidence, evidence_of}
use Rattle.x12_acks.specs.Submission.{Submission, KeyedSet, KeyedGroup, keyed_sets}
use Rattle.x12_outbound.specs.Plan.{answer_is_unclear, unclear_answers}
use Rattle.x12_profile.specs.declared.edition.Edition.{Edition}
use Rattle.x12_profile.specs.declared.edition.Edition.TheVariants.{First, Second, Third}
use Rattle.x12_profile.specs.Edition.{fate_read}
use Rattle.x12_profile.specs.X12.{piece_before, pieces_read}
use Rattle.x12_station.specs.Older.{code_before, set_answer_before, answer_before, answers_as_read}
use Rattle.x12_numbers.proofs.Shelf.{list_any-map}

-- A group's answer.

module _ (sets : List KeyedSet) where
  listed_before : (a : TransactionSetAnswer) → listed_evidence sets (set_answer_before a) ≡ piece_before (listed_evidence sets a)
  listed_before a = by (find (λ (s : KeyedSet). bytes_eq s.number a.number) sets) a.code
    where
      by : (o : Option KeyedSet) (c : AnswerCode) → unwrap_or (option_map (λ (s : KeyedSet). tells s.key (fate_of_code (code_before c))) o) unmatched
          ≡ piece_before (unwrap_or (option_map (λ (s : KeyedSet). tells s.key (fate_of_code c)) o) unmatched)
      by None c = refl
      by (Some s) Accepted = refl
      by (Some s) ErrorsNoted = refl
      by (Some s) Rejected = refl
      by (Some s) MacFailed = refl
      by (Some s) AssuranceFailed = refl
      by (Some s) ContentUnreadable = refl
      by (Some s) PartiallyAccepted = refl

  each_listed : (listed : List TransactionSetAnswer) → map (listed_evidence sets) (map set_answer_before listed) ≡ map piece_before (map (listed_evidence sets) listed)
  each_listed [] = refl
  each_listed (a ∷ listed) = ap₂ (λ (e : Evidence) (rest : List Evidence). e ∷ rest) (listed_before a) (each_listed listed)

others : (listed : List TransactionSetAnswer) (sets : List KeyedSet) → unlisted (map set_answer_before listed) sets ≡ unlisted listed sets
others listed [] = refl
others listed (s ∷ ss) =
    ap₂ (λ (b : Bool) (rest : List KeyedSet). if not b then s ∷ rest else rest) (list_any-map (λ (a : TransactionSetAnswer). bytes_eq a.number s.number) set_answer_before listed) (others listed ss)

each_told : (fate : FinalFate) → fate_read First fate ≡ fate → (sets : List KeyedSet) → tells_each fate sets ≡ map piece_before (tells_each fate sets)
each_told fate same [] = refl
each_told fate same (s ∷ ss) = ap₂ (λ (f : FinalFate) (rest : List Evidence). tells s.key f ∷ rest) (sym same) (each_told fate same ss)

group_before : (code : AnswerCode) (listed : List TransactionSetAnswer) (sets : List KeyedSet) → group_evidence code (map set_answer_before listed) sets ≡ map piece_before (group_evidence code listed sets)
unfolding group_evidence
group_before Accepted listed sets =
    ap₂ (λ (a b : List Evidence). a ++ b) (each_listed sets listed) (ap (tells_each accepted) (others listed sets) ∙ each_told accepted refl (unlisted listed sets))
    ∙ sym (map-append piece_before (map (listed_evidence sets) listed) (tells_each accepted (unlisted listed sets)))
group_before ErrorsNoted listed sets =
    ap₂ (λ (a b : List Evidence). a ++ b) (each_listed sets listed) (ap (tells_each accepted) (others listed sets) ∙ each_told accepted refl (unlisted listed sets))
    ∙ sym (map-append piece_before (map (listed_evidence sets) listed) (tells_each accepted (unlisted listed sets)))
group_before PartiallyAccepted listed sets = each_listed sets listed
group_before Rejected listed sets = each_told rejected refl sets
group_before MacFailed listed sets = each_told rejected refl sets
group_before AssuranceFailed listed sets = each_told rejected refl sets
group_before ContentUnreadable listed sets = each_told rejected refl sets

-- All answers.

module _ (hubs : List Party) (submissions : List Submission) (from : Party) where
  told_before : (a : Acknowledgment) → answer_evidence hubs submissions from (answer_before a) ≡ map piece_before (answer_evidence hubs submissions from a)
  unfolding answer_evidence
  told_before (of_interchange icn interchange.Rejected note) = by (found_interchange hubs submissions from icn)
    where
      by : (o : Option Submission) → or_unmatched (option_map (λ (e : Submission). tells_each rejected (keyed_sets e)) o) ≡ map piece_before (or_unmatched (option_map (λ (e : Submission). tells_each rejected (keyed_sets e)) o))
      by None = refl
      by (Some e) = each_told rejected refl (keyed_sets e)
  told_before (of_interchange icn interchange.Accepted note) = refl
  told_before (of_interchange icn interchange.ErrorsNoted note) = refl
  told_before (of_group a) = by (found_group submissions from a)
    where
      by : (o : Option KeyedGroup) → or_unmatched (option_map (λ (g : KeyedGroup). group_evidence a.code (map set_answer_before a.sets) g.sets) o)
          ≡ map piece_before (or_unmatched (option_map (λ (g : KeyedGroup). group_evidence a.code a.sets g.sets) o))
      by None = refl
      by (Some g) = group_before a.code a.sets g.sets
  told_before unclear = refl

  all_before : (answers : List Acknowledgment) → evidence_of hubs submissions from (map answer_before answers) ≡ map piece_before (evidence_of hubs submissions from answers)
  unfolding evidence_of
  all_before [] = refl
  all_before (a ∷ answers) =
      ap₂ (λ (x y : List Evidence). x ++ y) (told_before a) (all_before answers)
      ∙ sym (map-append piece_before (answer_evidence hubs submissions from a) (flat_map (answer_evidence hubs submissions from) answers))

  pub evidence_as_read : (ed : Edition) (answers : List Acknowledgment) → pieces_read ed (evidence_of hubs submissions from answers) ≡ evidence_of hubs submissions from (answers_as_read ed answers)
  evidence_as_read First answers = sym (all_before answers)
  evidence_as_read Second answers = refl
  evidence_as_read Third answers = refl

-- What is unclear stays so.
pub unclear_as_read : (ed : Edition) (answers : List Acknowledgment) → unclear_answers (answers_as_read ed answers) ≡ unclear_answers answers
unfolding unclear_answers
unclear_as_read Second answers = refl
unclear_as_read Third answers = refl
unclear_as_read First answers = each answers
  where
    one : (a : Acknowledgment) → answer_is_unclear (answer_before a) ≡ answer_is_unclear a
    one (of_interchange icn code note) = refl
    one (of_group a) = refl
    one unclear = refl

    each : (answers : List Acknowledgment) → count_by answer_is_unclear (map answer_before answers) ≡ count_by answer_is_unclear answers
    each [] = refl
    each (a ∷ answers) =
        sum_by-cons (λ (x : Acknowledgment). cond (answer_is_unclear x) 1 0) (answer_before a) (map answer_before answers)
        ∙ ap₂ (λ (t : Bool) (n : ℕ). cond t 1 0 + n) (one a) (each answers)
        ∙ sym (sum_by-cons (λ (x : Acknowledgment). cond (answer_is_unclear x) 1 0) a answers)
