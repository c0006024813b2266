-- The evidence of submissions, cut to one of them, is the evidence for it alone.
use Rattle.std.specs.Prelude.{◌≡◌, ℕ, ◌+◌, Bool, true, false, ◌&&◌, ◌||◌, ◌==◌, List, [], ◌∷◌, ◌++◌, map, flat_map, cond, find, filter, Option, Some, None, option_map, bytes_eq, Contains, refl}
use Rattle.std.specs.List.{enumerate_from, list_any, AllByRecursion}
use mathlib.Core.Path.{sym, ap, ap₂, subst, ◌∙◌}
use Rattle.std.proofs.lemmas.Bool.Decides.{Decides-eqb}
use Rattle.std.proofs.lemmas.List.Elements.{filter-append}
use Rattle.x12_envelopes.specs.declared.party.Party.{Party}
use Rattle.x12_envelopes.specs.declared.shape.AcknowledgmentCode.TheVariants as interchange
use Rattle.x12_acks.specs.declared.answer.AnswerCode.{AnswerCode}
use Rattle.x12_acks.specs.declared.answer.AnswerCode.TheVariants.{Accepted, ErrorsNoted, Rejected, MacFailed, AssuranceFailed, ContentUnreadable, PartiallyAccepted}
use Rattle.x12_judge.specs.Agreement.{is_same_party}
use Rattle.x12_acks.specs.Answer.{Acknowledgment, of_interchange, of_group, unclear, TransactionSetAnswer}
use Rattle.x12_acks.specs.Submission.{Submission, SubmittedGroup, SubmittedSet, KeyedGroup, KeyedSet, keyed_set, keyed_group, keyed_groups, keyed_sets}
use Rattle.x12_acks.specs.Evidence.{Evidence, tells, unmatched, FinalFate, rejected, accepted, tells_each, listed_evidence, group_evidence, or_unmatched, found_interchange, found_group, answer_evidence, evidence_of}
use Rattle.x12_acks.specs.Named.{names_submission, evidence_for_one, tells_of, SubmissionsRise, IsOwn, EvidenceOfEach}
use Rattle.x12_acks.proofs.FindLemmas.{clash, one_found}
use Rattle.x12_numbers.proofs.Shelf.{found_passes}
use Rattle.x12_acks.proofs.NamedLemmas.{group_alone, evidence_is_of_the_named}
use Rattle.x12_acks.proofs.CutLemmas.{one_number, one_answered}

-- What is told for one alone is of its keys.

abbrev IsOwnSet : Submission → KeyedSet → Type 0
IsOwnSet e s = (s.key.icn ≡ e.icn) × (s.key.sender ≡ e.sender)

abbrev AreOwn : Submission → List KeyedSet → Type 0
AreOwn e sets = AllByRecursion (IsOwnSet e) sets

module _ (e : Submission) where
  sets_own : (group n : ℕ) (ss : List SubmittedSet) → AreOwn e (map (λ s. keyed_set e group s.0 s.1) (enumerate_from n ss))
  sets_own group n [] = tt
  sets_own group n (s ∷ ss) = ((refl, refl), sets_own group (n + 1) ss)

  groups_own : (n : ℕ) (gs : List SubmittedGroup) → AllByRecursion (λ g. AreOwn e g.sets) (map (λ g. keyed_group e g.0 g.1) (enumerate_from n gs))
  groups_own n [] = tt
  groups_own n (g ∷ gs) = (sets_own n 1 g.sets, groups_own (n + 1) gs)

  all_append : {X : Type 0} (P : X → Type 0) (xs ys : List X) → AllByRecursion P xs → AllByRecursion P ys → AllByRecursion P (xs ++ ys)
  all_append P [] ys a b = b
  all_append P (x ∷ xs) ys a b = (a.0, all_append P xs ys a.1 b)

  all_sets : (gs : List KeyedGroup) → AllByRecursion (λ g. AreOwn e g.sets) gs → AreOwn e (flat_map (λ g. g.sets) gs)
  all_sets [] all = tt
  all_sets (g ∷ gs) all = all_append (IsOwnSet e) g.sets (flat_map (λ g. g.sets) gs) all.0 (all_sets gs all.1)

  each_own : (fate : FinalFate) (sets : List KeyedSet) → AreOwn e sets → AllByRecursion (IsOwn e) (tells_each fate sets)
  each_own fate [] all = tt
  each_own fate (s ∷ sets) all = (all.0, each_own fate sets all.1)

  found_own : {X : Type 0} (P : X → Type 0) (p : X → Bool) (xs : List X) (x : X) → AllByRecursion P xs → find p xs ≡ Some x → P x
  found_own P p [] x all is = absurd cc
  found_own P p (y ∷ xs) x all is = by (p y) is (found_own P p xs x all.1)
    where
      by : (b : Bool) → cond b (Some y) (find p xs) ≡ Some x → (find p xs ≡ Some x → P x) → P x
      by true is more = let same : y ≡ x = cc in subst P same all.0
      by false is more = more is

  kept_own : (p : KeyedSet → Bool) (sets : List KeyedSet) → AreOwn e sets → AreOwn e (filter p sets)
  kept_own p [] all = tt
  kept_own p (s ∷ sets) all = by (p s) (kept_own p sets all.1)
    where
      by : (b : Bool) → AreOwn e (filter p sets) → AreOwn e (cond b (s ∷ filter p sets) (filter p sets))
      by true more = (all.0, more)
      by false more = more

  listed_own : (sets : List KeyedSet) (listed : List TransactionSetAnswer) → AreOwn e sets → AllByRecursion (IsOwn e) (map (listed_evidence sets) listed)
  listed_own sets [] all = tt
  listed_own sets (a ∷ listed) all = (by (find (λ s. bytes_eq s.number a.number) sets) refl, listed_own sets listed all)
    where
      by : (o : Option KeyedSet) → find (λ s. bytes_eq s.number a.number) sets ≡ o → IsOwn e (listed_evidence sets a)
      by (Some s) is = rw is (found_own (IsOwnSet e) (λ s. bytes_eq s.number a.number) sets s all is)
      by None is = rw is tt

  group_own : (code : AnswerCode) (listed : List TransactionSetAnswer) (sets : List KeyedSet) → AreOwn e sets → AllByRecursion (IsOwn e) (group_evidence code listed sets)
  unfolding group_evidence
  group_own Accepted listed sets all = all_append (IsOwn e) _ _ (listed_own sets listed all) (each_own accepted _ (kept_own _ sets all))
  group_own ErrorsNoted listed sets all = all_append (IsOwn e) _ _ (listed_own sets listed all) (each_own accepted _ (kept_own _ sets all))
  group_own PartiallyAccepted listed sets all = listed_own sets listed all
  group_own Rejected listed sets all = each_own rejected sets all
  group_own MacFailed listed sets all = each_own rejected sets all
  group_own AssuranceFailed listed sets all = each_own rejected sets all
  group_own ContentUnreadable listed sets all = each_own rejected sets all

  keyed_own : AllByRecursion (λ g. AreOwn e g.sets) (keyed_groups e)
  unfolding keyed_groups
  keyed_own = groups_own 1 e.groups

  all_own : AreOwn e (keyed_sets e)
  unfolding keyed_sets
  all_own = all_sets (keyed_groups e) keyed_own

  interchange_own : (hubs : List Party) (from : Party) (icn : ℕ) → AllByRecursion (IsOwn e) (or_unmatched (option_map (λ e. tells_each rejected (keyed_sets e)) (found_interchange hubs (e ∷ []) from icn)))
  interchange_own hubs from icn = by (e.icn == icn && (is_same_party e.receiver from || list_any (is_same_party from) hubs))
    where
      by : (b : Bool) → AllByRecursion (IsOwn e) (or_unmatched (option_map (λ e. tells_each rejected (keyed_sets e)) (cond b (Some e) None)))
      by true = each_own rejected (keyed_sets e) all_own
      by false = (tt, tt)

  answer_own : (hubs : List Party) (from : Party) (a : Acknowledgment) → AllByRecursion (IsOwn e) (answer_evidence hubs (e ∷ []) from a)
  unfolding answer_evidence
  answer_own hubs from (of_interchange icn interchange.Rejected note) = interchange_own hubs from icn
  answer_own hubs from (of_interchange icn interchange.Accepted note) = tt
  answer_own hubs from (of_interchange icn interchange.ErrorsNoted note) = tt
  answer_own hubs from (of_group a) = by (is_same_party e.receiver from) refl
    where
      found : (o : Option KeyedGroup) → ((k : KeyedGroup) → o ≡ Some k → AreOwn e k.sets) → AllByRecursion (IsOwn e) (or_unmatched (option_map (λ g. group_evidence a.code a.sets g.sets) o))
      found (Some k) own = group_own a.code a.sets k.sets (own k refl)
      found None own = (tt, tt)

      by : (r : Bool) → is_same_party e.receiver from ≡ r → AllByRecursion (IsOwn e) (or_unmatched (option_map (λ g. group_evidence a.code a.sets g.sets) (found_group (e ∷ []) from a)))
      by true is = rw (group_alone from a e is) (found (find (λ g. bytes_eq g.functional a.functional && g.number == a.number) (keyed_groups e)) (λ k. found_own (λ g. AreOwn e g.sets) (λ g. bytes_eq g.functional a.functional && g.number == a.number) (keyed_groups e) k keyed_own))
      by false is = rw is (tt, tt)
  answer_own hubs from unclear = tt

  pub alone : (hubs : List Party) (from : Party) (answers : List Acknowledgment) → AllByRecursion (IsOwn e) (evidence_of hubs (e ∷ []) from answers)
  unfolding evidence_of
  alone hubs from [] = tt
  alone hubs from (a ∷ answers) = all_append (IsOwn e) (answer_evidence hubs (e ∷ []) from a) (evidence_of hubs (e ∷ []) from answers) (answer_own hubs from a) (alone hubs from answers)

-- What isn't of a number.

none_about : (n : ℕ) (e : Submission) (es : List Evidence) → (e.icn == n) ≡ false → AllByRecursion (IsOwn e) es → filter (tells_of n) es ≡ []
none_about n e [] other all = refl
none_about n e (tells key fate ∷ es) other all = rw (all.0.0, other) (none_about n e es other all.1)
none_about n e (unmatched ∷ es) other all = none_about n e es other all.1

nothing_for_none : (n : ℕ) (hubs : List Party) (from : Party) (a : Acknowledgment) → filter (tells_of n) (answer_evidence hubs [] from a) ≡ []
unfolding answer_evidence
nothing_for_none n hubs from (of_interchange icn interchange.Rejected note) = refl
nothing_for_none n hubs from (of_interchange icn interchange.Accepted note) = refl
nothing_for_none n hubs from (of_interchange icn interchange.ErrorsNoted note) = refl
nothing_for_none n hubs from (of_group a) = refl
nothing_for_none n hubs from unclear = refl

module _ (hubs : List Party) (from : Party) (all : List Submission) (x : Submission) (rise : SubmissionsRise all) (at : Contains all x) where
  about : List Evidence → List Evidence
  about es = filter (tells_of x.icn) es

  itself : (x.icn == x.icn) ≡ true
  itself = (Decides-eqb x.icn x.icn).1 refl

  one_cut : (a : Acknowledgment) → filter (tells_of x.icn) (answer_evidence hubs all from a) ≡ filter (tells_of x.icn) (answer_evidence hubs (x ∷ []) from a)
  one_cut a = ap (filter (tells_of x.icn)) (evidence_is_of_the_named hubs from all a) ∙ by (names_submission hubs from a x) refl (find (names_submission hubs from a) all) refl
    where
      for_none : names_submission hubs from a x ≡ false → evidence_for_one hubs from a (find (names_submission hubs from a) (x ∷ [])) ≡ answer_evidence hubs [] from a
      for_none is = rw is refl

      unnamed : names_submission hubs from a x ≡ false → filter (tells_of x.icn) (answer_evidence hubs (x ∷ []) from a) ≡ []
      unnamed is = ap (filter (tells_of x.icn)) (evidence_is_of_the_named hubs from (x ∷ []) a ∙ for_none is) ∙ nothing_for_none x.icn hubs from a

      other : (e : Submission) (b : Bool) → (e.icn == x.icn) ≡ b → names_submission hubs from a x ≡ false → find (names_submission hubs from a) all ≡ Some e → filter (tells_of x.icn) (answer_evidence hubs (e ∷ []) from a) ≡ []
      other e true same is found =
          let c = found_passes (names_submission hubs from a) all e found in
          let one : e ≡ x = one_number all rise x.icn e x c.0 at same itself in
          clash (names_submission hubs from a x) (subst (λ z. names_submission hubs from a z ≡ true) one c.1) is
      other e false apart is found = none_about x.icn e (answer_evidence hubs (e ∷ []) from a) apart (answer_own e hubs from a)

      by : (b : Bool) → names_submission hubs from a x ≡ b → (o : Option Submission) → find (names_submission hubs from a) all ≡ o → filter (tells_of x.icn) (evidence_for_one hubs from a (find (names_submission hubs from a) all)) ≡ filter (tells_of x.icn) (answer_evidence hubs (x ∷ []) from a)
      by true is o found = rw (one_found (names_submission hubs from a) all x (one_answered all rise hubs from a) at is) refl
      by false is (Some e) found = rw found (other e (e.icn == x.icn) refl is found) ∙ sym (unnamed is)
      by false is None found = rw found (nothing_for_none x.icn hubs from a) ∙ sym (unnamed is)

  pub cut : (answers : List Acknowledgment) → filter (tells_of x.icn) (evidence_of hubs all from answers) ≡ filter (tells_of x.icn) (evidence_of hubs (x ∷ []) from answers)
  unfolding evidence_of
  cut [] = refl
  cut (a ∷ answers) =
      filter-append (tells_of x.icn) (answer_evidence hubs all from a) (evidence_of hubs all from answers)
      ∙ ap₂ (λ u v. u ++ v) (one_cut a) (cut answers)
      ∙ sym (filter-append (tells_of x.icn) (answer_evidence hubs (x ∷ []) from a) (evidence_of hubs (x ∷ []) from answers))

pub evidence_of_each : EvidenceOfEach
evidence_of_each = record {
  cut = λ hubs from all x answers rise at. cut hubs from all x rise at answers;
  alone = λ hubs from x answers. alone x hubs from answers;
}
