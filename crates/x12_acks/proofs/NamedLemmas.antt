-- The evidence of an answer is that of the first submission that it names.
use Rattle.std.specs.Prelude.{◌≡◌, ℕ, ◌+◌, Bool, true, false, ◌&&◌, ◌||◌, ◌==◌, List, [], ◌∷◌, map, find, Option, Some, None, option_map, option_and_then, bytes_eq, refl}
use Rattle.std.specs.List.{list_any, enumerate_from}
use mathlib.Core.Path.{sym, ap, ◌∙◌}
use mathlib.Core.List.{append-nil}
use Rattle.std.proofs.lemmas.List.Folds.{find-append}
use Rattle.x12_envelopes.specs.declared.party.Party.{Party}
use Rattle.x12_envelopes.specs.declared.shape.AcknowledgmentCode.TheVariants as interchange
use Rattle.x12_judge.specs.Agreement.{is_same_party}
use Rattle.x12_acks.specs.Answer.{of_interchange, of_group, unclear, FunctionalGroupAnswer}
use Rattle.x12_acks.specs.Submission.{Submission, SubmittedGroup, KeyedGroup, keyed_group, keyed_groups, keyed_sets}
use Rattle.x12_acks.specs.Evidence.{rejected, tells_each, is_acknowledged_by, found_interchange, found_group, groups_to, or_unmatched, group_evidence, answer_evidence}
use Rattle.x12_acks.specs.Named.{names_group, names_submission, evidence_for_one, EvidenceIsOfTheNamed}
use Rattle.x12_acks.proofs.FindLemmas.{any_found}
use Rattle.x12_numbers.proofs.Shelf.{found_passes}

abbrev pub names_keyed : FunctionalGroupAnswer → KeyedGroup → Bool
names_keyed a g = bytes_eq g.functional a.functional && g.number == a.number

any_from : (a : FunctionalGroupAnswer) (e : Submission) (n : ℕ) (gs : List SubmittedGroup) → list_any (names_keyed a) (map (λ g. keyed_group e g.0 g.1) (enumerate_from n gs)) ≡ list_any (names_group a) gs
any_from a e n [] = refl
any_from a e n (g ∷ gs) = ap (λ b. names_group a g || b) (any_from a e (n + 1) gs)

pub any_keyed : (a : FunctionalGroupAnswer) (e : Submission) → list_any (names_keyed a) (keyed_groups e) ≡ list_any (names_group a) e.groups
unfolding keyed_groups
any_keyed a e = any_from a e 1 e.groups

pub group_alone : (from : Party) (a : FunctionalGroupAnswer) (e : Submission) → is_same_party e.receiver from ≡ true → found_group (e ∷ []) from a ≡ find (names_keyed a) (keyed_groups e)
group_alone from a e is = rw is (ap (find (names_keyed a)) (append-nil (keyed_groups e)))

-- the group that a 997 names is one of the first submission that it names
pub group_named : (from : Party) (a : FunctionalGroupAnswer) (es : List Submission) → found_group es from a ≡ option_and_then (λ e. found_group (e ∷ []) from a) (find (λ e. is_same_party e.receiver from && list_any (names_group a) e.groups) es)
group_named from a [] = refl
group_named from a (e ∷ es) = by (is_same_party e.receiver from) refl (find (names_keyed a) (keyed_groups e)) refl (group_named from a es)
  where
    by : (r : Bool) → is_same_party e.receiver from ≡ r → (o : Option KeyedGroup) → find (names_keyed a) (keyed_groups e) ≡ o → (found_group es from a ≡ option_and_then (λ e. found_group (e ∷ []) from a) (find (λ e. is_same_party e.receiver from && list_any (names_group a) e.groups) es)) → found_group (e ∷ es) from a ≡ option_and_then (λ e. found_group (e ∷ []) from a) (find (λ e. is_same_party e.receiver from && list_any (names_group a) e.groups) (e ∷ es))
    by false is o found more = rw is more
    by true is (Some k) found more =
        rw (is, sym (any_keyed a e), any_found (names_keyed a) (keyed_groups e), found, find-append (names_keyed a) (keyed_groups e) (groups_to es from), found) (sym (group_alone from a e is ∙ found))
    by true is None found more =
        rw (is, sym (any_keyed a e), any_found (names_keyed a) (keyed_groups e), found, find-append (names_keyed a) (keyed_groups e) (groups_to es from), found) more

interchange_named : (hubs : List Party) (from : Party) (icn note : ℕ) (es : List Submission) → or_unmatched (option_map (λ e. tells_each rejected (keyed_sets e)) (found_interchange hubs es from icn)) ≡ evidence_for_one hubs from (of_interchange icn interchange.Rejected note) (find (is_acknowledged_by hubs from icn) es)
unfolding answer_evidence
interchange_named hubs from icn note es = by (find (is_acknowledged_by hubs from icn) es) refl
  where
    by : (o : Option Submission) → find (is_acknowledged_by hubs from icn) es ≡ o → or_unmatched (option_map (λ e. tells_each rejected (keyed_sets e)) (find (is_acknowledged_by hubs from icn) es)) ≡ evidence_for_one hubs from (of_interchange icn interchange.Rejected note) (find (is_acknowledged_by hubs from icn) es)
    by (Some e) is = let passes = found_passes (is_acknowledged_by hubs from icn) es e is in rw (is, passes.1) refl
    by None is = rw is refl

pub evidence_is_of_the_named : EvidenceIsOfTheNamed
unfolding answer_evidence
evidence_is_of_the_named hubs from es (of_interchange icn interchange.Rejected note) = interchange_named hubs from icn note es
evidence_is_of_the_named hubs from es (of_interchange icn interchange.Accepted note) = nothing (find (is_acknowledged_by hubs from icn) es)
  where
    nothing : (o : Option Submission) → [] ≡ evidence_for_one hubs from (of_interchange icn interchange.Accepted note) o
    nothing (Some e) = refl
    nothing None = refl
evidence_is_of_the_named hubs from es (of_interchange icn interchange.ErrorsNoted note) = nothing (find (is_acknowledged_by hubs from icn) es)
  where
    nothing : (o : Option Submission) → [] ≡ evidence_for_one hubs from (of_interchange icn interchange.ErrorsNoted note) o
    nothing (Some e) = refl
    nothing None = refl
evidence_is_of_the_named hubs from es (of_group a) =
    ap (λ o. or_unmatched (option_map (λ g. group_evidence a.code a.sets g.sets) o)) (group_named from a es)
    ∙ by (find (names_submission hubs from (of_group a)) es)
  where
    by : (o : Option Submission) → or_unmatched (option_map (λ g. group_evidence a.code a.sets g.sets) (option_and_then (λ e. found_group (e ∷ []) from a) o)) ≡ evidence_for_one hubs from (of_group a) o
    by (Some e) = refl
    by None = refl
evidence_is_of_the_named hubs from es unclear = by (find (names_submission hubs from unclear) es)
  where
    by : (o : Option Submission) → [] ≡ evidence_for_one hubs from unclear o
    by (Some e) = refl
    by None = refl
