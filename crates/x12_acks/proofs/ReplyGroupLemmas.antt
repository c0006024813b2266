-- The evidence of a reply's answers finds each submitted group.
use Rattle.std.proofs.Common.{◌≡◌, ◌++◌, ◌∷◌, [], List, ℕ, Bool, true, false, map, flat_map, ◌&&◌, ◌==◌, ◌+◌, refl, cond, ap, ◌∙◌}
use Rattle.std.proofs.lemmas.Slice.Eq.{bytes_eq-Decides}
use Rattle.std.proofs.lemmas.Bool.Decides.{Decides-eqb}
use Rattle.std.proofs.lemmas.Grind.{flat_map-append}
use Rattle.std.proofs.lemmas.List.Elements.{filter-append}
use Rattle.std.specs.Prelude.{Some, find, filter, bytes_eq, zip}
use Rattle.std.specs.List.{AllByRecursion, IsDistinct, list_any, enumerate_from}
use Rattle.x12_envelopes.specs.declared.party.Party.{Party}
use Rattle.x12_judge.specs.Agreement.{is_same_party}
use Rattle.x12_judge.specs.Group.{FunctionalGroupVerdict}
use Rattle.x12_acks.specs.Answer.{Acknowledgment, of_group}
use Rattle.x12_acks.specs.Submission.{Submission, SubmittedGroup, KeyedGroup, keyed_group, keyed_groups}
use Rattle.x12_acks.specs.Evidence.{groups_to, answer_evidence, evidence_of}
use Rattle.x12_acks.specs.Told.{group_told}
use Rattle.x12_acks.specs.Laws.{has_group, IsSubmittedAmong}
use Rattle.x12_acks.proofs.FindingLemmas.{each_found, find_past, find_in_front, all_map, all_true}
use Rattle.x12_acks.proofs.ReplyStatementLemmas.{told_group}
use Rattle.x12_acks.proofs.ReplyEvidenceLemmas.{IsVerdictOf, told_by_group}
use Rattle.x12_numbers.proofs.Shelf.{all_append, all_of_both, none_passes}
use Rattle.std.proofs.lemmas.Bool.{and_right, or_parts}

-- the same code and the same number
abbrev pub same_group : KeyedGroup → KeyedGroup → Bool
same_group j k = bytes_eq j.functional k.functional && j.number == k.number

same_itself : (k : KeyedGroup) → same_group k k ≡ true
same_itself k = rw ((bytes_eq-Decides k.functional k.functional).1 refl, (Decides-eqb k.number k.number).1 refl) refl

-- the keyed groups have the submitted numbers
pub keyed_all : (P : ℕ → Type 0) (e : Submission) (n : ℕ) (gs : List SubmittedGroup) → AllByRecursion (λ g. P g.number) gs → AllByRecursion (λ k. P k.number) (map (λ g. keyed_group e g.0 g.1) (enumerate_from n gs))
keyed_all P e n [] all = tt
keyed_all P e n (g ∷ gs) all = (all.0, keyed_all P e (n + 1) gs all.1)

pub keyed_differ : (e : Submission) (n : ℕ) (gs : List SubmittedGroup) → IsDistinct (λ g h. g.number == h.number) gs → IsDistinct same_group (map (λ g. keyed_group e g.0 g.1) (enumerate_from n gs))
unfolding IsDistinct
keyed_differ e n [] distinct = tt
keyed_differ e n (g ∷ gs) distinct =
    (all_map (λ k other. and_right _ _ other) _ (keyed_all (λ m. (g.number == m) ≡ false) e (n + 1) gs distinct.0), keyed_differ e (n + 1) gs distinct.1)

-- no interchange before has a group of the number
kept_by : (b : Bool) (n : ℕ) (o : Submission) (more : List Submission) → AllByRecursion (λ k. (k.number == n) ≡ false) (keyed_groups o) → AllByRecursion (λ k. (k.number == n) ≡ false) (flat_map keyed_groups more) → AllByRecursion (λ k. (k.number == n) ≡ false) (flat_map keyed_groups (cond b (o ∷ more) more))
kept_by true n o more a b = all_append _ (keyed_groups o) (flat_map keyed_groups more) a b
kept_by false n o more a b = b

none_before : (r : Submission → Bool) (n : ℕ) (before : List Submission) → list_any (has_group n) before ≡ false → AllByRecursion (λ k. (k.number == n) ≡ false) (flat_map keyed_groups (filter r before))
unfolding keyed_groups
none_before r n [] none = tt
none_before r n (o ∷ before) none =
    let split = or_parts (has_group n o) (list_any (has_group n) before) none in
    kept_by (r o) n o (filter r before) (keyed_all (λ m. (m == n) ≡ false) o 1 o.groups (none_passes (λ g. g.number == n) o.groups split.0)) (none_before r n before split.1)

pub same_party_itself : (p : Party) → is_same_party p p ≡ true
same_party_itself p = rw ((bytes_eq-Decides p.qualifier p.qualifier).1 refl, (bytes_eq-Decides p.id p.id).1 refl) refl

passes_filter : (r : Submission → Bool) (e : Submission) (behind : List Submission) → r e ≡ true → filter r (e ∷ behind) ≡ e ∷ filter r behind
passes_filter r e behind is = rw is refl

groups_among : (submissions : List Submission) (e : Submission) (from : Party) (is : IsSubmittedAmong submissions e) → is_same_party e.receiver from ≡ true → groups_to submissions from ≡ flat_map keyed_groups (filter (λ o. is_same_party o.receiver from) is.first.before) ++ (keyed_groups e ++ flat_map keyed_groups (filter (λ o. is_same_party o.receiver from) is.first.behind))
groups_among submissions e from is same =
    rw (is.first.is, filter-append (λ o. is_same_party o.receiver from) is.first.before (e ∷ is.first.behind), passes_filter (λ o. is_same_party o.receiver from) e is.first.behind same)
    (flat_map-append keyed_groups (filter (λ o. is_same_party o.receiver from) is.first.before) (e ∷ filter (λ o. is_same_party o.receiver from) is.first.behind))

-- each of its groups is found
pub groups_found : (submissions : List Submission) (e : Submission) (from : Party) → IsSubmittedAmong submissions e → is_same_party e.receiver from ≡ true → IsDistinct (λ g h. g.number == h.number) e.groups → AllByRecursion (λ k. find (λ j. same_group j k) (groups_to submissions from) ≡ Some k) (keyed_groups e)
unfolding keyed_groups
groups_found submissions e from is same distinct =
    let ks : List KeyedGroup = keyed_groups e in
    let among = groups_among submissions e from is same in
    let own : AllByRecursion (λ k. find (λ j. same_group j k) ks ≡ Some k) ks = each_found same_group ks (keyed_differ e 1 e.groups distinct) (all_true (λ k. same_group k k ≡ true) same_itself ks) in
    let alone : AllByRecursion (λ k. list_any (has_group k.number) is.first.before ≡ false) ks = keyed_all (λ n. list_any (has_group n) is.first.before ≡ false) e 1 e.groups is.groups in
    all_map (λ k both. ap (find (λ j. same_group j k)) among
    ∙ (find_past (λ j. same_group j k) _ _ (all_map (λ j other. and_right _ _ other) _ (none_before (λ o. is_same_party o.receiver from) k.number is.first.before both.1))
    ∙ find_in_front (λ j. same_group j k) ks _ k both.0)) ks (all_of_both (λ k. find (λ j. same_group j k) ks ≡ Some k) (λ k. list_any (has_group k.number) is.first.before ≡ false) ks own alone)

-- verdicts of submitted groups, one each
abbrev pub AreVerdictsOf : List KeyedGroup → List FunctionalGroupVerdict → Type 0
AreVerdictsOf [] [] = Unit {0}
AreVerdictsOf [] (v ∷ vs) = ⊥
AreVerdictsOf (k ∷ ks) [] = ⊥
AreVerdictsOf (k ∷ ks) (v ∷ vs) = IsVerdictOf k v × AreVerdictsOf ks vs

-- the answers to them
abbrev pub told_groups : List KeyedGroup → List FunctionalGroupVerdict → List Acknowledgment
told_groups [] vs = []
told_groups (k ∷ ks) [] = []
told_groups (k ∷ ks) (v ∷ vs) = of_group (told_group k.number v) ∷ told_groups ks vs

one_group_told : (hubs : List Party) (from : Party) (submissions : List Submission) (k : KeyedGroup) (v : FunctionalGroupVerdict) → IsVerdictOf k v → find (λ j. same_group j k) (groups_to submissions from) ≡ Some k → answer_evidence hubs submissions from (of_group (told_group k.number v)) ≡ group_told k v
unfolding answer_evidence
one_group_told hubs from submissions k v is found = rw (is.functional, found) (told_by_group k v is)

pub groups_told : (hubs : List Party) (from : Party) (submissions : List Submission) (ks : List KeyedGroup) (vs : List FunctionalGroupVerdict) → AreVerdictsOf ks vs → AllByRecursion (λ k. find (λ j. same_group j k) (groups_to submissions from) ≡ Some k) ks → evidence_of hubs submissions from (told_groups ks vs) ≡ flat_map (λ p. group_told p.0 p.1) (zip ks vs)
unfolding evidence_of
groups_told hubs from submissions [] [] are found = refl
groups_told hubs from submissions [] (v ∷ vs) are found = absurd are
groups_told hubs from submissions (k ∷ ks) [] are found = absurd are
groups_told hubs from submissions (k ∷ ks) (v ∷ vs) are found =
    rw (one_group_told hubs from submissions k v are.0 found.0, groups_told hubs from submissions ks vs are.1 found.1) refl
