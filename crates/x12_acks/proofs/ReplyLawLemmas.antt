-- A reply tells the verdict.
use Rattle.std.proofs.Common.{◌≡◌, ◌++◌, ◌∷◌, [], List, ℕ, Bool, true, false, map, flat_map, if◌then◌else◌, ◌&&◌, ◌||◌, ◌==◌, ◌+◌, refl, ap, append-nil, ◌∙◌, ◌⊎◌, inl, inr, codes}
use Rattle.std.proofs.lemmas.Bool.Decides.{Decides-eqb}
use Rattle.std.proofs.lemmas.Grind.{flat_map-append}
use Rattle.std.specs.Prelude.{Option, Some, None, Ok, find, Contains}
use Rattle.std.proofs.lemmas.List.Folds.{list_any-from_Any}
use Rattle.std.specs.List.{AllByRecursion, IsDistinct, enumerate_from, list_any}
use Rattle.x12_envelopes.specs.declared.party.Party.{Party}
use Rattle.x12_envelopes.specs.declared.moment.Moment.{Moment}
use Rattle.x12_envelopes.specs.declared.header.Header.{Header}
use Rattle.x12_envelopes.specs.Byte.{value_of_digits, zero_padded_number}
use Rattle.x12_envelopes.specs.Header.{header_of}
use Rattle.x12_envelopes.specs.Content.{code_of_acknowledgment}
use Rattle.x12_envelopes.specs.Shape.{Interchange, FunctionalGroup}
use Rattle.x12_envelopes.specs.Readable.{ReadIsReadable, HeaderNumberIsReadable}
use Rattle.x12_judge.specs.Agreement.{is_same_party}
use Rattle.x12_judge.specs.Controls.{JudgingTerms}
use Rattle.x12_judge.specs.Group.{FunctionalGroupVerdict}
use Rattle.x12_judge.specs.Interchange.{note_of_interchange}
use Rattle.x12_judge.specs.Verdict.{verdict_by, verdicts_of_groups, judgement_of}
use Rattle.x12_acks.specs.Reply.{ta1_segment, reply_to, reply_of, reply_tas, judged_groups, answer_groups, group_answer, refusal_of, asks_acknowledgment}
use Rattle.x12_acks.specs.Answer.{Acknowledgment}
use Rattle.x12_acks.specs.Submission.{Submission, KeyedGroup, keyed_groups, keyed_sets, submission_of, submitted_group}
use Rattle.x12_acks.specs.Evidence.{rejected, tells_each, answer_evidence, evidence_of, is_acknowledged_by, found_interchange, groups_to}
use Rattle.x12_acks.specs.Laws.{IsOfOrders, IsSubmittedAmong, IsFirstNumbered, written_ta1, written_set, written_group, written_answers}
use Rattle.x12_acks.specs.Told.{verdict_told, told_by_place}
use Rattle.x12_acks.proofs.FindingLemmas.{find_past, find_here, all_map}
use Rattle.x12_acks.proofs.ReplyStatementLemmas.{group_stated}
use Rattle.x12_acks.proofs.ReplyGroupLemmas.{AreVerdictsOf, told_groups, groups_told, groups_found, same_party_itself, same_group}
use Rattle.x12_numbers.proofs.Shelf.{none_passes}
use Rattle.x12_acks.proofs.ReplyVerdictLemmas.{groups_judged}
use Rattle.x12_acks.proofs.ToldLemmas.{verdict_is_told_by_place}

-- the 997s of the groups
groups_written : (place : ℕ) (ks : List KeyedGroup) (vs : List FunctionalGroupVerdict) → AreVerdictsOf ks vs → map written_set (map (λ p. group_answer p.0 p.1) (enumerate_from place vs)) ≡ told_groups ks vs
groups_written place [] [] are = refl
groups_written place [] (v ∷ vs) are = absurd are
groups_written place (k ∷ ks) [] are = absurd are
groups_written place (k ∷ ks) (v ∷ vs) are =
    rw (group_stated place k.number v are.0.told, groups_written (place + 1) ks vs are.1) refl

answers_written : (at : Moment) (gcn : ℕ) (ks : List KeyedGroup) (vs : List FunctionalGroupVerdict) → AreVerdictsOf ks vs → flat_map written_group (answer_groups at gcn vs) ≡ told_groups ks vs
unfolding answer_groups
answers_written at gcn [] [] are = refl
answers_written at gcn [] (v ∷ vs) are = absurd are
answers_written at gcn (k ∷ ks) [] are = absurd are
answers_written at gcn (k ∷ ks) (v ∷ vs) are = append-nil _ ∙ groups_written 1 (k ∷ ks) (v ∷ vs) are

and_false_left : (a b : Bool) → a ≡ false → (a && b) ≡ false
and_false_left true b e = absurd (cc)
and_false_left false b e = refl

-- the interchange is found
found_among : (hubs : List Party) (from : Party) (submissions : List Submission) (e : Submission) → IsFirstNumbered submissions e → (is_same_party e.receiver from || list_any (is_same_party from) hubs) ≡ true → found_interchange hubs submissions from e.icn ≡ Some e
found_among hubs from submissions e is known =
    ap (find (is_acknowledged_by hubs from e.icn)) is.is
    ∙ (find_past (is_acknowledged_by hubs from e.icn) is.before (e ∷ is.behind) (all_map (λ o other. and_false_left _ _ other) is.before (none_passes (λ o. o.icn == e.icn) is.before is.icn))
    ∙ find_here (is_acknowledged_by hubs from e.icn) e is.behind (rw ((Decides-eqb e.icn e.icn).1 refl, known) refl))

-- a TA1 that rejects
rejection_told : (hubs : List Party) (from : Party) (submissions : List Submission) (e : Submission) (h : Header) (note : ℕ) → IsFirstNumbered submissions e → (is_same_party e.receiver from || list_any (is_same_party from) hubs) ≡ true → value_of_digits (zero_padded_number 9 h.icn) ≡ e.icn → evidence_of hubs submissions from (written_ta1 (ta1_segment h (codes "R") note) ∷ []) ≡ tells_each rejected (keyed_sets e)
unfolding evidence_of answer_evidence code_of_acknowledgment
rejection_told hubs from submissions e h note is known number =
    rw (number, found_among hubs from submissions e is known) (append-nil _)

-- a TA1 that accepts
acceptance_told : (hubs : List Party) (from : Party) (submissions : List Submission) (h : Header) (asks : Bool) → evidence_of hubs submissions from (map written_ta1 (if asks then ta1_segment h (codes "A") 0 ∷ [] else [])) ≡ []
unfolding evidence_of answer_evidence code_of_acknowledgment
acceptance_told hubs from submissions h true = refl
acceptance_told hubs from submissions h false = refl

or_left : (a b : Bool) → a ≡ true → (a || b) ≡ true
or_left true b e = refl
or_left false b e = absurd (cc)

or_right : (a b : Bool) → b ≡ true → (a || b) ≡ true
or_right true b e = refl
or_right false b e = e

evidence_append : (hubs : List Party) (from : Party) (submissions : List Submission) (a b : List Acknowledgment) → evidence_of hubs submissions from (a ++ b) ≡ evidence_of hubs submissions from a ++ evidence_of hubs submissions from b
unfolding evidence_of
evidence_append hubs from submissions a b = flat_map-append (answer_evidence hubs submissions from) a b

pub no_answers : (at : Moment) (gcn : ℕ) → flat_map written_group (answer_groups at gcn []) ≡ []
unfolding answer_groups
no_answers at gcn = refl

-- the reply by the verdict
reply_told : (hubs : List Party) (submissions : List Submission) (h : Header) (e : Submission) (at : Moment) (icn gcn : ℕ) (note : Option ℕ) (vs : List FunctionalGroupVerdict) → IsSubmittedAmong submissions e → e.receiver ≡ h.receiver → value_of_digits (zero_padded_number 9 h.icn) ≡ e.icn → AreVerdictsOf (keyed_groups e) vs → AllByRecursion (λ k. find (λ j. same_group j k) (groups_to submissions h.receiver) ≡ Some k) (keyed_groups e) → evidence_of hubs submissions h.receiver (written_answers (reply_to h h.receiver at icn (reply_tas h (verdict_by note vs)) (answer_groups at gcn (judged_groups (verdict_by note vs))))) ≡ verdict_told e (verdict_by note vs)
unfolding reply_to written_answers verdict_told
reply_told hubs submissions h e at icn gcn (Some note) vs is receiver number are found =
    rw (no_answers at gcn)
    (rejection_told hubs h.receiver submissions e h note is.first (or_left _ _ (ap (λ (p : Party). is_same_party p h.receiver) receiver ∙ same_party_itself h.receiver)) number)
reply_told hubs submissions h e at icn gcn None vs is receiver number are found =
    rw (answers_written at gcn (keyed_groups e) vs are, evidence_append hubs h.receiver submissions (map written_ta1 (if asks_acknowledgment h then ta1_segment h (codes "A") 0 ∷ [] else [])) (told_groups (keyed_groups e) vs), acceptance_told hubs h.receiver submissions h (asks_acknowledgment h))
    (groups_told hubs h.receiver submissions (keyed_groups e) vs are found)

submitted_all : (n : ℕ) (gs : List FunctionalGroup) → AllByRecursion (λ g. (n == g.number) ≡ false) gs → AllByRecursion (λ g. (n == g.number) ≡ false) (map submitted_group gs)
submitted_all n [] all = tt
submitted_all n (g ∷ gs) all = (all.0, submitted_all n gs all.1)

groups_distinct : (gs : List FunctionalGroup) → IsDistinct (λ g o. g.number == o.number) gs → IsDistinct (λ g o. g.number == o.number) (map submitted_group gs)
unfolding IsDistinct
groups_distinct [] distinct = tt
groups_distinct (g ∷ gs) distinct = (submitted_all g.number gs distinct.0, groups_distinct gs distinct.1)

-- what the segments of a reply tell, for an interchange whose numbers can be read
reply_tells_each : (hubs : List Party) (submissions : List Submission) (terms : JudgingTerms) (h : Header) (bytes : List ℕ) (x : Interchange) (at : Moment) (icn gcn : ℕ) → ReadIsReadable → HeaderNumberIsReadable → IsOfOrders h bytes x → IsSubmittedAmong submissions (submission_of h bytes x) → evidence_of hubs submissions h.receiver (written_answers (reply_of h (judgement_of h.receiver terms h bytes) h.receiver at icn gcn)) ≡ verdict_told (submission_of h bytes x) (judgement_of h.receiver terms h bytes).verdict
unfolding reply_of judgement_of verdicts_of_groups submission_of keyed_groups
reply_tells_each hubs submissions terms h bytes x at icn gcn readable header orders is =
    let e : Submission = submission_of h bytes x in
    let fit = readable h.delims bytes x orders.outline in
    rw orders.outline
    (reply_told hubs submissions h e at icn gcn (note_of_interchange terms.controls h.receiver h (Ok x)) (verdicts_of_groups terms.agreements h (Ok x)) is refl (header bytes h orders.header)
    (groups_judged terms.agreements h.sender h.delims e 1 x.groups fit orders.sets orders.orders)
    (groups_found submissions e h.receiver is (same_party_itself h.receiver) (groups_distinct x.groups orders.groups)))

-- and by place
pub reply_tells : (hubs : List Party) (submissions : List Submission) (terms : JudgingTerms) (h : Header) (bytes : List ℕ) (x : Interchange) (at : Moment) (icn gcn : ℕ) → ReadIsReadable → HeaderNumberIsReadable → IsOfOrders h bytes x → IsSubmittedAmong submissions (submission_of h bytes x) → evidence_of hubs submissions h.receiver (written_answers (reply_of h (judgement_of h.receiver terms h bytes) h.receiver at icn gcn)) ≡ told_by_place (submission_of h bytes x) (judgement_of h.receiver terms h bytes).verdict
reply_tells hubs submissions terms h bytes x at icn gcn readable header orders is =
    reply_tells_each hubs submissions terms h bytes x at icn gcn readable header orders is
    ∙ verdict_is_told_by_place h.receiver terms h bytes x orders.outline orders.orders

-- a hub of the list
pub hub_known : (from : Party) (hubs : List Party) → Contains hubs from → list_any (is_same_party from) hubs ≡ true
hub_known from hubs known = list_any-from_Any (is_same_party from) hubs (known.0, from, known.1, known.2, same_party_itself from)

pub refusal_tells : (hubs : List Party) (from : Party) (submissions : List Submission) (note : ℕ) (h : Header) (bytes : List ℕ) (x : Interchange) (at : Moment) (icn : ℕ) → HeaderNumberIsReadable → header_of bytes ≡ Ok h → IsFirstNumbered submissions (submission_of h bytes x) → (from ≡ h.receiver) ⊎ Contains hubs from → evidence_of hubs submissions from (written_answers (refusal_of note h from at icn)) ≡ tells_each rejected (keyed_sets (submission_of h bytes x))
unfolding refusal_of reply_to written_answers submission_of
refusal_tells hubs from submissions note h bytes x at icn header orders is (inl receiver) =
    rejection_told hubs from submissions (submission_of h bytes x) h note is (or_left (is_same_party h.receiver from) (list_any (is_same_party from) hubs) (rw receiver (same_party_itself h.receiver))) (header bytes h orders)
refusal_tells hubs from submissions note h bytes x at icn header orders is (inr own) =
    rejection_told hubs from submissions (submission_of h bytes x) h note is (or_right (is_same_party h.receiver from) (list_any (is_same_party from) hubs) (hub_known from hubs own)) (header bytes h orders)
