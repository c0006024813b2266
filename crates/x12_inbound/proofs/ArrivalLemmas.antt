-- The postings of a judged interchange: by rising key, all of this interchange, and few enough for their places.
use Rattle.std.proofs.Common.{ℕ, ◌≡◌, ◌∙◌, ◌-◌, ◌<◌, ◌^◌, sym, subst, refl, suc, Bool, true, false, not, List, [], ◌∷◌, length, get_or, filter, flat_map, All, AllPairs, Option, Some, None, Ok, Err, is_some, arith, if◌then◌else◌}
use Rattle.std.specs.List.{enumerate_from}
use Rattle.std.specs.declared.cmp.Ordering.{Ordering}
use Rattle.std.specs.declared.cmp.Ordering.TheVariants.{Less, Equal}
use Rattle.std.specs.Ordering.{nat_cmp, ordering_then}
use Rattle.std.proofs.lemmas.Bool.Decides.{nat_tests}
use Rattle.std.proofs.lemmas.Cmp.{tied_itself}
use Rattle.std.proofs.lemmas.List.{length-map}
use Rattle.std.proofs.lemmas.List.Elements.{All-append, All-filter, All-map}
use Rattle.std.proofs.lemmas.List.FromFn.{length-enumerate_from, get_or-enumerate_from}
use Rattle.std.proofs.lemmas.List.Kept.{AllPairs-filter}
use Rattle.std.proofs.lemmas.List.Sums.{get_or-le-sum_by}
use Rattle.x12_envelopes.specs.declared.party.Party.{Party}
use Rattle.x12_envelopes.specs.declared.header.Header.{Header}
use Rattle.x12_envelopes.specs.declared.delimiters.Delims.{Delims}
use Rattle.x12_envelopes.specs.Outline.{outline_of}
use Rattle.x12_envelopes.specs.Shape.{Interchange, FunctionalGroup}
use Rattle.x12_judge.specs.Agreement.{TradingAgreement}
use Rattle.x12_judge.specs.Controls.{JudgingTerms}
use Rattle.x12_judge.specs.Interchange.{Reading, note_of_interchange}
use Rattle.x12_judge.specs.Set.{TransactionSetVerdict, set_is_accepted}
use Rattle.x12_judge.specs.Group.{FunctionalGroupVerdict, refusal_of_group, verdicts_of_sets, verdict_of_group}
use Rattle.x12_judge.specs.Verdict.{group_is_acknowledgment, verdicts_of_groups, verdict_by, judgement_of, InterchangeVerdict, refused, judged}
use Rattle.x12_judge.specs.Laws.{IsSmallVerdict}
use Rattle.x12_inbound.specs.Order.{interchange, interchange_holding, interchange_order, set_order}
use Rattle.x12_inbound.specs.Filing.{FiledInterchange}
use Rattle.x12_inbound.specs.Posting.{HasFewSets}
use Rattle.x12_acks.specs.Accepted.{AcceptedSet, judged_set, accepted_in_group, accepted_by_verdict, sets_by_verdict}
use Rattle.x12_inbound.specs.Arrival.{RiseByKey, ArePostingsOf}
use Rattle.x12_inbound.proofs.OrderLemmas.{interchange_total}
use Rattle.x12_inbound.proofs.PutLemmas.{all_pairs_append}
use Rattle.x12_numbers.proofs.Shelf.{pairs_to_map, places_rise}

-- of one interchange the set of an earlier group is below, and of one group the earlier set
nat_less : (m n : ℕ) → m < n → nat_cmp m n ≡ Less
nat_less m n less = grind (arith, nat_tests)

nat_itself : (n : ℕ) → nat_cmp n n ≡ Equal
nat_itself n = grind (arith, nat_tests)

by_group : (o g s : Ordering) → o ≡ Equal → g ≡ Less → ordering_then (ordering_then o g) s ≡ Less
by_group o g s same less = rw (same, less) refl

by_set : (o g s : Ordering) → o ≡ Equal → g ≡ Equal → s ≡ Less → ordering_then (ordering_then o g) s ≡ Less
by_set o g s same level less = rw (same, level, less) refl

group_below : (partner : Party) (icn : ℕ) (g h : FunctionalGroupVerdict) (s t : ℕ × TransactionSetVerdict) → g.place < h.place
    → set_order (judged_set partner icn g s).key (judged_set partner icn h t).key ≡ Less
group_below partner icn g h s t less =
    by_group (interchange_order (interchange partner icn) (interchange partner icn)) (nat_cmp g.place h.place) (nat_cmp s.0 t.0)
    (tied_itself interchange_total (interchange partner icn)) (nat_less g.place h.place less)

place_below : (partner : Party) (icn : ℕ) (g : FunctionalGroupVerdict) (s t : ℕ × TransactionSetVerdict) → s.0 < t.0
    → set_order (judged_set partner icn g s).key (judged_set partner icn g t).key ≡ Less
place_below partner icn g s t less =
    by_set (interchange_order (interchange partner icn) (interchange partner icn)) (nat_cmp g.place g.place) (nat_cmp s.0 t.0)
    (tied_itself interchange_total (interchange partner icn)) (nat_itself g.place) (nat_less s.0 t.0 less)

-- a group's postings rise
group_rises : (partner : Party) (icn : ℕ) (g : FunctionalGroupVerdict) → RiseByKey (accepted_in_group partner icn g)
group_rises partner icn g =
    let accepted = filter (λ (place : ℕ × TransactionSetVerdict). set_is_accepted place.1) (enumerate_from 1 g.sets) in
    let rises = AllPairs-filter (λ (s t : ℕ × TransactionSetVerdict). s.0 < t.0) (λ place. set_is_accepted place.1) (enumerate_from 1 g.sets) (places_rise 1 g.sets) in
    pairs_to_map (judged_set partner icn g) (λ p q. set_order p.key q.key ≡ Less) accepted
    (λ i j d before within. place_below partner icn g (get_or accepted i d) (get_or accepted j d) (rises i j d before within))

-- each posting of these groups is above each of the groups before them
above_groups : (partner : Party) (icn : ℕ) (g : FunctionalGroupVerdict) (s : ℕ × TransactionSetVerdict) (gs : List FunctionalGroupVerdict)
    → All (λ h. g.place < h.place) gs
    → All (λ q. set_order (judged_set partner icn g s).key q.key ≡ Less) (flat_map (accepted_in_group partner icn) gs)
above_groups partner icn g s [] above = λ k d within. absurd (omega arith)
above_groups partner icn g s (h ∷ gs) above =
    let L : AcceptedSet → Type 0 = λ q. set_order (judged_set partner icn g s).key q.key ≡ Less in
    All-append L (accepted_in_group partner icn h) (flat_map (accepted_in_group partner icn) gs)
    (All-map L (judged_set partner icn h) (filter (λ place. set_is_accepted place.1) (enumerate_from 1 h.sets))
    (λ k d within. group_below partner icn g h s (get_or (filter (λ place. set_is_accepted place.1) (enumerate_from 1 h.sets)) k d) (above 0 h (omega arith))))
    (above_groups partner icn g s gs (λ k d within. above (suc k) d (omega arith)))

-- the postings of groups whose places rise
groups_rise : (partner : Party) (icn : ℕ) (gs : List FunctionalGroupVerdict) → AllPairs (λ g h. g.place < h.place) gs
    → RiseByKey (flat_map (accepted_in_group partner icn) gs)
groups_rise partner icn [] rise = λ i j d before within. absurd (omega arith)
groups_rise partner icn (g ∷ gs) rise =
    let L : AcceptedSet → AcceptedSet → Type 0 = λ p q. set_order p.key q.key ≡ Less in
    let later : All (λ h. g.place < h.place) gs = λ k d within. rise 0 (suc k) d (omega arith) (omega arith) in
    let accepted = filter (λ (place : ℕ × TransactionSetVerdict). set_is_accepted place.1) (enumerate_from 1 g.sets) in
    all_pairs_append L (accepted_in_group partner icn g) (flat_map (accepted_in_group partner icn) gs)
    (group_rises partner icn g)
    (groups_rise partner icn gs (λ i j d before within. rise (suc i) (suc j) d (omega arith) (omega arith)))
    (All-map (λ p. All (L p) (flat_map (accepted_in_group partner icn) gs)) (judged_set partner icn g) accepted
    (λ k d within. above_groups partner icn g (get_or accepted k d) gs later))

-- each posting is of this interchange
theirs_alone : (partner : Party) (icn : ℕ) (gs : List FunctionalGroupVerdict)
    → All (λ (p : AcceptedSet). interchange_holding p.key ≡ interchange partner icn) (flat_map (accepted_in_group partner icn) gs)
theirs_alone partner icn [] = λ k d within. absurd (omega arith)
theirs_alone partner icn (g ∷ gs) =
    let P : AcceptedSet → Type 0 = λ p. interchange_holding p.key ≡ interchange partner icn in
    All-append P (accepted_in_group partner icn g) (flat_map (accepted_in_group partner icn) gs)
    (All-map P (judged_set partner icn g) (filter (λ place. set_is_accepted place.1) (enumerate_from 1 g.sets)) (λ k d within. refl))
    (theirs_alone partner icn gs)

-- the places of judged groups rise
verdict_places : (agreements : List TradingAgreement) (partner : Party) (d : Delims) (p : ℕ × FunctionalGroup)
    → (verdict_of_group agreements partner d p.0 p.1).place ≡ p.0
unfolding verdict_of_group
verdict_places agreements partner d p = refl

judged_places : (agreements : List TradingAgreement) (h : Header) (reading : Reading)
    → AllPairs (λ (g o : FunctionalGroupVerdict). g.place < o.place) (verdicts_of_groups agreements h reading)
unfolding verdicts_of_groups
judged_places agreements h (Err fault) = λ i j d before within. absurd (omega arith)
judged_places agreements h (Ok x) =
    let verdict = λ (p : ℕ × FunctionalGroup). verdict_of_group agreements h.sender h.delims p.0 p.1 in
    let answered = filter (λ (p : ℕ × FunctionalGroup). not (group_is_acknowledgment p.1)) (enumerate_from 1 x.groups) in
    let rises = AllPairs-filter (λ (p q : ℕ × FunctionalGroup). p.0 < q.0) (λ p. not (group_is_acknowledgment p.1)) (enumerate_from 1 x.groups) (places_rise 1 x.groups) in
    pairs_to_map verdict (λ g o. g.place < o.place) answered (λ i j d before within.
    rw (verdict_places agreements h.sender h.delims (get_or answered i d), verdict_places agreements h.sender h.delims (get_or answered j d))
    (rises i j d before within))

-- the postings of a verdict whose groups' places rise
verdict_postings : (filed : FiledInterchange) (note : Option ℕ) (gs : List FunctionalGroupVerdict)
    → AllPairs (λ (g o : FunctionalGroupVerdict). g.place < o.place) gs
    → ArePostingsOf filed (accepted_by_verdict filed.partner filed.icn (verdict_by note gs))
unfolding sets_by_verdict
verdict_postings filed (Some note) gs rise = record { rise = λ i j d before within. absurd (omega arith); theirs = λ k d within. absurd (omega arith) }
verdict_postings filed None gs rise = record {
  rise = groups_rise filed.partner filed.icn gs rise;
  theirs = theirs_alone filed.partner filed.icn gs;
}

-- what a judgement posts
pub are_postings : (me : Party) (terms : JudgingTerms) (h : Header) (bytes : List ℕ) (filed : FiledInterchange)
    → ArePostingsOf filed (accepted_by_verdict filed.partner filed.icn (judgement_of me terms h bytes).verdict)
unfolding judgement_of
are_postings me terms h bytes filed =
    verdict_postings filed (note_of_interchange terms.controls me h (outline_of h.delims bytes)) (verdicts_of_groups terms.agreements h (outline_of h.delims bytes))
    (judged_places terms.agreements h (outline_of h.delims bytes))

-- How many sets a judged group has.

-- a small verdict has few sets in each group
pub few_if_small : (v : InterchangeVerdict) → IsSmallVerdict v → HasFewSets v
few_if_small (refused note) small = tt
few_if_small (judged groups) small = λ k g within.
    omega (arith, small.sets, get_or-le-sum_by (λ (g : FunctionalGroupVerdict). length g.sets) groups k g within)
