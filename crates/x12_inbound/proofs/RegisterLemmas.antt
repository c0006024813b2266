-- The order of what a register holds.
use Rattle.std.proofs.Common.{ℕ, ◌≡◌, ◌∙◌, ◌<◌, ap, ap₂, sym, refl, Bool, true, false, ◌||◌, List, [], ◌∷◌, ◌++◌, length, get_or, take, drop, map, All, AllPairs, None, arith}
use Rattle.std.specs.declared.cmp.Ordering.{Ordering}
use Rattle.std.specs.declared.cmp.Ordering.TheVariants.{Less, Equal, Greater}
use Rattle.std.specs.Ordering.{is_eq, is_lt, ordering_reverse}
use Rattle.std.specs.Cmp.{IsTotalOrder}
use Rattle.std.specs.List.{IsDistinct, list_any}
use Rattle.std.specs.List.Sorted.{IsPermutation, IsSortedBy}
use Rattle.std.proofs.lemmas.List.{length-map}
use Rattle.std.proofs.lemmas.List.Elements.{All-append, All-cons}
use Rattle.std.proofs.lemmas.List.Sorted.{sorted_far, ranks_by, list_any-IsPermutation, All-permutation}
use Rattle.std.proofs.lemmas.Map.Keys.{apart_from_distinct, IsDistinct-IsPermutation}
use Rattle.x12_inbound.specs.Order.{InterchangeKey, interchange_holding, is_same_interchange, interchange_order, set_order}
use Rattle.x12_inbound.specs.Filing.{FiledInterchange, filed_key}
use Rattle.x12_acks.specs.Accepted.{AcceptedSet}
use Rattle.x12_inbound.specs.Arrival.{ArePostingsOf, RiseByKey}
use Rattle.x12_inbound.specs.Place.{IsPlace}
use Rattle.x12_inbound.specs.Register.{RiseByNumber, AreOfFiled, IsInOrder, is_under, found_in}
use Rattle.x12_inbound.proofs.OrderLemmas.{interchange_total, same_interchange, interchange_itself, below_back, set_below}
use Rattle.x12_inbound.proofs.SearchLemmas.{someone}
use Rattle.x12_numbers.proofs.Shelf.{holds_at_map, or_true_right}
use Rattle.x12_inbound.proofs.PutLemmas.{put_in_order, put_permutes, none_passes, get_or-any}
use Rattle.x12_envelopes.specs.declared.party.Party.{Party}

-- not above and not the same: below
below : (o r : Ordering) → r ≡ ordering_reverse o → is_lt r ≡ false → is_eq o ≡ false → o ≡ Less
below Less r turned up differ = refl
below Equal r turned up differ = cc
below Greater r turned up differ = let clash : true ≡ false = ap is_lt (sym turned) ∙ up in cc

-- after a sort, what differs is in strict order
pub rise_from_sorted : {X Y K : Type 0} (v : X → Y) (key : Y → K) (R : K → K → Ordering) (total : IsTotalOrder R)
    (same : K → K → Bool) (tests : (a b : K) → is_eq (R a b) ≡ same a b) (xs : List X)
    → IsSortedBy (λ a b. is_lt (R (key (v a)) (key (v b)))) xs → IsDistinct (λ f g. same (key f) (key g)) (map v xs)
    → AllPairs (λ f g. R (key f) (key g) ≡ Less) (map v xs)
rise_from_sorted v key R total same tests xs sorted distinct i j d before within =
    let long = length-map xs v in
    let inside : j < length xs = omega (arith, long, within) in
    let f = get_or (map v xs) i d in
    let g = get_or (map v xs) j d in
    let e = someone xs j inside in
    let differ : is_eq (R (key f) (key g)) ≡ false =
    tests (key f) (key g) ∙ apart_from_distinct (λ f g. same (key f) (key g)) (map v xs) i j d distinct before within in
    let up : is_lt (R (key g) (key f)) ≡ false =
    holds_at_map v (λ y. is_lt (R (key g) (key y)) ≡ false) xs i (omega arith) (λ a.
    holds_at_map v (λ y. is_lt (R (key y) (key (v (get_or xs i a)))) ≡ false) xs j inside (λ b.
    rw (get_or-any xs i a b (omega arith))
    (sorted_far (λ a b. is_lt (R (key (v a)) (key (v b)))) (ranks_by total (λ x. key (v x))) xs sorted i j b (omega arith) inside)) d) d in
    below (R (key f) (key g)) (R (key g) (key f)) (total.antisymm (key g) (key f)) up differ

-- what was there once is there once in another order
pub once_permuted : {Y K : Type 0} (key : Y → K) (same : K → K → Bool) (flips : (a b : K) → same a b ≡ same b a)
    (xs ys : List Y) → IsPermutation xs ys → IsDistinct (λ f g. same (key f) (key g)) xs → IsDistinct (λ f g. same (key f) (key g)) ys
once_permuted key same flips xs ys permuted once =
    IsDistinct-IsPermutation (λ f g. same (key f) (key g)) (λ f g. flips (key f) (key g)) xs ys permuted once

-- postings of filed interchanges are so in another order
pub of_filed_permuted : (fs gs : List FiledInterchange) (ps qs : List AcceptedSet) → IsPermutation fs gs → IsPermutation ps qs
    → AreOfFiled fs ps → AreOfFiled gs qs
of_filed_permuted fs gs ps qs filed posted of_filed =
    let all = All-permutation (λ p. list_any (is_under (interchange_holding p.key)) fs ≡ true) ps qs posted of_filed in
    λ k d within. sym (list_any-IsPermutation (is_under (interchange_holding (get_or qs k d).key)) fs gs filed) ∙ all k d within

-- no posting of an interchange that isn't filed
pub none_posted : (fs : List FiledInterchange) (ps : List AcceptedSet) (key : InterchangeKey) → AreOfFiled fs ps
    → found_in fs key ≡ None → All (λ p. is_same_interchange (interchange_holding p.key) key ≡ false) ps
none_posted fs ps key of_filed none k d within =
    by (is_same_interchange (interchange_holding (get_or ps k d).key) key) refl
  where
    by : (b : Bool) → is_same_interchange (interchange_holding (get_or ps k d).key) key ≡ b → b ≡ false
    by false is = refl
    by true is =
        let same = same_interchange (interchange_holding (get_or ps k d).key) key is in
        let make : Party → ℕ → InterchangeKey = λ sender icn. record { sender = sender; icn = icn } in
        let key_is : interchange_holding (get_or ps k d).key ≡ key = ap₂ make same.0 same.1 in
        let clash : true ≡ false = sym (of_filed k d within) ∙ ap (λ j. list_any (is_under j) fs) key_is ∙ none_passes (is_under key) fs none in
        absurd (let e : true ≡ false = clash in cc)

-- the filed interchanges with one more
pub filed_put : (fs : List FiledInterchange) (f : FiledInterchange) (at : ℕ) → RiseByNumber fs
    → IsPlace (λ g. interchange_order (filed_key g) (filed_key f)) fs at → RiseByNumber (take at fs ++ (f ∷ [] ++ drop at fs))
filed_put fs f at rise place =
    put_in_order (λ g h. interchange_order (filed_key g) (filed_key h) ≡ Less) fs (f ∷ []) at place.within rise
    (λ i j d before within. absurd (omega arith))
    (λ k d low. All-cons (λ y. interchange_order (filed_key (get_or fs k d)) (filed_key y) ≡ Less) f [] (place.split.0 k d (omega arith) low) (λ k d within. absurd (omega arith)))
    (λ k d high within. All-cons (λ y. interchange_order (filed_key y) (filed_key (get_or fs k d)) ≡ Less) f []
    (below_back _ _ (place.split.1 k d high within) (interchange_total.antisymm (filed_key f) (filed_key (get_or fs k d)))) (λ k d within. absurd (omega arith)))

-- the postings with those of one interchange more
pub postings_put : (ps qs : List AcceptedSet) (f : FiledInterchange) (at : ℕ) → RiseByKey ps → ArePostingsOf f qs
    → IsPlace (λ p. interchange_order (interchange_holding p.key) (filed_key f)) ps at → RiseByKey (take at ps ++ (qs ++ drop at ps))
postings_put ps qs f at rise theirs place =
    put_in_order (λ p q. set_order p.key q.key ≡ Less) ps qs at place.within rise theirs.rise
    (λ k d low i e within. set_below (get_or ps k d).key (get_or qs i e).key
    (ap (λ j. interchange_order (interchange_holding (get_or ps k d).key) j) (theirs.theirs i e within) ∙ place.split.0 k d (omega arith) low))
    (λ k d high inside i e within. set_below (get_or qs i e).key (get_or ps k d).key
    (ap (λ j. interchange_order j (interchange_holding (get_or ps k d).key)) (theirs.theirs i e within)
    ∙ below_back _ _ (place.split.1 k d high inside) (interchange_total.antisymm (filed_key f) (interchange_holding (get_or ps k d).key))))

-- each posting is of a filed interchange, the new ones too
pub of_filed_put : (fs : List FiledInterchange) (ps qs : List AcceptedSet) (f : FiledInterchange) (at behind : ℕ) → AreOfFiled fs ps
    → ArePostingsOf f qs → AreOfFiled (take at fs ++ (f ∷ [] ++ drop at fs)) (take behind ps ++ (qs ++ drop behind ps))
of_filed_put fs ps qs f at behind of_filed theirs =
    of_filed_permuted (f ∷ [] ++ fs) (take at fs ++ (f ∷ [] ++ drop at fs)) (qs ++ ps) (take behind ps ++ (qs ++ drop behind ps))
    (put_permutes fs (f ∷ []) at) (put_permutes ps qs behind)
    (All-append (λ p. list_any (is_under (interchange_holding p.key)) (f ∷ [] ++ fs) ≡ true) qs ps
    (λ k d within. ap (λ b. b || list_any (is_under (interchange_holding (get_or qs k d).key)) fs)
    (ap (λ j. is_same_interchange (filed_key f) j) (theirs.theirs k d within) ∙ interchange_itself (filed_key f)))
    (λ k d within. ap (λ b. is_under (interchange_holding (get_or ps k d).key) f || b) (of_filed k d within) ∙ or_true_right (is_under (interchange_holding (get_or ps k d).key) f)))

-- the register with an interchange and its postings is in order
pub in_order_put : (fs : List FiledInterchange) (ps qs : List AcceptedSet) (f : FiledInterchange) (at behind : ℕ) → IsInOrder fs ps
    → ArePostingsOf f qs → IsPlace (λ g. interchange_order (filed_key g) (filed_key f)) fs at
    → IsPlace (λ p. interchange_order (interchange_holding p.key) (filed_key f)) ps behind
    → IsInOrder (take at fs ++ (f ∷ [] ++ drop at fs)) (take behind ps ++ (qs ++ drop behind ps))
in_order_put fs ps qs f at behind order theirs filed_place posted_place = record {
  filed_rise = filed_put fs f at order.filed_rise filed_place;
  postings_rise = postings_put ps qs f behind order.postings_rise theirs posted_place;
  of_filed = of_filed_put fs ps qs f at behind order.of_filed theirs;
}
