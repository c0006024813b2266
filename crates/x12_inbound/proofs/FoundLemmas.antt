-- What is found in a list that stands in order, and in the same elements in another order.
use Rattle.std.proofs.Common.{ℕ, ◌≡◌, ◌∙◌, ◌<◌, ap, sym, refl, zero, suc, Bool, true, false, cond, ◌||◌, List, [], ◌∷◌, ◌++◌, length, get_or, take, drop, slice_get, find, AllPairs, Option, Some, None, arith}
use Rattle.std.specs.declared.cmp.Ordering.{Ordering}
use Rattle.std.specs.declared.cmp.Ordering.TheVariants.{Less, Equal}
use Rattle.std.specs.Ordering.{is_eq}
use Rattle.std.specs.Cmp.{IsTotalOrder}
use Rattle.std.specs.List.{list_any}
use Rattle.std.specs.List.Sorted.{IsPermutation}
use Rattle.std.proofs.lemmas.Cmp.{tied_back}
use Rattle.std.proofs.lemmas.List.Sorted.{Contains-permutation, list_any-IsPermutation}
use Rattle.x12_acks.specs.Submission.{TransactionSetKey}
use Rattle.x12_acks.specs.Key.{is_same_key}
use Rattle.x12_inbound.specs.Order.{InterchangeKey, interchange_holding, is_same_interchange, interchange_order, set_order}
use Rattle.x12_inbound.specs.Filing.{FiledInterchange, filed_key}
use Rattle.x12_acks.specs.Accepted.{AcceptedSet}
use Rattle.x12_inbound.specs.Arrival.{RiseByKey, ArePostingsOf}
use Rattle.x12_inbound.specs.Place.{IsPlace}
use Rattle.x12_inbound.specs.Register.{RiseByNumber, IsInOrder, FilesInterchange, found_in, posted_in}
use Rattle.x12_inbound.proofs.OrderLemmas.{equal_from_test, interchange_total, set_total, is_eq-interchange, is_eq-set}
use Rattle.x12_inbound.proofs.PutLemmas.{none_passes, get_or-any, put_permutes}
use Rattle.x12_inbound.proofs.RegisterLemmas.{in_order_put}
use Rattle.x12_numbers.proofs.Shelf.{find_at, found_passes}

-- an element, by its index
element_is : {X : Type 0} (xs : List X) (i : ℕ) (a : X) → i < length xs → get_or xs i a ≡ a → slice_get xs i ≡ Some a
element_is [] i a within is = absurd (omega arith)
element_is (x ∷ xs) zero a within is = ap Some is
element_is (x ∷ xs) (suc i) a within is = element_is xs i a (omega arith) is

-- nothing passes, nothing is found
none_found : {X : Type 0} (p : X → Bool) (xs : List X) → list_any p xs ≡ false → find p xs ≡ None
none_found p [] none = refl
none_found p (x ∷ xs) none = by (p x) none (λ rest. none_found p xs rest)
  where
    by : (b : Bool) → (b || list_any p xs) ≡ false → (list_any p xs ≡ false → find p xs ≡ None) → cond b (Some x) (find p xs) ≡ None
    by true some more = cc
    by false rest more = more rest

module _ {Y K : Type 0} (key : Y → K) (R : K → K → Ordering) (total : IsTotalOrder R) (same : K → K → Bool)
    (tests : (a b : K) → is_eq (R a b) ≡ same a b) (xs ys : List Y) (permuted : IsPermutation xs ys)
    (rise : AllPairs (λ a b. R (key a) (key b) ≡ Less) ys) (k : K) where
  abbrev passes : Y → Bool
  passes = λ y. same (key y) k

  -- two that pass are the same
  level : (a b : Y) → passes a ≡ true → passes b ≡ true → R (key a) (key b) ≡ Equal
  level a b first second =
      let one = equal_from_test (R (key a) k) (tests (key a) k ∙ first) in
      let other = tied_back total (key b) k (equal_from_test (R (key b) k) (tests (key b) k ∙ second)) in
      total.congr (key a) k (key b) one ∙ other

  clash : (o : Ordering) → o ≡ Less → o ≡ Equal → ⊥
  clash o less equal = let e : Less ≡ Equal = sym less ∙ equal in cc

  -- before one that passes none does
  none_before : (i : ℕ) → i < length ys → ((d : Y) → passes (get_or ys i d) ≡ true) → (j : ℕ) (d : Y) → j < i
      → passes (get_or ys j d) ≡ false
  none_before i within here j d before =
      by (passes (get_or ys j d)) refl
    where
      by : (b : Bool) → passes (get_or ys j d) ≡ b → b ≡ false
      by false is = refl
      by true is = absurd (clash _ (rise j i d before within) (level (get_or ys j d) (get_or ys i d) is (here d)))

  of_found : (o : Option Y) → find passes xs ≡ o → find passes ys ≡ o
  of_found None none =
      none_found passes ys (sym (list_any-IsPermutation passes xs ys permuted) ∙ none_passes passes xs none)
  of_found (Some a) found =
      let there = found_passes passes xs a found in
      let at = Contains-permutation xs ys a permuted there.0 in
      let here : (d : Y) → passes (get_or ys at.0 d) ≡ true =
      λ d. ap passes (get_or-any ys at.0 d a at.1 ∙ at.2) ∙ there.1 in
      find_at passes ys at.0 at.1 here (none_before at.0 at.1 here) ∙ element_is ys at.0 a at.1 at.2

  -- the same is found in another order
  pub find_permuted : find (λ y. same (key y) k) ys ≡ find (λ y. same (key y) k) xs
  find_permuted = of_found (find passes xs) refl

-- a filed interchange, and a posting, by its key
pub found_permuted : (fs gs : List FiledInterchange) → IsPermutation fs gs → RiseByNumber gs → (key : InterchangeKey)
    → found_in gs key ≡ found_in fs key
found_permuted fs gs permuted rise key =
    find_permuted filed_key interchange_order interchange_total is_same_interchange is_eq-interchange fs gs permuted rise key

pub posted_permuted : (ps qs : List AcceptedSet) → IsPermutation ps qs → RiseByKey qs → (key : TransactionSetKey)
    → posted_in qs key ≡ posted_in ps key
posted_permuted ps qs permuted rise key =
    find_permuted (λ (p : AcceptedSet). p.key) set_order set_total is_same_key is_eq-set ps qs permuted rise key

-- the register with an interchange and its postings
pub files_put : (fs gs : List FiledInterchange) (ps rs qs : List AcceptedSet) (f : FiledInterchange) (at behind : ℕ)
    (room posting_room new_room new_posting_room : ℕ) → IsInOrder fs ps
    → ArePostingsOf f qs → IsPlace (λ g. interchange_order (filed_key g) (filed_key f)) fs at
    → IsPlace (λ p. interchange_order (interchange_holding p.key) (filed_key f)) ps behind
    → gs ≡ take at fs ++ (f ∷ [] ++ drop at fs) → rs ≡ take behind ps ++ (qs ++ drop behind ps)
    → FilesInterchange (record { filed = f; postings = qs })
    (record { filed = fs; postings = ps; room = room; posting_room = posting_room })
    (record { filed = gs; postings = rs; room = new_room; posting_room = new_posting_room })
files_put fs gs ps rs qs f at behind room posting_room new_room new_posting_room order theirs filed_place posted_place filed posted =
    let new = in_order_put fs ps qs f at behind order theirs filed_place posted_place in
    let all_filed : IsPermutation (f ∷ fs) gs = rw filed (put_permutes fs (f ∷ []) at) in
    let all_posted : IsPermutation (qs ++ ps) rs = rw posted (put_permutes ps qs behind) in
    let filed_rise : RiseByNumber gs = rw filed new.filed_rise in
    let posted_rise : RiseByKey rs = rw posted new.postings_rise in
    record {
      filed = all_filed;
      postings = all_posted;
      finds = found_permuted (f ∷ fs) gs all_filed filed_rise;
      shows = posted_permuted (qs ++ ps) rs all_posted posted_rise;
    }
