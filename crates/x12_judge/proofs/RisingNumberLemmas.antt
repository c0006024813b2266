-- Control numbers that rise by their bytes all differ.
use Rattle.std.proofs.Common.{◌≡◌, ◌<◌, ◌≤◌, ◌+◌, ℕ, zero, suc, Bool, true, false, ◌&&◌, ◌||◌, List, [], ◌∷◌, ◌++◌, length, take, map, get_or, bytes_eq, refl, sym, ap, ap₂, ◌∙◌, arith, inl, inr}
use Rattle.std.specs.List.{list_any, list_all}
use Rattle.std.specs.declared.cmp.Ordering.{Ordering}
use Rattle.std.specs.declared.cmp.Ordering.TheVariants.{Less, Equal, Greater}
use Rattle.std.specs.Ordering.{nat_cmp, is_lt, is_le, is_eq}
use Rattle.std.specs.Cmp.Lexicographic.{slice_cmp}
use Rattle.std.proofs.lemmas.Bool.{and_parts, cases_lt}
use Rattle.std.proofs.lemmas.Cmp.{nat_list_cmp_total, tied_itself}
use Rattle.std.proofs.lemmas.Map.Text.{is_eq-slice_cmp}
use Rattle.std.proofs.lemmas.List.{take_more, get_or_default, get_or-map, length-map}
use Rattle.std.proofs.lemmas.List.Folds.{list_all-append}
use Rattle.x12_envelopes.specs.declared.shape.SetView.{SetView}
use Rattle.x12_envelopes.specs.Shape.{TransactionSet}
use Rattle.x12_judge.specs.Number.{AllDiffer, number_of_set}

-- how two texts compare
abbrev order : List ℕ → List ℕ → Ordering
order a b = slice_cmp nat_cmp a b

-- some text is this one
abbrev pub has_text : List ℕ → List (List ℕ) → Bool
has_text n texts = list_any (λ e. bytes_eq e n) texts

-- no text comes behind this one
abbrev are_upto : List ℕ → List (List ℕ) → Bool
are_upto last texts = list_all (λ e. is_le (order e last)) texts

less : (o : Ordering) → is_lt o ≡ true → o ≡ Less
less Less e = refl
less Equal e = absurd (cc)
less Greater e = absurd (cc)

before_by : (o : Ordering) (e last n : List ℕ) → order e last ≡ o → is_le o ≡ true → order last n ≡ Less → order e n ≡ Less
before_by Less e last n is le lt = nat_list_cmp_total.trans e last n is lt
before_by Equal e last n is le lt = nat_list_cmp_total.congr e last n is ∙ lt
before_by Greater e last n is le lt = absurd (cc)

-- what comes before a text is another one
apart : (e n : List ℕ) → order e n ≡ Less → bytes_eq e n ≡ false
apart e n lt = sym (is_eq-slice_cmp e n) ∙ ap is_eq lt

record AreBelow (n : List ℕ) (texts : List (List ℕ)) : Type 0 where
  none : has_text n texts ≡ false
  upto : are_upto n texts ≡ true

below_by : (e n : List ℕ) (texts : List (List ℕ)) → order e n ≡ Less → AreBelow n texts → AreBelow n (e ∷ texts)
below_by e n texts lt rest = record {
  none = ap (λ b. b || has_text n texts) (apart e n lt) ∙ rest.none;
  upto = ap (λ o. is_le o && are_upto n texts) lt ∙ rest.upto;
}

all_below : (last n : List ℕ) (texts : List (List ℕ)) → are_upto last texts ≡ true → order last n ≡ Less → AreBelow n texts
all_below last n [] upto lt = record { none = refl; upto = refl }
all_below last n (e ∷ texts) upto lt =
    let parts = and_parts (is_le (order e last)) (are_upto last texts) upto in
    below_by e n texts (before_by (order e last) e last n refl parts.0 lt) (all_below last n texts parts.1 lt)

upto_itself : (n : List ℕ) → are_upto n (n ∷ []) ≡ true
upto_itself n = ap (λ o. is_le o && true) (tied_itself nat_list_cmp_total n)

-- up to a place the texts differ, and none comes behind the last
pub record Rises (texts : List (List ℕ)) (place : ℕ) (last : List ℕ) : Type 0 where
  pub differ : (i : ℕ) (n : List ℕ) → i < place → n ≡ get_or texts i n → has_text n (take i texts) ≡ false
  pub upto : are_upto last (take place texts) ≡ true

pub rises_first : (texts : List (List ℕ)) → Rises texts 0 []
rises_first texts = record {
  differ = λ i n first is. absurd (omega (arith, first));
  upto = refl;
}

by_place : (i place : ℕ) {G : Type 0} → i < place + 1 → (i < place → G) → (i ≡ place → G) → G
by_place i place within before at = elim (cases_lt i place) [
  | inl low ↦ before low
  | inr high ↦ at (omega (arith, high, within))
]

same_at : (texts : List (List ℕ)) (i place : ℕ) (m n : List ℕ) → i ≡ place → place < length texts → m ≡ get_or texts i m → n ≡ get_or texts place n → m ≡ n
same_at texts i place m n at within m_is n_is =
    m_is ∙ ap (λ k. get_or texts k m) at ∙ get_or_default texts place m n within ∙ sym n_is

pub rises_more : (texts : List (List ℕ)) (place : ℕ) (last n : List ℕ) → Rises texts place last → place < length texts → n ≡ get_or texts place n → is_lt (order last n) ≡ true → Rises texts (place + 1) n
rises_more texts place last n so_far within is lt =
    let below = all_below last n (take place texts) so_far.upto (less (order last n) lt) in
    let more : take (place + 1) texts ≡ take place texts ++ n ∷ [] = take_more texts place n within ∙ ap (λ y. take place texts ++ y ∷ []) (sym is) in
    record {
      differ = λ i m low m_is. by_place i place low (λ before. so_far.differ i m before m_is)
          (λ at. ap₂ (λ t k. has_text t (take k texts)) (same_at texts i place m n at within m_is is) at ∙ below.none);
      upto =
          ap (are_upto n) more
          ∙ list_all-append (λ e. is_le (order e n)) (take place texts) (n ∷ [])
          ∙ ap₂ (λ a b. a && b) below.upto (upto_itself n);
    }

-- numbers that rise up to their end all differ
pub all_differ : (texts : List (List ℕ)) (place : ℕ) (last : List ℕ) → Rises texts place last → length texts ≤ place → AllDiffer texts
all_differ texts place last so_far over = λ i n within is. so_far.differ i n (omega (arith, within, over)) is

numbers_of :
    (view : SetView → TransactionSet) (n : List ℕ) → ((s : SetView) → (view s).number ≡ number_of_set s)
    → (sets : List SetView) (i : ℕ)
    → list_any (λ e. bytes_eq e.number n) (take i (map view sets)) ≡ has_text n (take i (map number_of_set sets))
numbers_of view n same sets zero = refl
numbers_of view n same [] (suc i) = refl
numbers_of view n same (s ∷ sets) (suc i) =
    ap₂ (λ m b. bytes_eq m n || b) (same s) (numbers_of view n same sets i)

-- among the sets before it no set has its number
pub not_among :
    (view : SetView → TransactionSet) (sets : List SetView) (i : ℕ) (x : SetView) → i < length sets → x ≡ get_or sets i x
    → AllDiffer (map number_of_set sets)
    → ((s : SetView) → (view s).number ≡ number_of_set s)
    → list_any (λ e. bytes_eq e.number (number_of_set x)) (take i (map view sets)) ≡ false
not_among view sets i x within is differ same =
    let long = length-map sets number_of_set in
    let x_is = ap number_of_set is ∙ sym (get_or-map number_of_set sets i x (number_of_set x) within) in
    numbers_of view (number_of_set x) same sets i
    ∙ differ i (number_of_set x) (omega (arith, long, within)) x_is
