-- The elements of a segment, without a look for its end: trailing empty elements are as missing ones.
use Rattle.std.proofs.Common.{◌≡◌, ℕ, zero, suc, ◌-◌, ◌<◌, ◌≤◌, Bool, true, false, ◌&&◌, ◌==◌, leb, nat_le, Option, unwrap_or, slice_get, slice_index_or, List, [], ◌∷◌, ◌++◌, length, take, drop, reverse, refl, sym, ap, ap₂, ◌∙◌, arith, inl, inr, one-add, ◌+◌, cond}
use Rattle.std.specs.List.{prefix_len, suffix_len, position_or_len, slice_split, onto_first}
use Rattle.std.proofs.Math.Seq.{take-append-add}
use Rattle.std.proofs.lemmas.Bool.{ne_eqb, eq-eqb, cases_Bool, and_parts, leb-true, leb-false, le-leb}
use Rattle.std.proofs.lemmas.Option.{slice_get_past}
use Rattle.std.proofs.lemmas.List.{reverse-append, reverse-reverse, length-reverse, length-drop, take-append-drop, append-nil}
use Rattle.std.proofs.lemmas.List.Sums.{suffix_len-le-length, sum_by-take-le}
use Rattle.std.proofs.lemmas.List.Splits.{length-slice_split}
use Rattle.x12_envelopes.specs.declared.delimiters.Delims.{Delims}
use Rattle.x12_envelopes.specs.Content.{segment_is_st}
use Rattle.x12_envelopes.specs.Byte.{text_has_length}
use Rattle.x12_envelopes.specs.Segment.{trimmed_segment, elements_of, element_of, count_of_elements}

-- one of the elements by its place: empty where it is missing
abbrev nth : List (List ℕ) → ℕ → List ℕ
nth xs n = unwrap_or (slice_get xs n) []

one_more : (xs : List (List ℕ)) (n : ℕ) → nth (xs ++ [] ∷ []) n ≡ nth xs n
one_more [] zero = refl
one_more [] (suc n) = refl
one_more (x ∷ xs) zero = refl
one_more (x ∷ xs) (suc n) = one_more xs n

onto_one_more : (x : ℕ) (parts : List (List ℕ)) → 0 < length parts → onto_first x (parts ++ [] ∷ []) ≡ onto_first x parts ++ [] ∷ []
onto_one_more x [] some = absurd (omega arith)
onto_one_more x (part ∷ parts) some = refl

-- a separator at the end is an empty element more
split_end : (p : ℕ → Bool) (xs : List ℕ) (y : ℕ) → p y ≡ true → slice_split p (xs ++ y ∷ []) ≡ slice_split p xs ++ [] ∷ []
split_end p [] y is = rw is refl
split_end p (x ∷ xs) y is = elim (cases_Bool (p x)) [
  | inl cuts ↦ rw cuts (ap (λ l. [] ∷ l) (split_end p xs y is))
  | inr goes ↦ rw goes (ap (onto_first x) (split_end p xs y is) ∙ onto_one_more x (slice_split p xs) (omega (arith, length-slice_split p xs)))
]

-- bytes in their reverse, with and without the separators at their end
untrimmed : (p : ℕ → Bool) (r : List ℕ) (n : ℕ) → nth (slice_split p (reverse r)) n ≡ nth (slice_split p (reverse (drop (prefix_len p r) r))) n
untrimmed p [] n = refl
untrimmed p (y ∷ r) n = elim (cases_Bool (p y)) [
  | inl ends ↦ rw (ends, one-add) (
      ap (λ l. nth (slice_split p l) n) (reverse-append (y ∷ []) r)
      ∙ ap (λ l. nth l n) (split_end p (reverse r) y ends)
      ∙ one_more (slice_split p (reverse r)) n
      ∙ untrimmed p r n)
  | inr stays ↦ rw stays refl
]

-- a front, by the reverse
front_is : (xs : List ℕ) (k : ℕ) → k ≤ length xs → reverse (drop k (reverse xs)) ≡ take (length xs - k) xs
front_is xs k fits =
    let r = reverse xs in
    let whole : xs ≡ reverse (drop k r) ++ reverse (take k r) =
    sym (reverse-reverse xs) ∙ ap reverse (sym (take-append-drop k r)) ∙ reverse-append (take k r) (drop k r) in
    let long : length (reverse (drop k r)) ≡ length xs - k = length-reverse (drop k r) ∙ length-drop k r ∙ ap (λ n. n - k) (length-reverse xs) in
    sym (append-nil (reverse (drop k r)))
    ∙ sym (take-append-add (reverse (drop k r)) (reverse (take k r)) 0)
    ∙ ap₂ take (omega (arith, long)) (sym whole)

-- an element is that of the bytes cut at all separators
pub element_is : (d : Delims) (part : List ℕ) (n : ℕ) → nth (slice_split (λ b. b == d.element) part) n ≡ element_of d part n
unfolding element_of elements_of trimmed_segment
element_is d part n =
    let p = λ (b : ℕ). b == d.element in
    ap (λ l. nth (slice_split p l) n) (sym (reverse-reverse part))
    ∙ untrimmed p (reverse part) n
    ∙ ap (λ l. nth (slice_split p l) n) (front_is part (suffix_len p part) (suffix_len-le-length p part))

onto_first_is : (x : ℕ) (parts : List (List ℕ)) → 0 < length parts → nth (onto_first x parts) 0 ≡ x ∷ nth parts 0
onto_first_is x [] some = absurd (omega arith)
onto_first_is x (part ∷ parts) some = refl

-- the first element ends in front of the first separator
first_is : (p : ℕ → Bool) (xs : List ℕ) → take (position_or_len p xs) xs ≡ nth (slice_split p xs) 0
first_is p [] = refl
first_is p (x ∷ xs) = elim (cases_Bool (p x)) [
  | inl ends ↦ rw ends refl
  | inr goes ↦ rw (goes, one-add) (ap (λ l. x ∷ l) (first_is p xs) ∙ sym (onto_first_is x (slice_split p xs) (omega (arith, length-slice_split p xs))))
]

-- the identifier ends in front of the first separator
pub identifier_is : (d : Delims) (part : List ℕ) → take (position_or_len (λ b. b == d.element) part) part ≡ element_of d part 0
identifier_is d part = first_is (λ b. b == d.element) part ∙ element_is d part 0

-- the identifier goes on where no separator stands, and ends where one does
goes_on : (d : Delims) (b : ℕ) (more : List ℕ) → (b ≡ d.element → ⊥) → element_of d (b ∷ more) 0 ≡ b ∷ element_of d more 0
goes_on d b more other =
    sym (identifier_is d (b ∷ more)) ∙ rw (ne_eqb b d.element other, one-add) (ap (λ l. b ∷ l) (identifier_is d more))

ends_at : (d : Delims) (b : ℕ) (more : List ℕ) → b ≡ d.element → element_of d (b ∷ more) 0 ≡ []
ends_at d b more ends = sym (identifier_is d (b ∷ more)) ∙ rw (eq-eqb b d.element ends) refl

-- an identifier of two or three bytes that is all of its segment
pub whole_identifier :
    (d : Delims) (bytes : List ℕ) → 2 ≤ length bytes → length bytes ≤ 3
    → (slice_index_or bytes 0 0 ≡ d.element → ⊥) → (slice_index_or bytes 1 0 ≡ d.element → ⊥)
    → (slice_index_or bytes (length bytes - 1) 0 ≡ d.element → ⊥)
    → bytes ≡ element_of d bytes 0
whole_identifier d [] some few one two last = absurd (omega (arith, some))
whole_identifier d (a ∷ []) some few one two last = absurd (omega (arith, some))
whole_identifier d (a ∷ b ∷ []) some few one two last =
    sym (goes_on d a (b ∷ []) one ∙ ap (λ l. a ∷ l) (goes_on d b [] two ∙ ap (λ l. b ∷ l) (sym (identifier_is d []))))
whole_identifier d (a ∷ b ∷ c ∷ []) some few one two last =
    sym (goes_on d a (b ∷ c ∷ []) one
    ∙ ap (λ l. a ∷ l) (goes_on d b (c ∷ []) two
    ∙ ap (λ l. b ∷ l) (goes_on d c [] last ∙ ap (λ l. c ∷ l) (sym (identifier_is d [])))))
whole_identifier d (a ∷ b ∷ c ∷ e ∷ more) some few one two last = absurd (omega (arith, few))

-- an identifier of two bytes, by the bytes up to its separator
pub of_two :
    (d : Delims) (bytes : List ℕ) → 4 ≤ length bytes
    → (slice_index_or bytes 0 0 ≡ d.element → ⊥) → (slice_index_or bytes 1 0 ≡ d.element → ⊥)
    → slice_index_or bytes 2 0 ≡ d.element
    → take 2 bytes ≡ element_of d bytes 0
of_two d [] some one two ends = absurd (omega (arith, some))
of_two d (a ∷ []) some one two ends = absurd (omega (arith, some))
of_two d (a ∷ b ∷ []) some one two ends = absurd (omega (arith, some))
of_two d (a ∷ b ∷ c ∷ more) some one two ends =
    sym (goes_on d a (b ∷ c ∷ more) one
    ∙ ap (λ l. a ∷ l) (goes_on d b (c ∷ more) two ∙ ap (λ l. b ∷ l) (ends_at d c more ends)))

-- and one of three
pub of_three :
    (d : Delims) (bytes : List ℕ) → 4 ≤ length bytes
    → (slice_index_or bytes 0 0 ≡ d.element → ⊥) → (slice_index_or bytes 1 0 ≡ d.element → ⊥)
    → (slice_index_or bytes 2 0 ≡ d.element → ⊥) → slice_index_or bytes 3 0 ≡ d.element
    → take 3 bytes ≡ element_of d bytes 0
of_three d [] some one two three ends = absurd (omega (arith, some))
of_three d (a ∷ []) some one two three ends = absurd (omega (arith, some))
of_three d (a ∷ b ∷ []) some one two three ends = absurd (omega (arith, some))
of_three d (a ∷ b ∷ c ∷ []) some one two three ends = absurd (omega (arith, some))
of_three d (a ∷ b ∷ c ∷ e ∷ more) some one two three ends =
    sym (goes_on d a (b ∷ c ∷ e ∷ more) one
    ∙ ap (λ l. a ∷ l) (goes_on d b (c ∷ e ∷ more) two
    ∙ ap (λ l. b ∷ l) (goes_on d c (e ∷ more) three ∙ ap (λ l. c ∷ l) (ends_at d e more ends))))

-- an element that isn't empty is counted
counted : (d : Delims) (part : List ℕ) (n : ℕ) → 0 < length (element_of d part n) → n ≤ count_of_elements d part
unfolding element_of count_of_elements
counted d part n some = elim (cases_Bool (leb n (length (elements_of d part) - 1))) [
  | inl few ↦ leb-true n (length (elements_of d part) - 1) few
  | inr past ↦
      let over = leb-false n (length (elements_of d part) - 1) past in
      let none : nth (elements_of d part) n ≡ [] = ap (λ (o : Option (List ℕ)). unwrap_or o []) (slice_get_past (elements_of d part) n (omega (arith, over))) in
      absurd (omega (arith, some, ap length none))
]

-- those that are left off are no more than the separators
counted_within : (d : Delims) (part : List ℕ) → count_of_elements d part + 1 ≤ length (slice_split (λ b. b == d.element) part)
unfolding count_of_elements elements_of trimmed_segment
counted_within d part =
    let p = λ (b : ℕ). b == d.element in
    let kept = length part - suffix_len p part in
    omega (arith, length-slice_split p (take kept part), length-slice_split p part, sum_by-take-le (λ b. cond (p b) 1 0) part kept)

-- where the eighth isn't empty, and none is behind it, they are eight
pub all_eight : (d : Delims) (part eighth : List ℕ) → eighth ≡ element_of d part 8 → 0 < length eighth → length (slice_split (λ b. b == d.element) part) ≤ 9 → count_of_elements d part ≡ 8
all_eight d part eighth is some few =
    let least = counted d part 8 (omega (arith, some, ap length is)) in
    omega (arith, least, few, counted_within d part)

unless_implied : (a b c : Bool) → (c ≡ true → a ≡ true) → (b && c) ≡ (a && b && c)
unless_implied true b c implied = refl
unless_implied false true true implied = absurd (let e = implied refl in cc)
unless_implied false true false implied = refl
unless_implied false false c implied = refl

-- an ST whose second element has its form has two elements
pub st_is_by_two : (d : Delims) (part : List ℕ) → (length (element_of d part 1) == 3 && text_has_length 4 9 (element_of d part 2)) ≡ segment_is_st d part
unfolding segment_is_st
st_is_by_two d part =
    let number = length (element_of d part 2) in
    unless_implied (nat_le 2 (count_of_elements d part)) (length (element_of d part 1) == 3) (text_has_length 4 9 (element_of d part 2))
    (λ fits. let long = leb-true 4 number (and_parts (nat_le 4 number) (nat_le number 9) fits).0 in
    le-leb 2 (count_of_elements d part) (counted d part 2 (omega (arith, long))))
