-- ISA's elements hold no barred byte just where there are as many between the separators as separators.
use Rattle.std.proofs.Common.{◌≡◌, ◌≤◌, ◌<◌, ℕ, ◌+◌, ◌-◌, Bool, true, false, not, ◌&&◌, ◌==◌, List, [], ◌∷◌, length, take, slice_index, slice_range, cond, refl, sym, ap, ◌∙◌, arith, inl, inr, codes, bytes_eq}
use Rattle.std.proofs.Math.Seq.{take-add}
use Rattle.std.specs.List.{count_by, sum_by, list_all, list_any}
use Rattle.std.proofs.lemmas.Bool.{cases_Bool, and_parts, eqb-true, ne_eqb}
use Rattle.std.proofs.lemmas.List.Sums.{count_by_more_yes, sum_by-append, sum_by-cons}
use Rattle.x12_envelopes.specs.Header.{IsaElement, isa_elements, isa_text, is_barred, delimiters_of, header_is_isa}

-- each element stands one byte behind the end of the one before it, the last up to 103
abbrev adjoin : ℕ → List IsaElement → Bool
adjoin from [] = from == 103
adjoin from (e ∷ es) = e.offset == from + 1 && adjoin (e.offset + e.size) es

-- how many bytes of the elements pass
abbrev within : (ℕ → Bool) → List ℕ → List IsaElement → ℕ
within p bytes es = sum_by (λ e. count_by p (isa_text bytes e)) es

-- how many bytes pass up to a place: those up to an earlier one, and those between
count_between : (p : ℕ → Bool) (xs : List ℕ) (a b : ℕ) → a ≤ b → count_by p (take b xs) ≡ count_by p (take a xs) + count_by p (slice_range xs a b)
count_between p xs a b low =
    let whole : a + (b - a) ≡ b = omega (arith, low) in
    ap (λ n. count_by p (take n xs)) (sym whole)
    ∙ ap (count_by p) (take-add a (b - a) xs)
    ∙ sum_by-append (λ x. cond (p x) 1 0) (take a xs) (slice_range xs a b)

ends_before : (from : ℕ) (es : List IsaElement) → adjoin from es ≡ true → from ≤ 103
ends_before from [] end = omega (arith, eqb-true from 103 end)
ends_before from (e ∷ es) ends =
    let parts = and_parts (e.offset == from + 1) (adjoin (e.offset + e.size) es) ends in
    omega (arith, eqb-true e.offset (from + 1) parts.0, ends_before (e.offset + e.size) es parts.1)

-- with a byte that passes in front of each element
counted : (p : ℕ → Bool) (bytes : List ℕ) (from : ℕ) (es : List IsaElement) → adjoin from es ≡ true → 103 ≤ length bytes → list_all (λ e. p (slice_index bytes (e.offset - 1))) es ≡ true → count_by p (take 103 bytes) ≡ count_by p (take from bytes) + (length es + within p bytes es)
counted p bytes from [] end fits fronts = ap (λ n. count_by p (take n bytes)) (sym (eqb-true from 103 end)) ∙ omega arith
counted p bytes from (e ∷ es) ends fits fronts =
    let parts = and_parts (e.offset == from + 1) (adjoin (e.offset + e.size) es) ends in
    let begins = eqb-true e.offset (from + 1) parts.0 in
    let front = and_parts (p (slice_index bytes (e.offset - 1))) (list_all (λ x. p (slice_index bytes (x.offset - 1))) es) fronts in
    let high = ends_before (e.offset + e.size) es parts.1 in
    let place : e.offset - 1 ≡ from = omega (arith, begins) in
    let one = count_by_more_yes p bytes from 0 (omega (arith, begins, high, fits)) (ap (λ n. p (slice_index bytes n)) (sym place) ∙ front.0) in
    let own = count_between p bytes (from + 1) (e.offset + e.size) (omega (arith, begins)) in
    let text = ap (λ n. count_by p (slice_range bytes n (e.offset + e.size))) (sym begins) in
    let sum = sum_by-cons (λ x. count_by p (isa_text bytes x)) e es in
    omega (arith, counted p bytes (e.offset + e.size) es parts.1 fits front.1, one, own, text, sum)

abbrev small : Bool → ℕ
small b = cond b 1 0

none_counted : (p : ℕ → Bool) (xs : List ℕ) → list_any p xs ≡ false → count_by p xs ≡ 0
none_counted p [] none = refl
none_counted p (x ∷ xs) none = elim (cases_Bool (p x)) [
  | inl is ↦
      let bad : true ≡ false = rw is at none in
      absurd (cc)
  | inr not_it ↦
      let rest : list_any p xs ≡ false = rw not_it at none in
      omega (arith, sum_by-cons (λ b. small (p b)) x xs, ap small not_it, none_counted p xs rest)
]

some_counted : (p : ℕ → Bool) (xs : List ℕ) → list_any p xs ≡ true → 0 < count_by p xs
some_counted p [] some = cc
some_counted p (x ∷ xs) some = elim (cases_Bool (p x)) [
  | inl is ↦ omega (arith, sum_by-cons (λ b. small (p b)) x xs, ap small is)
  | inr not_it ↦
      let rest : list_any p xs ≡ true = rw not_it at some in
      omega (arith, sum_by-cons (λ b. small (p b)) x xs, some_counted p xs rest)
]

-- whether no byte of the elements passes
abbrev free : (ℕ → Bool) → List ℕ → List IsaElement → Bool
free p bytes es = list_all (λ e. not (list_any p (isa_text bytes e))) es

none_within : (p : ℕ → Bool) (bytes : List ℕ) (es : List IsaElement) → free p bytes es ≡ true → within p bytes es ≡ 0
none_within p bytes [] none = refl
none_within p bytes (e ∷ es) none = elim (cases_Bool (list_any p (isa_text bytes e))) [
  | inl some ↦
      let bad : false ≡ true = rw some at none in
      absurd (cc)
  | inr clean ↦
      let rest : free p bytes es ≡ true = rw clean at none in
      omega (arith, sum_by-cons (λ x. count_by p (isa_text bytes x)) e es, none_counted p (isa_text bytes e) clean, none_within p bytes es rest)
]

some_within : (p : ℕ → Bool) (bytes : List ℕ) (es : List IsaElement) → free p bytes es ≡ false → 0 < within p bytes es
some_within p bytes [] some = cc
some_within p bytes (e ∷ es) some = elim (cases_Bool (list_any p (isa_text bytes e))) [
  | inl one ↦ omega (arith, sum_by-cons (λ x. count_by p (isa_text bytes x)) e es, some_counted p (isa_text bytes e) one)
  | inr clean ↦
      let rest : free p bytes es ≡ false = rw clean at some in
      omega (arith, sum_by-cons (λ x. count_by p (isa_text bytes x)) e es, some_within p bytes es rest)
]

-- where a byte that passes stands in front of each element, no other does just where there are fifteen
pub free_by_count : (p : ℕ → Bool) (bytes : List ℕ) → 106 ≤ length bytes → list_all (λ e. p (slice_index bytes (e.offset - 1))) isa_elements ≡ true → (count_by p (slice_range bytes 3 103) == 15) ≡ list_all (λ e. not (list_any p (isa_text bytes e))) isa_elements
free_by_count p bytes fits fronts =
    let all = counted p bytes 3 isa_elements refl (omega (arith, fits)) fronts in
    let between = count_between p bytes 3 103 (omega arith) in
    let total : count_by p (slice_range bytes 3 103) ≡ 15 + within p bytes isa_elements = omega (arith, all, between) in
    elim (cases_Bool (free p bytes isa_elements)) [
      | inl none ↦
          let count : count_by p (slice_range bytes 3 103) ≡ 15 = omega (arith, total, none_within p bytes isa_elements none) in
          ap (λ n. n == 15) count ∙ sym none
      | inr some ↦
          ne_eqb (count_by p (slice_range bytes 3 103)) 15 (λ same. omega (arith, same, total, some_within p bytes isa_elements some)) ∙ sym some
    ]

all_so : (p q : IsaElement → Bool) (es : List IsaElement) → ((e : IsaElement) → p e ≡ true → q e ≡ true) → list_all p es ≡ true → list_all q es ≡ true
all_so p q [] so all = refl
all_so p q (e ∷ es) so all =
    let parts = and_parts (p e) (list_all p es) all in
    rw (so e parts.0, all_so p q es so parts.1) refl

-- the separators in front of the elements of a header are barred bytes
pub separators_are_barred : (bytes : List ℕ) → header_is_isa bytes ≡ true → list_all (λ e. is_barred (delimiters_of bytes) (slice_index bytes (e.offset - 1))) isa_elements ≡ true
unfolding header_is_isa
separators_are_barred bytes isa =
    let outer = and_parts (bytes_eq (take 3 bytes) (codes "ISA") && list_all (λ e. slice_index bytes (e.offset - 1) == slice_index bytes 3) isa_elements) (slice_index bytes 103 == slice_index bytes 3) isa in
    let inner = and_parts (bytes_eq (take 3 bytes) (codes "ISA")) (list_all (λ e. slice_index bytes (e.offset - 1) == slice_index bytes 3) isa_elements) outer.0 in
    all_so (λ e. slice_index bytes (e.offset - 1) == slice_index bytes 3) (λ e. is_barred (delimiters_of bytes) (slice_index bytes (e.offset - 1))) isa_elements (λ e same. rw same refl) inner.1
