-- The bytes of a written segment, read again.
use Rattle.std.proofs.Common.{◌≡◌, ℕ, ◌-◌, Bool, true, false, not, ◌&&◌, ◌==◌, List, [], ◌∷◌, ◌++◌, length, refl, sym, ap, ap₂, ◌∙◌, arith, append_assoc}
use Rattle.std.specs.List.{list_all, slice_split, suffix_len, All}
use Rattle.std.proofs.lemmas.Bool.{eq-eqb, and_parts, not-true}
use Rattle.std.proofs.lemmas.List.{append-nil, take_all, reverse-append}
use Rattle.std.proofs.lemmas.List.Folds.{list_all-append}
use Rattle.std.proofs.lemmas.List.Sums.{AllPass-from_list_all}
use Rattle.std.proofs.lemmas.List.Splits.{slice_split_at, slice_split_none}
use Rattle.x12_envelopes.specs.declared.delimiters.Delims.{Delims}
use Rattle.x12_envelopes.specs.Segment.{Segment, segment_text, trimmed_segment, elements_of}
use Rattle.x12_envelopes.specs.Fitting.{byte_is_writable, element_is_writable, is_filled, segment_ends_filled, segment_is_writable, joined}

-- one segment in front of the last
pub joined_more : (d : Delims) (e f : List ℕ) (more : Segment) → joined d (e ∷ f ∷ more) ≡ e ++ d.element ∷ joined d (f ∷ more)
unfolding joined
joined_more d e f more = refl

pub text_is : (d : Delims) (e : List ℕ) (es : Segment) → segment_text d (e ∷ es) ≡ joined d (e ∷ es) ++ d.terminator ∷ []
unfolding joined segment_text
text_is d e es = refl

-- what holds of each byte that an element may hold, and of the separator, holds of each byte
all_of : (d : Delims) (q : ℕ → Bool) → ((b : ℕ) → byte_is_writable d b ≡ true → q b ≡ true) → (bytes : List ℕ) → list_all (byte_is_writable d) bytes ≡ true → list_all q bytes ≡ true
all_of d q each [] held = refl
all_of d q each (b ∷ bytes) held =
    let h = and_parts (byte_is_writable d b) (list_all (byte_is_writable d) bytes) held in
    rw (each b h.0) (all_of d q each bytes h.1)

pub all_joined : (d : Delims) (q : ℕ → Bool) → q d.element ≡ true → ((b : ℕ) → byte_is_writable d b ≡ true → q b ≡ true) → (s : Segment) → list_all (element_is_writable d) s ≡ true → list_all q (joined d s) ≡ true
unfolding element_is_writable joined
all_joined d q parted each [] held = refl
all_joined d q parted each (e ∷ []) held =
    let h = and_parts (list_all (byte_is_writable d) e) true held in
    rw (append-nil e) (all_of d q each e h.0)
all_joined d q parted each (e ∷ f ∷ more) held =
    let h = and_parts (list_all (byte_is_writable d) e) (list_all (element_is_writable d) (f ∷ more)) held in
    list_all-append q e (d.element ∷ joined d (f ∷ more))
    ∙ ap₂ (λ x y. x && y) (all_of d q each e h.0) (ap₂ (λ x y. x && y) parted (all_joined d q parted each (f ∷ more) h.1))

-- a test that holds of no byte
pub none : (q : ℕ → Bool) (bytes : List ℕ) → list_all (λ b. not (q b)) bytes ≡ true → All (λ b. q b ≡ false) bytes
none q bytes held = λ k d within. not-true _ (AllPass-from_list_all (λ b. not (q b)) bytes held k d within)

-- bytes that end in a byte of which the test doesn't hold
record Ends (p : ℕ → Bool) (bytes : List ℕ) : Type 0 where
  front : List ℕ
  last : ℕ
  is : bytes ≡ front ++ last ∷ []
  passes_not : p last ≡ false

not_separator : (d : Delims) (b : ℕ) → byte_is_writable d b ≡ true → (b == d.element) ≡ false
not_separator d b held = not-true _ (and_parts _ _ (and_parts _ _ held).0).0

ends_element : (d : Delims) (e : List ℕ) → list_all (byte_is_writable d) e ≡ true → is_filled e ≡ true → Ends (λ b. b == d.element) e
ends_element d [] held some = absurd cc
ends_element d (b ∷ []) held some = record { front = []; last = b; is = refl; passes_not = not_separator d b (and_parts _ _ held).0 }
ends_element d (b ∷ c ∷ more) held some =
    let r = ends_element d (c ∷ more) (and_parts _ _ held).1 refl in
    record { front = b ∷ r.front; last = r.last; is = ap (λ xs. b ∷ xs) r.is; passes_not = r.passes_not }

ends_joined : (d : Delims) (s : Segment) → list_all (element_is_writable d) s ≡ true → segment_ends_filled s ≡ true → Ends (λ b. b == d.element) (joined d s)
unfolding element_is_writable joined
ends_joined d [] held filled = absurd cc
ends_joined d (e ∷ []) held filled =
    let r = ends_element d e (and_parts _ _ held).0 filled in
    record { front = r.front; last = r.last; is = append-nil e ∙ r.is; passes_not = r.passes_not }
ends_joined d (e ∷ f ∷ more) held filled =
    let r = ends_joined d (f ∷ more) (and_parts _ _ held).1 filled in
    record {
      front = e ++ d.element ∷ r.front;
      last = r.last;
      is = ap (λ xs. e ++ d.element ∷ xs) r.is ∙ sym (append_assoc e (d.element ∷ r.front) (r.last ∷ []));
      passes_not = r.passes_not;
    }

suffix_ends : (p : ℕ → Bool) (bytes : List ℕ) → Ends p bytes → suffix_len p bytes ≡ 0
suffix_ends p bytes r = rw r.is (rw (reverse-append r.front (r.last ∷ [])) (rw r.passes_not refl))

pub suffix_joined : (d : Delims) (s : Segment) → segment_is_writable d s ≡ true → suffix_len (λ b. b == d.element) (joined d s) ≡ 0
unfolding segment_is_writable
suffix_joined d s held =
    let h = and_parts _ _ held in
    suffix_ends (λ b. b == d.element) (joined d s) (ends_joined d s h.0 h.1)

trimmed_joined : (d : Delims) (s : Segment) → segment_is_writable d s ≡ true → trimmed_segment d (joined d s) ≡ joined d s
unfolding trimmed_segment segment_is_writable
trimmed_joined d s held =
    let h = and_parts _ _ held in
    rw (suffix_ends (λ b. b == d.element) (joined d s) (ends_joined d s h.0 h.1)) (take_all (length (joined d s) - 0) (joined d s) (omega arith))

pub split_joined : (d : Delims) (e : List ℕ) (es : Segment) → list_all (element_is_writable d) (e ∷ es) ≡ true → slice_split (λ b. b == d.element) (joined d (e ∷ es)) ≡ e ∷ es
unfolding element_is_writable joined
split_joined d e [] held =
    rw (append-nil e) (slice_split_none (λ b. b == d.element) e (none (λ b. b == d.element) e (all_of d (λ b. not (b == d.element)) (λ b w. rw (not_separator d b w) refl) e (and_parts _ _ held).0)))
split_joined d e (f ∷ more) held =
    slice_split_at (λ b. b == d.element) e d.element (joined d (f ∷ more)) (none (λ b. b == d.element) e (all_of d (λ b. not (b == d.element)) (λ b w. rw (not_separator d b w) refl) e (and_parts _ _ held).0)) (eq-eqb d.element d.element refl)
    ∙ ap (λ xs. e ∷ xs) (split_joined d f more (and_parts _ _ held).1)

pub elements_joined : (d : Delims) (s : Segment) → segment_is_writable d s ≡ true → elements_of d (joined d s) ≡ s
unfolding elements_of segment_is_writable
elements_joined d [] held = absurd cc
elements_joined d (e ∷ es) held =
    ap (slice_split (λ b. b == d.element)) (trimmed_joined d (e ∷ es) held) ∙ split_joined d e es (and_parts _ _ held).0
