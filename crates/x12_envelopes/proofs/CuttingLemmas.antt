-- Cutting bytes at their first terminator.
use Rattle.std.proofs.Common.{◌≡◌, ℕ, ◌+◌, ◌-◌, ◌<◌, ◌≤◌, true, false, ◌==◌, List, [], ◌∷◌, ◌++◌, length, get_or, take, drop, refl, sym, ap, ap₂, ◌∙◌, arith}
use Rattle.std.specs.List.{slice_split, All, position_or_len}
use Rattle.std.proofs.lemmas.Bool.{eqb-true, eq-eqb, ne_eqb}
use Rattle.std.proofs.lemmas.List.{length-append, take-append-drop, drop_more, get_or-take, get_or_default, take_all, drop-drop, length-take-le}
use Rattle.std.proofs.lemmas.List.Sums.{count_by-le-length, fails_before_first, passes_at_first}
use Rattle.std.proofs.lemmas.List.Splits.{slice_split_at, slice_split_none, length-slice_split}
use Rattle.memchr.specs.Find.{Nowhere, NoneBefore, Passes, is_byte}
use Rattle.x12_envelopes.specs.declared.delimiters.Delims.{Delims}
use Rattle.x12_envelopes.specs.Reading.{IsCut}
use Rattle.x12_envelopes.specs.Segment.{behind_line_ends, ended_pieces, parts_of}
use Rattle.x12_numbers.proofs.Shelf.{never_both}

-- bytes cut at the terminators
abbrev pub pieces : Delims → List ℕ → List (List ℕ)
pieces d bytes = slice_split (λ b. b == d.terminator) bytes

all_before : (t : ℕ) (bytes : List ℕ) (k : ℕ) → k ≤ length bytes → Nowhere (Passes (is_byte t) bytes) 0 k → All (λ b. (b == t) ≡ false) (take k bytes)
all_before t bytes k fits none j d inside =
    let within : j < k = omega (arith, length-take-le k bytes fits) in
    let is = get_or-take k bytes j d within ∙ get_or_default bytes j d 0 (omega arith) in
    rw is (ne_eqb (get_or bytes j 0) t (λ same. none j (omega arith) within (eq-eqb _ t same)))

pub cut_at : (t : ℕ) (bytes front ended behind : List ℕ) (k : ℕ) → NoneBefore (Passes (is_byte t) bytes) 0 (length bytes) k → Passes (is_byte t) bytes k → front ≡ take k bytes → ended ≡ drop k bytes → behind ≡ drop 1 ended → IsCut t bytes front behind
cut_at t bytes front ended behind k before passes is_front is_ended is_behind =
    let within : k < length bytes = omega (arith, before.high) in
    let behind_is : behind ≡ drop (k + 1) bytes = is_behind ∙ ap (drop 1) is_ended ∙ drop-drop 1 k bytes in
    let at : get_or bytes k 0 ≡ t = eqb-true _ t passes in
    record {
      clean = rw is_front (all_before t bytes k (omega arith) before.before);
      whole = sym (take-append-drop k bytes) ∙ ap₂ ◌++◌ (sym is_front) (drop_more bytes k 0 within ∙ ap₂ ◌∷◌ at (sym behind_is));
    }

-- the same, where the first one was found among the first m bytes
pub cut_near : (t : ℕ) (bytes near front ended behind : List ℕ) (m k : ℕ) → near ≡ take m bytes → m ≤ length bytes → k ≡ position_or_len (λ b. b == t) near → k < length near → front ≡ take k bytes → ended ≡ drop k bytes → behind ≡ drop 1 ended → IsCut t bytes front behind
cut_near t bytes near front ended behind m k is_near fits count within is_front is_ended is_behind =
    let size : length near ≡ m = ap length is_near ∙ length-take-le m bytes fits in
    let same : (j : ℕ) → j < length near → get_or near j 0 ≡ get_or bytes j 0 = λ j low. ap (λ (l : List ℕ). get_or l j 0) is_near ∙ get_or-take m bytes j 0 (omega (arith, low, size)) in
    let none : Nowhere (Passes (is_byte t) bytes) 0 k = λ j low high passes. absurd (never_both (get_or bytes j 0 == t) passes (ap (λ n. n == t) (sym (same j (omega (arith, high, within)))) ∙ fails_before_first (λ b. b == t) near j 0 (omega (arith, high, count)))) in
    let at : (get_or bytes k 0 == t) ≡ true = ap (λ n. n == t) (sym (same k within)) ∙ ap (λ n. get_or near n 0 == t) count ∙ passes_at_first (λ b. b == t) near 0 (omega (arith, count, within)) in
    cut_at t bytes front ended behind k (record { low = omega arith; high = omega (arith, within, size, fits); before = none }) at is_front is_ended is_behind

pub cut_split : (t : ℕ) (bytes front behind : List ℕ) → IsCut t bytes front behind → slice_split (λ b. b == t) bytes ≡ front ∷ slice_split (λ b. b == t) behind
cut_split t bytes front behind cut =
    ap (slice_split (λ b. b == t)) cut.whole ∙ slice_split_at (λ b. b == t) front t behind cut.clean (eq-eqb t t refl)

pub uncut : (t : ℕ) (bytes : List ℕ) → Nowhere (Passes (is_byte t) bytes) 0 (length bytes) → slice_split (λ b. b == t) bytes ≡ bytes ∷ []
uncut t bytes none =
    slice_split_none (λ b. b == t) bytes (rw (take_all (length bytes) bytes (omega arith)) at (all_before t bytes (length bytes) (omega arith) none))

pub pieces_more : (d : Delims) (bytes : List ℕ) → 0 < length (pieces d bytes)
pieces_more d bytes = omega (arith, length-slice_split (λ b. b == d.terminator) bytes)

pub ended_more : (piece : List ℕ) (more : List (List ℕ)) → 0 < length more → ended_pieces (piece ∷ more) ≡ behind_line_ends piece ∷ ended_pieces more
ended_more piece [] some = absurd (omega arith)
ended_more piece (next ∷ more) some = refl

length-ended : (xs : List (List ℕ)) → length (ended_pieces xs) ≡ length xs - 1
length-ended [] = refl
length-ended (piece ∷ []) = refl
length-ended (piece ∷ next ∷ more) = omega (arith, length-ended (next ∷ more))

pub length-parts_of : (d : Delims) (bytes : List ℕ) → length (parts_of d bytes) ≤ length bytes
unfolding parts_of
length-parts_of d bytes =
    omega (arith, length-ended (pieces d bytes), length-slice_split (λ b. b == d.terminator) bytes, count_by-le-length (λ b. b == d.terminator) bytes)

-- the first segment of bytes, by one search
pub parts_of_cut : (d : Delims) (bytes piece behind : List ℕ) → IsCut d.terminator bytes piece behind → parts_of d bytes ≡ behind_line_ends piece ∷ parts_of d behind
unfolding parts_of
parts_of_cut d bytes piece behind cut =
    ap ended_pieces (cut_split d.terminator bytes piece behind cut) ∙ ended_more piece (pieces d behind) (pieces_more d behind)

pub parts_of_none : (d : Delims) (bytes : List ℕ) → pieces d bytes ≡ bytes ∷ [] → parts_of d bytes ≡ []
unfolding parts_of
parts_of_none d bytes cut = ap ended_pieces cut

-- what stands behind the terminator is shorter
pub cut_shorter : (t : ℕ) (bytes front behind : List ℕ) → IsCut t bytes front behind → length behind < length bytes
cut_shorter t bytes front behind cut =
    let whole : length bytes ≡ length front + (1 + length behind) = ap length cut.whole ∙ length-append front (t ∷ behind) ∙ ap (λ n. length front + n) (omega arith) in
    omega arith
