-- How many bytes written segments take.
use Rattle.std.proofs.Common.{◌≡◌, ◌≤◌, ◌<◌, ◌^◌, ℕ, ◌+◌, List, [], ◌∷◌, ◌++◌, length, flat_map, decimal, refl, ap, ◌∙◌, arith, length-append}
use Rattle.std.proofs.lemmas.Fmt.{length-decimal-le}
use Rattle.std.proofs.lemmas.List.Concat.{flat_map-append}
use Rattle.x12_envelopes.specs.declared.delimiters.Delims.{Delims}
use Rattle.x12_envelopes.specs.Segment.{Segment, segment_text, text_of}

-- elements, each with its separator or the terminator
abbrev pub sized : Segment → ℕ
sized [] = 0
sized (e ∷ es) = length e + 1 + sized es

elements_sized : (d : Delims) (es : Segment) → length (flat_map (λ e. d.element ∷ e) es) ≡ sized es
elements_sized d [] = refl
elements_sized d (e ∷ es) =
    length-append (d.element ∷ e) (flat_map (λ e. d.element ∷ e) es) ∙ omega (arith, elements_sized d es)

pub text_sized : (d : Delims) (e : List ℕ) (es : Segment) → length (segment_text d (e ∷ es)) ≡ sized (e ∷ es)
unfolding segment_text
text_sized d e es =
    length-append (e ++ flat_map (λ e. d.element ∷ e) es) (d.terminator ∷ [])
    ∙ omega (arith, length-append e (flat_map (λ e. d.element ∷ e) es), elements_sized d es)

some_text : (d : Delims) (s : Segment) → 1 ≤ length (segment_text d s)
unfolding segment_text
some_text d [] = omega arith
some_text d (e ∷ es) =
    let whole = length-append (e ++ flat_map (λ e. d.element ∷ e) es) (d.terminator ∷ []) in
    omega (arith, whole)

-- the size of segments
abbrev pub text_size : Delims → List Segment → ℕ
text_size d ss = length (text_of d ss)

pub size-cons : (d : Delims) (s : Segment) (ss : List Segment) → text_size d (s ∷ ss) ≡ length (segment_text d s) + text_size d ss
size-cons d s ss = length-append (segment_text d s) (text_of d ss)

pub size-append : (d : Delims) (ss ts : List Segment) → text_size d (ss ++ ts) ≡ text_size d ss + text_size d ts
size-append d ss ts = ap length (flat_map-append (segment_text d) ss ts) ∙ length-append (text_of d ss) (text_of d ts)

-- no more segments than bytes
pub segments_within : (d : Delims) (ss : List Segment) → length ss ≤ text_size d ss
segments_within d [] = omega arith
segments_within d (s ∷ ss) = omega (arith, size-cons d s ss, some_text d s, segments_within d ss)

-- one segment between others
pub size_between : (d : Delims) (first last : Segment) (ss : List Segment) → text_size d (first ∷ ss ++ last ∷ []) ≡ length (segment_text d first) + text_size d ss + length (segment_text d last)
size_between d first last ss =
    omega (arith, size-cons d first (ss ++ last ∷ []), size-append d ss (last ∷ []), size-cons d last [])

-- a number below 10^k in decimal
pub short_decimal : (k n : ℕ) → 0 < k → n < 10 ^ k → n < 2 ^ 32 → length (decimal n) ≤ k
short_decimal k n some below small = length-decimal-le k n some below (omega (arith, small))

pub nine_digits : (n : ℕ) → n ≤ 999999999 → length (decimal n) ≤ 9
nine_digits n below = short_decimal 9 n (omega arith) (omega (arith, below)) (omega (arith, below))
