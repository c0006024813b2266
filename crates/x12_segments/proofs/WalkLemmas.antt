-- Lemmas on going over the segments of an interchange.
use Rattle.std.proofs.Common.{◌≡◌, ℕ, ◌<◌, ◌==◌, true, false, List, [], ◌∷◌, length, Option, Some, None, IfSome, OnSome, refl, sym, ap, ◌∙◌, arith}
use Rattle.std.specs.List.{slice_split}
use Rattle.std.proofs.lemmas.Bool.{eqb-true}
use Rattle.std.proofs.lemmas.List.Splits.{length-slice_split}
use Rattle.x12_envelopes.specs.Reading.{IsCut}
use Rattle.x12_envelopes.specs.Segment.{behind_line_ends}
use Rattle.x12_envelopes.proofs.CuttingLemmas.{cut_split}
use Rattle.x12_segments.specs.declared.walk.Placed.{Placed}
use Rattle.x12_segments.specs.declared.walk.Walk.{Walk}
use Rattle.x12_segments.specs.Walk.{if_any, shown_pieces, segments_shown, segments_to_show}

-- a segment more
pub shown_on : (t : ℕ) (bytes piece behind : List ℕ) → IsCut t bytes piece behind → segments_shown t bytes ≡ behind_line_ends piece ∷ segments_shown t behind
unfolding segments_shown
shown_on t bytes piece behind cut =
    let some : 0 < length (slice_split (λ b. b == t) behind) = omega (arith, length-slice_split (λ b. b == t) behind) in
    ap shown_pieces (cut_split t bytes piece behind cut) ∙ more piece (slice_split (λ b. b == t) behind) some
  where
    more : (piece : List ℕ) (ps : List (List ℕ)) → 0 < length ps → shown_pieces (piece ∷ ps) ≡ behind_line_ends piece ∷ shown_pieces ps
    more piece [] some = absurd (omega (arith, some))
    more piece (p ∷ ps) some = refl

-- the last one, if any
pub shown_last : (t : ℕ) (bytes : List ℕ) → slice_split (λ b. b == t) bytes ≡ bytes ∷ [] → segments_shown t bytes ≡ if_any (behind_line_ends bytes)
unfolding segments_shown
shown_last t bytes is = ap shown_pieces is

pub last_some : (bytes : List ℕ) → (length bytes == 0) ≡ false → if_any bytes ≡ bytes ∷ []
last_some [] is = absurd (let no : ⊥ = cc in no)
last_some (b ∷ bytes) is = refl

pub last_none : (bytes : List ℕ) → (length bytes == 0) ≡ true → if_any bytes ≡ []
last_none [] is = refl
last_none (b ∷ bytes) is =
    let none : length (b ∷ bytes) ≡ 0 = eqb-true (length (b ∷ bytes)) 0 is in
    absurd (omega (arith, none))

pub shown_nothing : (t : ℕ) → segments_shown t [] ≡ []
unfolding segments_shown
shown_nothing t = refl

pub some_left : (bytes : List ℕ) → (length (behind_line_ends bytes) == 0) ≡ false → 0 < length bytes
some_left [] is = absurd (let no : ⊥ = cc in no)
some_left (b ∷ bytes) is = omega arith

-- a step of a walk, at a terminator and behind the last one
pub stepped : (old new : Walk) (piece behind bytes : List ℕ) → IsCut old.delims.terminator old.rest.now piece behind → bytes ≡ behind_line_ends piece →
    new.rest.now ≡ behind → new.delims ≡ old.delims → segments_to_show old ≡ bytes ∷ segments_to_show new
stepped old new piece behind bytes cut is rest same =
    shown_on old.delims.terminator old.rest.now piece behind cut ∙ rw (is, rest, same) refl

pub ended : (old new : Walk) (result : Option Placed) → IfSome result (λ p. segments_to_show old ≡ p.bytes.now ∷ []) → new.rest.now ≡ [] →
    IfSome result (λ p. segments_to_show old ≡ p.bytes.now ∷ segments_to_show new)
ended old new None held none = tt
ended old new (Some p) held none =
    let nothing : segments_to_show new ≡ [] = rw none (shown_nothing new.delims.terminator) in
    held ∙ ap (λ xs. p.bytes.now ∷ xs) (sym nothing)

pub shorter_at_last : (result : Option Placed) (old new : List ℕ) → OnSome result (0 < length old) → new ≡ [] → OnSome result (length new < length old)
shorter_at_last None old new some none = tt
shorter_at_last (Some p) old new some none = rw none some
