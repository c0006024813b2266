-- The way to the trailer of an interchange, segment by segment.
use Rattle.std.proofs.Common.{◌≡◌, ℕ, ◌+◌, ◌<◌, true, false, Option, Some, None, option_map, List, [], ◌∷◌, length, refl, sym, ap, ◌∙◌, arith}
use Rattle.x12_envelopes.specs.declared.delimiters.Delims.{Delims}
use Rattle.x12_envelopes.specs.Segment.{behind_line_ends}
use Rattle.x12_envelopes.specs.Transmission.{segment_is_trailer, length_through_trailer}
use Rattle.x12_envelopes.proofs.CuttingLemmas.{pieces, pieces_more}

-- where a way goes on behind a place
abbrev pub from_place : ℕ → Option ℕ → Option ℕ
from_place place way = option_map (λ n. place + n) way

ends_here : (d : Delims) (piece : List ℕ) (more : List (List ℕ)) → 0 < length more → segment_is_trailer d (behind_line_ends piece) ≡ true → length_through_trailer d (piece ∷ more) ≡ Some (length piece + 1)
unfolding length_through_trailer
ends_here d piece [] some is = absurd (omega arith)
ends_here d piece (next ∷ more) some is = rw is refl

pub goes_on : (d : Delims) (piece : List ℕ) (more : List (List ℕ)) → 0 < length more → segment_is_trailer d (behind_line_ends piece) ≡ false → length_through_trailer d (piece ∷ more) ≡ option_map (λ n. length piece + 1 + n) (length_through_trailer d more)
unfolding length_through_trailer
goes_on d piece [] some is = absurd (omega arith)
goes_on d piece (next ∷ more) some is = rw is refl

pub behind_place : (place n : ℕ) (way : Option ℕ) → from_place place (option_map (λ k. n + k) way) ≡ from_place (place + n) way
behind_place place n None = refl
behind_place place n (Some k) = ap Some (omega arith)

-- a trailer, and any other segment
pub at_trailer : (d : Delims) (bytes piece behind part : List ℕ) (place at : ℕ) → pieces d bytes ≡ piece ∷ pieces d behind → part ≡ behind_line_ends piece → true ≡ segment_is_trailer d part → at ≡ place + length piece + 1 → from_place place (length_through_trailer d (pieces d bytes)) ≡ Some at
at_trailer d bytes piece behind part place at cut is_part is is_at =
    rw (cut, ends_here d piece (pieces d behind) (pieces_more d behind) (ap (segment_is_trailer d) (sym is_part) ∙ sym is)) (ap Some (omega (arith, is_at)))

pub past_segment : (d : Delims) (bytes piece behind part : List ℕ) (place at : ℕ) → pieces d bytes ≡ piece ∷ pieces d behind → part ≡ behind_line_ends piece → false ≡ segment_is_trailer d part → at ≡ place + length piece + 1 → from_place place (length_through_trailer d (pieces d bytes)) ≡ from_place at (length_through_trailer d (pieces d behind))
past_segment d bytes piece behind part place at cut is_part is is_at =
    rw (cut, goes_on d piece (pieces d behind) (pieces_more d behind) (ap (segment_is_trailer d) (sym is_part) ∙ sym is))
    (behind_place place (length piece + 1) (length_through_trailer d (pieces d behind)) ∙ ap (λ k. from_place k (length_through_trailer d (pieces d behind))) (omega (arith, is_at)))

pub no_trailer : (d : Delims) (bytes : List ℕ) (place : ℕ) → pieces d bytes ≡ bytes ∷ [] → from_place place (length_through_trailer d (pieces d bytes)) ≡ None
unfolding length_through_trailer
no_trailer d bytes place cut = rw cut refl
