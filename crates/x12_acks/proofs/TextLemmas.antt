-- The written text of segments is at least as long as there are segments.
use Rattle.std.proofs.Common.{◌≡◌, ℕ, ◌+◌, ◌<◌, ◌≤◌, List, [], ◌∷◌, ◌++◌, length, ap, arith}
use Rattle.std.proofs.lemmas.List.{length-append}
use Rattle.x12_envelopes.specs.declared.delimiters.Delims.{Delims}
use Rattle.x12_envelopes.specs.Segment.{Segment, segment_text, text_of}
use Rattle.x12_envelopes.proofs.OutlineBackLemmas.{few_segments}

-- a segment's text has its terminator
some_text : (d : Delims) (s : Segment) → 0 < length (segment_text d s)
unfolding segment_text
some_text d [] = omega arith
some_text d (identifier ∷ elements) = grind (arith, length-append {A = ℕ})

-- a text that grew by segments grew by at least one byte for each
pub grows : (d : Delims) (ss : List Segment) (old new : List ℕ) (n : ℕ)
    → new ≡ old ++ text_of d ss → n ≡ length ss → length old + n ≤ length new
grows d ss old new n e k =
    omega (arith, ap length e, length-append old (text_of d ss), few_segments d ss, k)

pub grew : (d : Delims) (s : Segment) (old new : List ℕ) → new ≡ old ++ segment_text d s → length old < length new
grew d s old new e = omega (arith, ap length e, length-append old (segment_text d s), some_text d s)
