-- Each piece of evidence raises one count by one.
use Rattle.std.proofs.Common.{◌≡◌, ℕ, ◌+◌, ◌-◌, ◌<◌, ◌≤◌, ◌^◌, ◌∙◌, List, [], ◌∷◌, length, min, ap, arith, refl}
use Rattle.std.proofs.lemmas.List.{length-map}
use Rattle.x12_outbound.specs.Piece.{Finding, Settles, Repeats, Conflicts, Unmatched, PlannedPiece}
use Rattle.x12_outbound.specs.declared.evidence.Counts.{Counts}
use Rattle.x12_outbound.specs.Counts.{with_piece, with_pieces, only_unclear, evidence_counted, counts_of_both, AreCounts, CountsAddUp}
use Rattle.x12_outbound.specs.Plan.{findings_in}

one_counted : (c : Counts) (f : Finding) → evidence_counted c + 1 < 2 ^ 64 → evidence_counted (with_piece c f) ≡ evidence_counted c + 1
unfolding with_piece
one_counted c Settles few = omega arith
one_counted c Repeats few = omega arith
one_counted c Conflicts few = omega arith
one_counted c Unmatched few = omega arith

each_counted : (c : Counts) (fs : List Finding) → evidence_counted c + length fs < 2 ^ 64 → evidence_counted (with_pieces c fs) ≡ evidence_counted c + length fs
unfolding with_pieces
each_counted c [] few = omega arith
each_counted c (f ∷ fs) few =
    let one : evidence_counted (with_piece c f) ≡ evidence_counted c + 1 = one_counted c f (omega arith) in
    omega (arith, one, each_counted (with_piece c f) fs (omega (arith, one)))

-- from nothing on, all pieces are counted
pub all_counted : (unclear : ℕ) (pieces : List PlannedPiece) → length pieces < 2 ^ 64 → evidence_counted (with_pieces (only_unclear unclear) (findings_in pieces)) ≡ length pieces
unfolding only_unclear
all_counted unclear pieces few =
    let same : length (findings_in pieces) ≡ length pieces = length-map pieces (λ p. p.finding) in
    omega (arith, same, each_counted (only_unclear unclear) (findings_in pieces) (omega (arith, same)))

-- Counts add up.

step : (c d : ℕ) → min (c + min (d + 1) (2 ^ 64 - 1)) (2 ^ 64 - 1) ≡ min (min (c + d) (2 ^ 64 - 1) + 1) (2 ^ 64 - 1)
step c d = omega arith

one_more : (c d : Counts) (f : Finding) → counts_of_both c (with_piece d f) ≡ with_piece (counts_of_both c d) f
unfolding with_piece counts_of_both
one_more c d Settles = ap (λ n. record (counts_of_both c d) { settled = n }) (step c.settled d.settled)
one_more c d Repeats = ap (λ n. record (counts_of_both c d) { repeated = n }) (step c.repeated d.repeated)
one_more c d Conflicts = ap (λ n. record (counts_of_both c d) { conflicting = n }) (step c.conflicting d.conflicting)
one_more c d Unmatched = ap (λ n. record (counts_of_both c d) { unmatched = n }) (step c.unmatched d.unmatched)

more : (c d : Counts) (fs : List Finding) → counts_of_both c (with_pieces d fs) ≡ with_pieces (counts_of_both c d) fs
unfolding with_pieces
more c d [] = refl
more c d (f ∷ fs) = more c (with_piece d f) fs ∙ ap (λ e. with_pieces e fs) (one_more c d f)

no_more : (n : ℕ) → n ≤ 2 ^ 64 - 1 → min (n + 0) (2 ^ 64 - 1) ≡ n
no_more n few = omega arith

from_none : (c : Counts) (unclear : ℕ) → AreCounts c → counts_of_both c (only_unclear unclear) ≡ record c { unclear = min (c.unclear + unclear) (2 ^ 64 - 1) }
unfolding only_unclear counts_of_both
from_none c unclear are = rw (no_more c.settled are.settled, no_more c.repeated are.repeated, no_more c.unmatched are.unmatched, no_more c.conflicting are.conflicting) refl

pub they_add_up : CountsAddUp
they_add_up c unclear fs are = more c (only_unclear unclear) fs ∙ ap (λ d. with_pieces d fs) (from_none c unclear are)
