-- Counts of evidence: what its pieces did, and how many answers were unclear.
use Rattle.std.specs.Prelude.{ℕ, ◌≡◌, ◌≤◌, ◌+◌, ◌-◌, ◌^◌, List, [], ◌∷◌, min}
use Rattle.x12_outbound.specs.Piece.{Finding, Settles, Repeats, Conflicts, Unmatched}
use Rattle.x12_outbound.specs.declared.evidence.Counts.{Counts}

-- one more; a count stays at the greatest number of 64 bits
abbrev pub count_raised : ℕ → ℕ
count_raised n = min (n + 1) (2 ^ 64 - 1)

-- the counts with one piece more, by what it was
unfoldable pub with_piece : Counts → Finding → Counts
with_piece c Settles = record c { settled = count_raised c.settled }
with_piece c Repeats = record c { repeated = count_raised c.repeated }
with_piece c Conflicts = record c { conflicting = count_raised c.conflicting }
with_piece c Unmatched = record c { unmatched = count_raised c.unmatched }

-- the counts with a list of pieces more
unfoldable pub with_pieces : Counts → List Finding → Counts
with_pieces c [] = c
with_pieces c (f ∷ fs) = with_pieces (with_piece c f) fs

-- no evidence, and this number of unclear answers
unfoldable pub only_unclear : ℕ → Counts
only_unclear unclear =
    record { settled = 0; repeated = 0; unmatched = 0; conflicting = 0; unclear = unclear }

-- what two lists of evidence did together; each count stays at the greatest number of 64 bits
unfoldable pub counts_of_both : Counts → Counts → Counts
counts_of_both c d = record {
  settled = min (c.settled + d.settled) (2 ^ 64 - 1);
  repeated = min (c.repeated + d.repeated) (2 ^ 64 - 1);
  unmatched = min (c.unmatched + d.unmatched) (2 ^ 64 - 1);
  conflicting = min (c.conflicting + d.conflicting) (2 ^ 64 - 1);
  unclear = min (c.unclear + d.unclear) (2 ^ 64 - 1);
}

-- each count is a number of 64 bits
pub record AreCounts (c : Counts) : Type 0 where
  pub settled : c.settled ≤ 2 ^ 64 - 1
  pub repeated : c.repeated ≤ 2 ^ 64 - 1
  pub unmatched : c.unmatched ≤ 2 ^ 64 - 1
  pub conflicting : c.conflicting ≤ 2 ^ 64 - 1

-- Counting evidence in parts and adding the counts up is counting it all at once.
abbrev pub CountsAddUp : Type 0
CountsAddUp = (c : Counts) (unclear : ℕ) (fs : List Finding) → AreCounts c →
    counts_of_both c (with_pieces (only_unclear unclear) fs)
    ≡ with_pieces (record c { unclear = min (c.unclear + unclear) (2 ^ 64 - 1) }) fs

-- how many pieces of evidence are counted: each of them under one count
abbrev pub evidence_counted : Counts → ℕ
evidence_counted c = c.settled + c.repeated + c.unmatched + c.conflicting

-- what a piece is counted as where it settles nothing: unmatched, if it would have settled a set
abbrev pub shelved_finding : Finding → Finding
shelved_finding Settles = Unmatched
shelved_finding finding = finding
