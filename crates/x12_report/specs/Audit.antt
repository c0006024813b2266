-- When the postings of a submitted set are what its fate says.
use Rattle.std.specs.Prelude.{◌==◌, ◌&&◌, ℕ, Bool, false, not, nat_le, Option, Some, None}
use Rattle.x12_outbound.specs.declared.fate.Fate.{Fate}
use Rattle.x12_outbound.specs.declared.fate.Fate.TheVariants.{Pending, Accepted, Noted, Rejected}

-- so many postings suit a fate: one where it is accepted or noted, none where it is rejected, at
-- most one while it is pending
abbrev pub count_suits : Fate → ℕ → Bool
count_suits Accepted n = n == 1
count_suits Noted n = n == 1
count_suits Rejected n = n == 0
count_suits Pending n = nat_le n 1

-- the receiver is a station, and its postings don't suit the fate or aren't what was submitted
abbrev pub postings_are_bad : Fate → Bool → Option ℕ → Bool
postings_are_bad fate intact None = false
postings_are_bad fate intact (Some n) = not (count_suits fate n && intact)
