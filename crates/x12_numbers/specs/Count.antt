-- Counts of failures, which a program keeps up to 18446744073709551615.
use Rattle.std.specs.Prelude.{◌≡◌, ℕ, ◌<◌, ◌^◌, ◌-◌, ◌⊎◌, min, ◌+◌}

-- a count that rose, or stands at its end
abbrev pub CountRose : ℕ → ℕ → Type 0
CountRose old new = (old < new) ⊎ (new ≡ 2 ^ 64 - 1)

-- the failures of records and of what stands round them, as far as they are counted
abbrev pub failed_in_all : ℕ → ℕ → ℕ
failed_in_all records own = min (records + own) (2 ^ 64 - 1)
