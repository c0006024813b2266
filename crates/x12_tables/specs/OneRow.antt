-- A table of one row, and what a query on all its columns shows.
use Rattle.std.specs.Prelude.{◌≡◌, ◌<◌, ◌≤◌, ◌+◌, ℕ, pos, List, [], ◌∷◌, drop}
use Rattle.sqlite.specs.declared.types.Value.TheVariants.{Int}
use Rattle.sqlite.specs.Order.{Row, column}

-- all columns of a row, with its key in place of the NULL
abbrev pub whole : Row → Row
whole r = column r 0 ∷ drop 2 r

-- the values of a row from a column on
abbrev pub AreColumns : Row → ℕ → Row → Type 0
AreColumns r n [] = Unit {0}
AreColumns r n (v ∷ vs) = (column r n ≡ v) × AreColumns r (n + 1) vs

-- there is one row, and these are its columns
abbrev pub IsOneRow : Row → List Row → Type 0
IsOneRow vs (r ∷ []) = AreColumns r 0 vs
IsOneRow vs _ = ⊥

-- there is one row, whose key is 1, and whose version is one from the first to the second
abbrev pub IsOfVersions : ℕ → ℕ → List Row → Type 0
IsOfVersions oldest newest (r ∷ []) = (column r 0 ≡ Int (pos 1))
    × (n : ℕ) × (column r 1 ≡ Int (pos n)) × (oldest ≤ n) × (n ≤ newest)
IsOfVersions oldest newest _ = ⊥

-- there is one row, which says the second version: a number from 1, and older than the first
abbrev pub IsOfOlder : ℕ → ℕ → List Row → Type 0
IsOfOlder oldest version (r ∷ []) = (column r 1 ≡ Int (pos version)) × (0 < version)
    × (version < oldest)
IsOfOlder oldest version _ = ⊥
