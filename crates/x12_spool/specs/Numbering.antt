-- The numbers of mailboxes.
use Rattle.std.specs.Prelude.{◌<◌, List, [], ◌∷◌, ℕ, ⊤}

-- a number is above each of these
abbrev pub IsAboveAll : ℕ → List ℕ → Type 0
IsAboveAll node [] = ⊤
IsAboveAll node (given ∷ more) = (given < node) × IsAboveAll node more
