-- The history of a control number book: the numbers that were used, call by call.
use Rattle.std.specs.Prelude.{⊤, ℕ, ◌<◌, ◌≤◌, List, [], ◌∷◌, All, AllPairs}
use Rattle.std.specs.List.{flat_map}
use Rattle.x12_numbers.specs.Book.{Numbers, Uses}
use Rattle.x12_numbers.specs.declared.book.TheConstants.{MAX_CONTROL_NUMBER}

-- a call that succeeded: the numbers that it used, and the book after it
pub record Step : Type 0 where
  pub interchanges : List ℕ
  pub groups : List ℕ
  pub book : Numbers

-- each step uses its numbers on the book that the one before it left, and the first on this book
abbrev pub IsHistory : Numbers → List Step → Type 0
IsHistory book [] = ⊤
IsHistory book (step ∷ steps) =
    Uses book step.book step.interchanges step.groups × IsHistory step.book steps

-- the interchange control numbers used, in their order
abbrev pub interchanges_of : List Step → List ℕ
interchanges_of steps = flat_map (λ s. s.interchanges) steps

-- the group control numbers used, in their order
abbrev pub groups_of : List Step → List ℕ
groups_of steps = flat_map (λ s. s.groups) steps

-- each number is above all before it, last among them, and none is above the greatest
pub record Rises (last : ℕ) (numbers : List ℕ) : Type 0 where
  pub above_earlier : AllPairs (λ earlier later. earlier < later) (last ∷ numbers)
  pub within : All (λ n. n ≤ MAX_CONTROL_NUMBER) numbers
