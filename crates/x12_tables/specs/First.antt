-- The first value of a query's answer.
use Rattle.std.specs.Prelude.{◌≡◌, List, [], ◌∷◌, Option, Some, None}
use Rattle.sqlite.specs.declared.types.Value.{Value}
use Rattle.sqlite.specs.Order.{Row, column}

-- what the first column of the first row reads as, if there is a row
abbrev pub IsInFirstRow : {A : Type 0} → (Value → A → Type 0) → List Row → Option A → Type 0
IsInFirstRow Reads [] o = o ≡ None
IsInFirstRow Reads (r ∷ rows) (Some x) = Reads (column r 0) x
IsInFirstRow Reads (r ∷ rows) None = ⊥

abbrev pub first_row : List Row → Row
first_row [] = []
first_row (r ∷ rows) = r
