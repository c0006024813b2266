-- Tables of rows: each row is a condition and what it stands for.
use Rattle.std.specs.Prelude.{Bool, List, [], ◌∷◌, Option, Some, None, Result, Ok, Err}
use Rattle.std.specs.Prelude.{if◌then◌else◌}

-- what the first row whose condition holds stands for
abbrev pub first_of_rows : {X : Type 0} → List (Bool × X) → Option X
first_of_rows [] = None
first_of_rows (row ∷ rows) = if row.0 then Some row.1 else first_of_rows rows

-- what each row whose condition holds stands for, in the order of the rows
abbrev pub held_of_rows : {X : Type 0} → List (Bool × X) → List X
held_of_rows [] = []
held_of_rows (row ∷ rows) = if row.0 then row.1 ∷ held_of_rows rows else held_of_rows rows

-- the fault where there is one, and else the value
abbrev pub ok_unless : {X F : Type 0} → Option F → X → Result X F
ok_unless None x = Ok x
ok_unless (Some fault) x = Err fault
