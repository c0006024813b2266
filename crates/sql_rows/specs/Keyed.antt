-- The rows of a table with an integer key stand for a list of values by rising key, in whatever
-- order the tree has them.
use Rattle.std.specs.Prelude.{◌<◌, ⊤, if◌then◌else◌, nat_le, ℕ, pos, List, [], ◌∷◌, map, IsPermutation}
use Rattle.sqlite.specs.declared.types.Value.{Value}
use Rattle.sqlite.specs.declared.types.Value.TheVariants.{Int}
use Rattle.sqlite.specs.Order.{Row}
use Rattle.sqlite.specs.Tree.{rowid}

-- a value as a row: its key, and then the columns
abbrev pub with_id : {X : Type 0} → (X → Row) → ℕ × X → Row
with_id columns x = Int (pos x.0) ∷ columns x.1

-- the keys rise, the first one above n
abbrev pub RisesFrom : {X : Type 0} → ℕ → List (ℕ × X) → Type 0
RisesFrom n [] = ⊤
RisesFrom n (x ∷ xs) = (n < x.0) × RisesFrom x.0 xs

-- the rows are those of the values, whose keys rise from above 0
pub record AreRows {X : Type 0} (columns : X → Row) (at : List (ℕ × X)) (rows : List Row)
    : Type 0 where
  pub same : IsPermutation rows (map (with_id columns) at)
  pub rise : RisesFrom 0 at

-- the number in a value
abbrev pub number_in : Value → ℕ
number_in (Int (pos n)) = n
number_in _ = 0

-- the key of a row
abbrev pub key_in : Row → ℕ
key_in r = number_in (rowid r)

-- a row is put in front of the first row whose key isn't below its own
abbrev pub put_by_key : Row → List Row → List Row
put_by_key r [] = r ∷ []
put_by_key r (x ∷ xs) = if nat_le (key_in r) (key_in x) then r ∷ x ∷ xs else x ∷ put_by_key r xs

-- the rows by rising key
abbrev pub by_key : List Row → List Row
by_key [] = []
by_key (r ∷ rows) = put_by_key r (by_key rows)
