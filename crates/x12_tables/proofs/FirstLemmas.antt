-- The first value of a query's answer, of the two types that are read so.
use Rattle.std.proofs.Common.{◌≡◌, ℕ, List, [], ◌∷◌, Option, Some, None, Vec, option_map, refl}
use Rattle.std.specs.Global.{Global}
use Rattle.sqlite.specs.declared.types.Value.TheVariants.{Blob}
use Rattle.sqlite.specs.Order.{Row, column}
use Rattle.x12_tables.specs.First.{IsInFirstRow}
use Rattle.x12_tables.specs.Party.{bytes_in}

-- the bytes in the first row, if there is one
abbrev pub first_bytes : List Row → Option (List ℕ)
first_bytes [] = None
first_bytes (r ∷ rows) = Some (bytes_in (column r 0))

pub bytes_are_first : (rows : List Row) (o : Option (Vec ℕ Global)) → IsInFirstRow (λ v (b : Vec ℕ Global). v ≡ Blob b.items) rows o → option_map (λ (b : Vec ℕ Global). b.items) o ≡ first_bytes rows
bytes_are_first [] o h = rw h refl
bytes_are_first (r ∷ rows) (Some x) h = rw h refl
bytes_are_first (r ∷ rows) None h = absurd h
