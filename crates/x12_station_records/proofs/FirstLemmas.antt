-- The first value of a query's answer, as a number.
use Rattle.std.proofs.Common.{◌≡◌, ℕ, pos, List, [], ◌∷◌, Option, Some, None, option_map, refl}
use Rattle.std.specs.Option.{option_to_list}
use Rattle.sqlite.specs.declared.types.Value.TheVariants.{Int}
use Rattle.sqlite.specs.Order.{Row, column}
use Rattle.sql_rows.specs.Keyed.{number_in}
use Rattle.x12_tables.proofs.FirstLemmas.{first_bytes}
use Rattle.x12_tables.specs.First.{IsInFirstRow}
use Rattle.x12_station_records.specs.StationFinds.{bytes_shown}

-- the number in the first row, if there is one
abbrev pub first_number : List Row → Option ℕ
first_number [] = None
first_number (r ∷ rows) = Some (number_in (column r 0))

pub number_is_first : (rows : List Row) (o : Option ℕ) → IsInFirstRow (λ v n. v ≡ Int (pos n)) rows o → o ≡ first_number rows
number_is_first [] o h = h
number_is_first (r ∷ rows) (Some x) h = rw h refl
number_is_first (r ∷ rows) None h = absurd h

-- the bytes in an answer of at most one row
pub shown_first : (b : Option (List ℕ)) → first_bytes (option_to_list (option_map bytes_shown b)) ≡ b
shown_first None = refl
shown_first (Some b) = refl
