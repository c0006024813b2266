-- Why a call takes what a station left.
use Rattle.std.proofs.Common.{◌<◌, length, get_or, drop, ◌≡◌, ◌+◌, ◌∙◌, ℕ, List, ◌∷◌, Ok, Err, Result, IsErrAnd, ap, subst}
use Rattle.std.specs.List.{AllByRecursion}
use Rattle.std.proofs.lemmas.List.{drop_more}
use Rattle.sqlite.specs.Order.{Row}
use Rattle.x12_tables.specs.Adopt.{TakesRows}
use Rattle.x12_station_records.specs.StationTaken.{AreChained}

-- a test of rows failed, and so does what makes it
pub rows_failed : {B E F : Type 0} (P Q : Type 0) (memory : E) {other : F} (e : E) (gives : F → Type 0) (r : Result B F) → IsErrAnd r gives → ((f : F) → gives f → e ≡ memory → f ≡ other) → (P → e ≡ memory) → (Q → P) → TakesRows Q other r
rows_failed P Q memory e gives (Ok y) is told first on = absurd is
rows_failed P Q memory e gives (Err f) is told first on = λ such. told f is (first (on such))

-- the next row of a table
pub row_left : (rows : List Row) (i : ℕ) (d row : Row) → i < length rows → get_or rows i d ≡ row → drop i rows ≡ row ∷ drop (i + 1) rows
row_left rows i d row low is = drop_more rows i d low ∙ ap (λ r. r ∷ drop (i + 1) rows) is

-- what holds of each row that is left holds of the next one
pub holds_next : (P : Row → Type 0) (rows : List Row) (i : ℕ) (d row : Row) → i < length rows → get_or rows i d ≡ row → AllByRecursion P (drop i rows) → P row
holds_next P rows i d row low is all = (subst (AllByRecursion P) (row_left rows i d row low is) all).0

-- the next row is such as the one before allows
pub chains_next : {X : Type 0} (P : X → X → Row → Type 0) (last : X) (rows : List Row) (i : ℕ) (d row : Row) → i < length rows → get_or rows i d ≡ row → AreChained P last (drop i rows) → (x : X) × P last x row
chains_next P last rows i d row low is all = let one = subst (AreChained P last) (row_left rows i d row low is) all in (one.0, one.1)
