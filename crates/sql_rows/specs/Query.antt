-- A text that only asks.
use Rattle.std.specs.Prelude.{◌≡◌, [], List, ℕ, None, IfOk}
use Rattle.sqlite.specs.Listing.{understood}
use Rattle.sqlite.specs.Schema.{Schema}

-- Whatever the tables are, the text has no RETURNING and doesn't read the time, if it is understood.
abbrev pub IsQuery : List ℕ → Type 0
IsQuery sql = (s : Schema) → IfOk (understood s sql) (λ c. (c.returning ≡ None) × (c.formats ≡ []))
