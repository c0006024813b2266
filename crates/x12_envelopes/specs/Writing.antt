-- What is handed to the writer of segments (X12.6).
use Rattle.std.specs.Prelude.{ℕ, List, map}
use Rattle.std.specs.Borrow.{Bor}

-- the bytes of each element
abbrev pub texts : List (Bor (List ℕ)) → List (List ℕ)
texts elements = map (λ e. e.now) elements
