-- The segments of a transaction set between ST and SE.
use Rattle.std.specs.Borrow.{Bor}
use Rattle.std.specs.Prelude.{◌≡◌, ◌+◌, ◌<◌, ◌||◌, ℕ, List, [], ◌∷◌, Option, Some, None, length}
use Rattle.x12_envelopes.specs.declared.delimiters.Delims.{Delims}
use Rattle.x12_envelopes.specs.Segment.{parts_of}
use Rattle.x12_judge.specs.declared.body.Body.{Body}
use Rattle.x12_judge.specs.declared.body.Passed.{Passed}
use Rattle.x12_judge.specs.Segment.{has_po1, notes_from}
use Rattle.x12_judge.specs.Set.{without_trailer}

-- the next segment, if there is one, and those behind it
abbrev pub and_behind : Option (Bor (List ℕ)) → List (List ℕ) → List (List ℕ)
and_behind None parts = []
and_behind (Some part) parts = part.now ∷ parts

-- the segments that are still to come
abbrev pub body_left : Delims → Body → List (List ℕ)
body_left d b = without_trailer b.closed (and_behind b.here (parts_of d b.behind.now))

-- the first of them were passed: how many, and whether a PO1 is among them; behind the second position nothing
-- is noted on any of them
pub record ArePassed (d : Delims) (parts : List (List ℕ)) (passed : Passed) (left : List (List ℕ)) : Type 0 where
  pub notes : (p : ℕ) → 2 < p → notes_from d p parts ≡ notes_from d (p + passed.count) left
  pub count : length parts ≡ passed.count + length left
  pub po1 : has_po1 d parts ≡ (passed.has_po1 || has_po1 d left)
