-- Lists that are merged by stamps.
use Rattle.std.specs.Prelude.{ℕ, List, [], ◌∷◌, Bool, true, ◌&&◌, nat_le, nat_lt, if◌then◌else◌}

module _ {X : Type 0} (stamp : X → ℕ) where
  -- two lists merged by their stamps; of the same stamps the first list's comes first
  abbrev pub merged_by : List X → List X → List X
  merged_by [] ys = ys
  merged_by (x ∷ xs) [] = x ∷ xs
  merged_by (x ∷ xs) (y ∷ ys) = if nat_le (stamp x) (stamp y) then x ∷ merged_by xs (y ∷ ys)
      else y ∷ merged_by (x ∷ xs) ys

  -- these lists merged into the first
  abbrev pub merged_onto : List X → List (List X) → List X
  merged_onto acc [] = acc
  merged_onto acc (xs ∷ rest) = merged_onto (merged_by acc xs) rest

  -- all of them
  abbrev pub all_merged : List (List X) → List X
  all_merged lists = merged_onto [] lists

-- a stamp is its own
abbrev pub stamp_itself : ℕ → ℕ
stamp_itself stamp = stamp

-- whether stamps rise, from above this one
abbrev pub stamps_rise_from : ℕ → List ℕ → Bool
stamps_rise_from s [] = true
stamps_rise_from s (x ∷ xs) = nat_lt s x && stamps_rise_from x xs
