-- Values as SQLite has them.
use Rattle.std.proofs.Common.{◌≡◌, ◌<◌, ◌^◌, ℕ, pos, List, ◌∷◌, w64, to_z, of_z}
use Rattle.std.proofs.lemmas.Int.{to_z-of_z}

pub kept_integer : (n : ℕ) → n < 2 ^ 63 → to_z w64 (of_z w64 (pos n)) ≡ pos n
kept_integer n few = to_z-of_z w64 (pos n) (record { sfits = few })

pub same_head : {X : Type 0} {x y : X} {xs ys : List X} → ◌≡◌ {A = List X} (x ∷ xs) (y ∷ ys) → x ≡ y
same_head e = cc
