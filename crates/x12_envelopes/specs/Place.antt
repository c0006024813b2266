-- Items of a list with their places in it, as `enumerate_from 1` gives them.
use Rattle.std.specs.Prelude.{ℕ}

-- where an item stands
abbrev pub its_place : {X : Type 0} → ℕ × X → ℕ
its_place p = p.0

-- what stands there
abbrev pub its_item : {X : Type 0} → ℕ × X → X
its_item p = p.1
