-- Laws of fault plans.
use Rattle.std.specs.Prelude.{◌≡◌, ◌++◌, ◌∷◌, [], List, ℕ}
use Rattle.x12_links.specs.declared.plan.FaultPlan.{FaultPlan}
use Rattle.x12_links.specs.Plan.{nothing_taken, standing_behind, put_from, put_by}

-- a longer list taken gives a list that begins with the shorter one's
abbrev pub PlanGoesOn : Type 0
PlanGoesOn = (plan : FaultPlan) (xs more : List ℕ)
    → put_by plan (xs ++ more) ≡ put_by plan xs ++ put_from plan (standing_behind plan nothing_taken xs) more

-- what a link puts that loses, doubles and holds so
abbrev pub put_of : ℕ → ℕ → ℕ → List ℕ → List ℕ
put_of lose double hold taken = put_by (record { lose = lose; double = double; hold = hold }) taken

-- what links put of the parcels 1, 2, 3 ..
pub record PlansAsShown : Type 0 where
  -- each third lost, each fourth doubled
  pub lose_and_double : put_of 3 4 0 (1 ∷ 2 ∷ 3 ∷ 4 ∷ 5 ∷ 6 ∷ 7 ∷ 8 ∷ []) ≡ 1 ∷ 2 ∷ 4 ∷ 4 ∷ 5 ∷ 7 ∷ 8 ∷ 8 ∷ []
  -- each second held: the last has no successor
  pub hold : put_of 0 0 2 (1 ∷ 2 ∷ 3 ∷ 4 ∷ 5 ∷ 6 ∷ []) ≡ 1 ∷ 3 ∷ 2 ∷ 5 ∷ 4 ∷ []
  pub lose_and_hold : put_of 3 0 2 (1 ∷ 2 ∷ 3 ∷ 4 ∷ 5 ∷ 6 ∷ []) ≡ 1 ∷ 5 ∷ 2 ∷ 4 ∷ []
  -- what is held is put behind both copies
  pub double_and_hold : put_of 0 3 2 (1 ∷ 2 ∷ 3 ∷ []) ≡ 1 ∷ 3 ∷ 3 ∷ 2 ∷ []
