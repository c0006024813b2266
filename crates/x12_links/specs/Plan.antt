-- What a link puts of the parcels that it takes, by their numbers from 1: some are lost, some are put
-- twice, and some are held until the next one is put.
use Rattle.std.specs.Prelude.{◌==◌, ◌&&◌, ◌%◌, ◌++◌, ◌∷◌, [], if◌then◌else◌, Bool, List, not, suc, ℕ}
use Rattle.x12_links.specs.declared.plan.FaultPlan.{FaultPlan}
use Rattle.x12_links.specs.declared.plan.Handling.{Handling}
use Rattle.x12_links.specs.declared.plan.Handling.TheVariants.{Lost, Doubled, Held, Passed}

-- a row of a plan names each number that it divides; 0 names none
abbrev pub number_divides : ℕ → ℕ → Bool
number_divides row number = not (row == 0) && (number % row == 0)

-- what becomes of the parcel of this number: the first row that names it
abbrev pub handling_of : FaultPlan → ℕ → Handling
handling_of plan number =
    if number_divides plan.lose number then Lost
    else if number_divides plan.double number then Doubled
    else if number_divides plan.hold number then Held
    else Passed

-- how many parcels were taken, and which of them are held
pub record LinkStanding (X : Type 0) : Type 0 where
  pub count : ℕ
  pub held : List X

module _ {X : Type 0} where
  -- no parcel was taken yet
  abbrev pub nothing_taken : LinkStanding X
  nothing_taken = record { count = 0; held = [] }

  -- what is held once a parcel was handled so
  abbrev pub held_after : Handling → List X → X → List X
  held_after Lost held x = held
  held_after Doubled held x = []
  held_after Held held x = held ++ x ∷ []
  held_after Passed held x = []

  -- what is put of a parcel that was handled so
  abbrev pub put_after : Handling → List X → X → List X
  put_after Lost held x = []
  put_after Doubled held x = x ∷ x ∷ held
  put_after Held held x = []
  put_after Passed held x = x ∷ held

  -- where a link stands once it took one parcel more
  abbrev pub standing_after : FaultPlan → LinkStanding X → X → LinkStanding X
  standing_after plan s x =
      record { count = suc s.count; held = held_after (handling_of plan (suc s.count)) s.held x }

  -- and what it puts of it
  abbrev pub put_next : FaultPlan → LinkStanding X → X → List X
  put_next plan s x = put_after (handling_of plan (suc s.count)) s.held x

  -- where a link stands once it took these parcels
  abbrev pub standing_behind : FaultPlan → LinkStanding X → List X → LinkStanding X
  standing_behind plan s [] = s
  standing_behind plan s (x ∷ xs) = standing_behind plan (standing_after plan s x) xs

  -- and what it puts of them
  abbrev pub put_from : FaultPlan → LinkStanding X → List X → List X
  put_from plan s [] = []
  put_from plan s (x ∷ xs) = put_next plan s x ++ put_from plan (standing_after plan s x) xs

  -- what a link puts of all parcels that it took
  abbrev pub put_by : FaultPlan → List X → List X
  put_by plan taken = put_from plan nothing_taken taken
