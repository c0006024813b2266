-- What a station submits at what it is asked.
use Rattle.std.specs.Prelude.{◌≡◌, ℕ, List, [], ◌∷◌, ◌++◌, All, IfErr, IfOk, Result, map}
use Rattle.x12_core.specs.declared.fault.CoreFault.{CoreFault}
use Rattle.x12_core.specs.declared.sends.Sends.{Sends}
use Rattle.x12_core.specs.declared.sends.Sends.TheVariants.{Submitted, Nothing, One, Two, Deposits, Items}
use Rattle.x12_core.specs.declared.submission.Listed.{Listed}
use Rattle.x12_core.specs.Fault.{IsNotMemory}
use Rattle.x12_profile.specs.X12.{x12}
use Rattle.x12_station.specs.History.{submissions}
use Rattle.x12_station.specs.Station.{Station}

-- what an event submits, by what it sends
abbrev pub listed : Sends → List Listed
listed (Submitted at icn bytes) = record { node = at.node; icn = icn } ∷ []
listed Nothing = []
listed (One q) = []
listed (Two q r) = []
listed (Deposits at sent) = []
listed (Items hub to sent) = []

-- the numbers (ISA13) of what a station submitted
abbrev pub submitted_numbers : Station → List ℕ
submitted_numbers s = map x12.number (submissions s.items)

-- what the station of this node submitted when it became another
pub record SubmitsMore (node : ℕ) (old new : Station) (more : List Listed) : Type 0 where
  pub theirs : All (λ (x : Listed). x.node ≡ node) more
  pub numbers : submitted_numbers new
      ≡ submitted_numbers old ++ map (λ (x : Listed). x.icn) more

-- a hub submits nothing, and refuses nothing for want of memory of its own (L4): it copies nothing
pub record TakesNothing (r : Result Sends CoreFault) : Type 0 where
  pub submits : IfOk r (λ sends. listed sends ≡ [])
  pub copies : IfErr r IsNotMemory
