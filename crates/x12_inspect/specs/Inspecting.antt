-- Going over the interchanges of a transmission, one after another: how that ends.
use Rattle.std.specs.Prelude.{◌≡◌, ℕ, Bool, List, length, ◌==◌, if◌then◌else◌}
use Rattle.x12_envelopes.specs.Transmission.{AreSlices}
use Rattle.x12_inspect.specs.declared.inspecting.Outcome.{Outcome}
use Rattle.x12_inspect.specs.declared.inspecting.Outcome.TheVariants.{AllRight, SomethingWrong, Nothing}

abbrev pub outcome_by : Bool → Outcome
outcome_by is_all_right = if is_all_right then AllRight else SomethingWrong

-- all is right of these interchanges, or something isn't; nothing is said of none
abbrev pub outcome_of_all : List (List ℕ) → Bool → Outcome
outcome_of_all interchanges is_all_right =
    if length interchanges == 0 then Nothing else outcome_by is_all_right

-- a transmission was gone over: all is right exactly where it has interchanges, and it is of each, in
-- order
pub record EndsAs (all_right : List (List ℕ) → Bool) (input : List ℕ) (outcome : Outcome) : Type 0 where
  pub interchanges : List (List ℕ)
  pub cut : AreSlices interchanges input
  pub ends : outcome ≡ outcome_of_all interchanges (all_right interchanges)

-- a transmission was gone over, and this was asked of its interchanges, in order
pub record WasAsked (was : List (List ℕ) → Type 0) (input : List ℕ) : Type 0 where
  pub interchanges : List (List ℕ)
  pub cut : AreSlices interchanges input
  pub asked : was interchanges
