-- What was submitted, as the network lists it: of each submission its node and its number.
use Rattle.std.specs.Prelude.{◌≡◌, ◌<◌, ℕ, List, ◌++◌, ◌+◌, ◌==◌, AllPairs, Some, filter, map, slice_get}
use Rattle.x12_core.specs.Submission.{submitted_numbers}
use Rattle.x12_profile.specs.X12.{x12}
use Rattle.x12_station.specs.History.{submissions}
use Rattle.x12_station.specs.Station.{Station}
use Rattle.x12_core.specs.declared.submission.Listed.{Listed}

-- the numbers that are listed of a node
abbrev pub numbers_at : ℕ → List Listed → List ℕ
numbers_at node xs = map (λ (x : Listed). x.icn) (filter (λ (x : Listed). x.node == node) xs)

-- of each station, by its node from 1, the numbers of what it submitted are listed, in their order
abbrev pub AreListed : List Station → List Listed → Type 0
AreListed ss xs = (i : ℕ) (s : Station) → slice_get ss i ≡ Some s
    → numbers_at (i + 1) xs ≡ submitted_numbers s

-- the list that was one of the first stations is, with these behind it, one of the second
abbrev pub ListsMore : List Station → List Station → List Listed → Type 0
ListsMore old new more = (xs : List Listed) → AreListed old xs → AreListed new (xs ++ more)

-- the numbers of what a station submitted rise
abbrev pub NumbersRise : Station → Type 0
NumbersRise s = AllPairs (λ x y. x12.number x < x12.number y) (submissions s.items)
