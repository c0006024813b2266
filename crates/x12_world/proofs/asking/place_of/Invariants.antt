use Rattle.std.proofs.Common.{◌≡◌, drop, find}
use Rattle.x12_judge.specs.Agreement.{is_same_party}
use Rattle.x12_world.specs.Asking.{states_of}
use Rattle.x12_world.proofs.asking.place_of.Given as goal

-- no station that was seen is of this party
abbrev pub invariant-loop-place : goal.invariant-loop-place
invariant-loop-place g l =
    find (λ s. is_same_party s.me l.party) (states_of (drop l.place l.stations))
    ≡ find (λ s. is_same_party s.me l.party) (states_of l.stations)
