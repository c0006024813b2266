use Rattle.std.proofs.Common.{◌≡◌, ℕ, List, take, option_map, nat_cmp}
use Rattle.std.specs.BTreeMap.{get_by}
use Rattle.std.specs.Cmp.Lexicographic.{slice_cmp}
use Rattle.x12_outbound.specs.Statement.{set_numbered}
use Rattle.x12_outbound.proofs.statement.places.Given as goal

-- the places of those so far
abbrev pub invariant-loop-index : goal.invariant-loop-index
invariant-loop-index l = (number : List ℕ) → get_by (λ k. slice_cmp nat_cmp number k.now) l.places ≡ option_map (λ s. s.0) (set_numbered number (take l.index l.sets))
