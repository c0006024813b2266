use Rattle.std.proofs.Common.{◌≡◌, ℕ, List, take, is_some, nat_cmp}
use Rattle.std.specs.BTreeMap.{get_by}
use Rattle.std.specs.Cmp.Lexicographic.{slice_cmp}
use Rattle.x12_outbound.specs.Statement.{is_listed}
use Rattle.x12_outbound.proofs.statement.listed_numbers.Given as goal

-- the numbers so far
abbrev pub invariant-loop-answer : goal.invariant-loop-answer
invariant-loop-answer l = (number : List ℕ) → is_some (get_by (λ k. slice_cmp nat_cmp number k.now) l.numbers) ≡ is_listed (take l.answer-index l.listed) number
