use Rattle.std.proofs.Common.{◌≡◌, nat_lt, take}
use Rattle.std.specs.List.{list_any}
use Rattle.x12_envelopes.proofs.fault.has_low.Given as goal

abbrev pub invariant-loop-b : goal.invariant-loop-b
invariant-loop-b l = l.low ≡ list_any (λ b. nat_lt b 32) (take l.b-index l.text)
