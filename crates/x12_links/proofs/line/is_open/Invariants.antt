use Rattle.std.proofs.Common.{◌≡◌, ◌==◌, drop}
use Rattle.std.specs.List.{list_any}
use Rattle.x12_links.proofs.line.is_open.Given as goal

abbrev pub invariant-loop-inlet : goal.invariant-loop-inlet
invariant-loop-inlet g l = list_any (λ i. i.from == l.from) l.inlets ≡ list_any (λ i. i.from == l.from) (drop l.inlet-index l.inlets)
