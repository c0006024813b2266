use Rattle.std.proofs.Common.{◌≡◌, ◌++◌, replicate}
use Rattle.x12_report.proofs.reporting.push_fill.Given as goal

abbrev pub invariant-loop-n : goal.invariant-loop-n
invariant-loop-n l = l.out.items ≡ l.initial.out.items ++ replicate l.n l.fill
