use Rattle.std.proofs.Common.{arith}
use Rattle.std.proofs.lemmas.Grind.{common_steps}
use Rattle.x12_report.proofs.reporting.report.Goals as goal

pub loop-audit-preserved : goal.loop-audit-preserved
loop-audit-preserved c = grind (arith, common_steps)
