use Rattle.std.proofs.Common.{arith}
use Rattle.std.proofs.lemmas.Grind.{common_steps}
use Rattle.x12_report.specs.Reporting.{report_line}
use Rattle.x12_report.proofs.reporting.push_line.Goals as goal

pub returns : goal.returns
unfolding report_line
returns c = grind (arith, common_steps)
