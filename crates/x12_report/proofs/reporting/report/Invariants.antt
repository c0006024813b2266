use Rattle.std.proofs.Common.{◌≡◌, ◌++◌, flat_map, drop}
use Rattle.x12_report.specs.Reporting.{report_line}
use Rattle.x12_report.proofs.reporting.report.Given as goal

abbrev pub invariant-loop-audit : goal.invariant-loop-audit
invariant-loop-audit l =
    flat_map report_line l.audits ≡ l.bytes.items ++ flat_map report_line (drop l.audit-index l.audits)
