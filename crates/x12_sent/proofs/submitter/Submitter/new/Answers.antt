use Rattle.std.proofs.Common.{ap}
use Rattle.x12_outbound.specs.Ledger.{OutboundLedger}
use Rattle.x12_sent.proofs.SubmitterLemmas.{within_nothing}
use Rattle.x12_sent.proofs.submitter.Submitter.new.Goals as goal

pub returns-clause-keeps : goal.returns-clause-keeps
unfolding Rattle.x12_outbound.specs.Ledger.empty_ledger
returns-clause-keeps c = (
  (within_nothing _ _ _ _ c.new-2.ensures, ap (λ (v : OutboundLedger). v.me) c.new-2.ensures),
  (within_nothing _ _ _ _ c.new-3.ensures, ap (λ (v : OutboundLedger). v.me) c.new-3.ensures),
)
