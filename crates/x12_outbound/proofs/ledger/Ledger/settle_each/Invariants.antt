use Rattle.std.proofs.Common.{◌≡◌, length}
use Rattle.x12_acks.specs.Submission.{TransactionSetKey}
use Rattle.x12_outbound.specs.Counts.{with_pieces}
use Rattle.x12_outbound.specs.Settling.{settled_fates}
use Rattle.x12_outbound.specs.Ledger.{fates, NoneIsOut}
use Rattle.x12_outbound.specs.Plan.{IsPlan, KeepsSubmissions, evidence_in, findings_in}
use Rattle.x12_outbound.proofs.ledger.Ledger.settle_each.Given as goal

-- what is left is a plan of the ledger as it now stands, and leads to the same end
abbrev pub invariant-loop-evidence : goal.invariant-loop-evidence
invariant-loop-evidence l = record {
  plan : IsPlan l.self.holds l.left.pieces;
  none_out : NoneIsOut l.self.holds;
  ends : (k : TransactionSetKey) → settled_fates (fates l.self.holds) (evidence_in l.left.pieces) k ≡ settled_fates (fates l.initial.self.holds) (evidence_in l.initial.left.pieces) k;
  counted : with_pieces l.counts (findings_in l.left.pieces) ≡ with_pieces l.initial.counts (findings_in l.initial.left.pieces);
  kept : KeepsSubmissions l.initial.self.holds l.self.holds;
}

abbrev pub decreases-loop-evidence : goal.decreases-loop-evidence
decreases-loop-evidence l = length l.left.pieces
