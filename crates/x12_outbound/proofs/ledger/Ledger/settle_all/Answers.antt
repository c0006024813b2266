use Rattle.x12_outbound.specs.Settling.{settled_fates}
use Rattle.x12_outbound.specs.Ledger.{fates}
use Rattle.x12_outbound.specs.Plan.{evidence_in}
use Rattle.x12_outbound.proofs.ScheduledLemmas.{holds_what_is_open, none_out_kept}
use Rattle.x12_outbound.proofs.ledger.Ledger.settle_all.Goals as goal

pub returns-clause-held : goal.returns-clause-held
returns-clause-held c =
    let old = c.args.self.now.holds in
    let mid = c.settle_each-counts.new.self.holds in
    let new = c.drop_closed.new.self.holds in
    holds_what_is_open old mid new c.settle_each-counts.ensures.kept c.drop_closed.ensures.left c.drop_closed.ensures.order
    (settled_fates (fates old) (evidence_in c.args.settling.pieces)) c.settle_each-counts.ensures.fates

pub returns-clause-none_out : goal.returns-clause-none_out
returns-clause-none_out c =
    let new = c.drop_closed.new.self.holds in
    none_out_kept c.args.self.now.holds c.settle_each-counts.new.self.holds new c.settle_each-counts.ensures.kept c.drop_closed.ensures.left c.drop_closed.ensures.order c.settle_each-counts.ensures.none_out
