use Rattle.std.proofs.Common.{map, subst, refl}
use Rattle.x12_outbound.specs.Entry.{row_is_open}
use Rattle.x12_outbound.specs.Ledger.{LedgerInMemory, AreInOrder, row_view, ledger_submissions, open_alone}
use Rattle.x12_outbound.proofs.ScheduledLemmas.{order_kept}
use Rattle.x12_outbound.proofs.ledger.Ledger.drop_closed.Goals as goal

-- what is kept is in order
pub invariant_of-self : goal.invariant_of-self
invariant_of-self c = order_kept c.self.inside.me (λ r. row_is_open r.interchange) (map row_view c.self.inside.rows.items) (map row_view c.drop_closed.new.rows.items) c.drop_closed.ensures c.self.invariant

pub returns-clause-left : goal.returns-clause-left
unfolding open_alone
returns-clause-left c = rw (← c.self.view_is, c.drop_closed.ensures) refl

pub returns-clause-order : goal.returns-clause-order
returns-clause-order c = subst (λ (v : LedgerInMemory). AreInOrder (ledger_submissions v.holds)) c.self.view_is c.self.invariant
