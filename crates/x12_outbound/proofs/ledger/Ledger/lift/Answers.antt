use Rattle.std.proofs.Common.{arith}
use Rattle.std.proofs.lemmas.Grind.{common_steps}
use Rattle.x12_outbound.specs.Ledger.{with_row}
use Rattle.x12_outbound.specs.declared.row.Change.TheVariants.{Lift}
use Rattle.x12_acks.specs.Key.{key_view}
use Rattle.x12_outbound.proofs.LedgerLemmas.{icns_rise_of, in_order_changed}
use Rattle.x12_outbound.proofs.ledger.Ledger.lift.Goals as goal

pub waiting_set-requires : goal.waiting_set-requires
waiting_set-requires c = icns_rise_of _ _ _ c.deref.ensures.value c.self.invariant

pub change_row-requires : goal.change_row-requires
change_row-requires c = icns_rise_of _ _ _ c.deref_mut.ensures.value c.self.invariant

pub invariant_of-self : goal.invariant_of-self
invariant_of-self c =
    in_order_changed _ c.self.inside.rows _ _ c.deref_mut.ensures.value c.change_row.auto.rows c.self.invariant Lift (key_view c.args.key.now) c.change_row.ensures

pub returns-clause-out : goal.returns-clause-out
unfolding with_row
returns-clause-out c = grind (arith, common_steps)
