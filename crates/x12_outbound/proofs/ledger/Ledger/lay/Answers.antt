use Rattle.std.proofs.Common.{arith}
use Rattle.std.proofs.lemmas.Grind.{common_steps}
use Rattle.x12_outbound.specs.Ledger.{with_row}
use Rattle.x12_outbound.specs.declared.row.Change.TheVariants.{Lay}
use Rattle.x12_acks.specs.Key.{key_view}
use Rattle.x12_outbound.proofs.LedgerLemmas.{icns_rise_of, in_order_changed}
use Rattle.x12_outbound.proofs.ledger.Ledger.lay.Goals as goal

pub change_row-requires : goal.change_row-requires
change_row-requires c = icns_rise_of _ _ _ c.deref_mut.ensures.value c.self.invariant

pub invariant_of-self : goal.invariant_of-self
invariant_of-self c =
    in_order_changed _ c.self.inside.rows _ _ c.deref_mut.ensures.value c.change_row.auto.rows c.self.invariant Lay (key_view c.set.inside.key) c.change_row.ensures

pub returns : goal.returns
unfolding with_row
returns c = grind (arith, common_steps)
