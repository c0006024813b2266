use Rattle.x12_outbound.specs.Ledger.{with_interchange}
use Rattle.std.proofs.Common.{◌∷◌, [], ◌++◌, List, ap, ◌∙◌, arith}
use Rattle.std.proofs.lemmas.Grind.{common_steps}
use Rattle.x12_outbound.specs.declared.row.Row.{Row}
use Rattle.x12_outbound.proofs.LedgerLemmas.{in_order_added}
use Rattle.x12_outbound.proofs.ledger.Ledger.put.Goals as goal

pub invariant_of-self : goal.invariant_of-self
invariant_of-self c = rw c.reserve.ensures.items c.self.invariant

-- the interchange was added after all that are held
pub invariant_of-self-2 : goal.invariant_of-self-2
invariant_of-self-2 c =
    let row : Row = record { entry = c.args.entry; schedule = c.args.schedule } in
    let next = rw (← c.self.view_is) at c.requires in
    in_order_added c.self.inside.me c.self.inside.rows.items row _
    (c.push_reserved.ensures.items ∙ ap (λ (rows : List Row). rows ++ row ∷ []) c.reserve.ensures.items)
    c.self.invariant next.sendable next.after

pub returns-clause-ok : goal.returns-clause-ok
unfolding with_interchange
returns-clause-ok c = grind (arith, common_steps)
