use Rattle.std.proofs.Common.{◌≡◌, ◌+◌, [], drop, length, sym, subst, arith}
use Rattle.std.proofs.lemmas.Grind.{common_steps}
use Rattle.std.proofs.Math.ListN.{drop_of_length-le}
use Rattle.std.proofs.lemmas.List.{append-nil}
use Rattle.x12_hub_records.specs.HubAdopt.{AreDecided}
use Rattle.x12_hub_records.proofs.decisions.boxed_nodes.Goals as goal

pub returns-clause-are : goal.returns-clause-are
returns-clause-are c =
    let rows = c.args.rows.now in
    let nodes = c.loop-row.nodes.items in
    let none : drop c.loop-row.row-index rows ≡ [] = drop_of_length-le rows {i = c.loop-row.row-index} (omega (arith, c.loop-row-test.false)) in
    subst (λ v. AreDecided 1 v rows) (append-nil nodes) (c.loop-row.invariant.0 [] (subst (AreDecided (length nodes + 1) []) (sym none) tt))

pub loop-row-preserved : goal.loop-row-preserved
loop-row-preserved c = grind (arith, common_steps)
