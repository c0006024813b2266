use Rattle.std.proofs.Common.{◌∙◌, ap, ◌++◌, ◌∷◌, [], Some, take, arith}
use Rattle.std.proofs.lemmas.Grind.{common_steps}
use Rattle.x12_outbound.specs.Statement.{told_of_set, all_told}
use Rattle.x12_outbound.proofs.ToldLemmas.{all_more}
use Rattle.x12_outbound.proofs.statement.tell_all.Goals as goal

-- the next set is told of
pub loop-index-preserved : goal.loop-index-preserved
loop-index-preserved c =
    let o = c.args.origin.now in
    let before = c.args.out.now.items in
    let set = c.index-sets-index.result in
    c.in_ok-push.ensures.items ∙ ap (λ items. items ++ Some c.tell.result ∷ []) c.loop-index.invariant
    ∙ ap (λ s. (before ++ all_told o c.args.fate (take c.loop-index.index c.args.sets.now)) ++ Some s ∷ [])
    (c.tell.ensures ∙ ap (λ place. told_of_set o c.args.fate (place, set)) c.place_of.ensures)
    ∙ all_more o c.args.sets.now c.loop-index.index set c.loop-index-test.true c.index-sets-index.is c.args.fate before

pub returns : goal.returns
returns c = grind (arith, common_steps)
