use Rattle.std.proofs.Common.{map, sym, ap, ◌∙◌, arith}
use Rattle.std.proofs.lemmas.List.{get_or-map, length-map}
use Rattle.x12_judge.specs.Number.{number_of_set}
use Rattle.x12_judge.proofs.RisingNumberLemmas.{rises_more}
use Rattle.x12_judge.proofs.number.are_rising.Goals as goal

pub loop-set-preserved : goal.loop-set-preserved
loop-set-preserved c =
    let sets = c.args.sets.now in
    let i = c.loop-set.set-index in
    let number = c.as_bytes-number.result.now in
    let long = length-map sets number_of_set in
    let is = c.as_bytes-number.ensures ∙ ap number_of_set c.set-item.is ∙ sym (get_or-map number_of_set sets i c.set-item.result number c.loop-set-test.true) in
    rises_more (map number_of_set sets) i c.loop-set.last.now number c.loop-set.invariant (omega (arith, c.loop-set-test.true, long)) is (sym c.are_before.ensures ∙ c.if-not-are_before.false)
