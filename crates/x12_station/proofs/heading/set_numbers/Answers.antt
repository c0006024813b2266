use Rattle.std.proofs.Common.{◌∙◌, ◌++◌, ◌∷◌, [], ap₂, sym, arith}
use Rattle.std.proofs.lemmas.Grind.{common_steps}
use Rattle.x12_station.specs.Ordering.{order_view}
use Rattle.x12_station.specs.working.Heading.{set_number}
use Rattle.x12_station.proofs.OrderingLemmas.{numbered_more}
use Rattle.x12_station.proofs.heading.set_numbers.Goals as goal

pub loop-body-preserved : goal.loop-body-preserved
loop-body-preserved c =
    let so_far = c.loop-body.invariant in
    record {
      place = let at = so_far.place in omega arith;
      numbers = c.in_ok-push.ensures.items ∙ ap₂ (λ a z. a ++ z ∷ []) so_far.numbers c.zero_padded.ensures.padded
          ∙ sym (numbered_more order_view set_number c.args.orders.now c.loop-body._body-index c.loop-body.place c._body-item.result c.loop-body-test.true c._body-item.is so_far.place);
    }

pub returns : goal.returns
returns c = grind (arith, common_steps)
