-- One posting more stands under its key.
use Rattle.std.proofs.Common.{◌≡◌, ◌∷◌, ap, length, arith}
use Rattle.std.specs.Vec.Iter.{into_iter_items}
use Rattle.x12_acks.specs.Key.{key_view}
use Rattle.x12_world.specs.Posted.{bytes_under}
use Rattle.x12_world.proofs.PostedLemmas.{one_more}
use Rattle.x12_world.proofs.posted.by_key.Goals as goal

pub loop-posting-preserved : goal.loop-posting-preserved
loop-posting-preserved c =
    let at = c.loop-posting in
    let p = c.in-Some.posting in
    let rest = into_iter_items c.next.new.self in
    let steps : into_iter_items at.posting-iterator ≡ p ∷ rest = c.in-Some.ensures.steps.0 in (
      λ k. one_more p rest (key_view k) (bytes_under at.posted k) (bytes_under c.push_under.new.posted k) _ (c.in_ok-push_under.ensures k) (rw steps at at.invariant.0 k),
      let was = at.invariant.1 in
          let gone = c.in-Some.ensures.steps.1 in
          let short = ap length steps in
          omega arith,
    )
