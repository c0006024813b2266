use Rattle.std.proofs.Common.{IsTrue, inl, inr, map, refl, subst}
use Rattle.std.specs.Arc.{arc_slice_items}
use Rattle.x12_spool.specs.Node.{plain_offer}
use Rattle.x12_spool.proofs.station.StationAtNode.offer.Goals as goal

-- it ticked, and what is due is lost
pub returns-in-Err-plain_offers : goal.returns-in-Err-plain_offers
returns-in-Err-plain_offers g c =
    let sends = map arc_slice_items c.in-Ok.due.items in
    inr (map plain_offer sends, ((λ answers. (subst IsTrue c.in-Ok.ensures.asks_none.answers answers, sends, c.in-Ok.ensures.ticked answers, refl)), refl))

-- it didn't
pub returns-in-Err : goal.returns-in-Err
returns-in-Err g c = inl ((λ answers. (subst IsTrue c.in-Err.ensures.asks_none.answers answers, c.in-Err.ensures.unchanged)), refl)
