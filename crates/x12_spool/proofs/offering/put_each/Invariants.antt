use Rattle.std.proofs.Common.{map, take}
use Rattle.x12_spool.specs.Deed.{AddsDeeds}
use Rattle.x12_spool.specs.Node.{offer_view}
use Rattle.x12_spool.specs.Offering.{deed_of_offer}
use Rattle.x12_spool.proofs.offering.put_each.Given as goal

-- the offers before this one were put
abbrev pub invariant-loop-offer : goal.invariant-loop-offer
invariant-loop-offer g l =
    AddsDeeds (g.P.Spool.done l.fn.spool) (g.P.Spool.done l.spool) (map deed_of_offer (map offer_view (take l.offer-index l.offers)))
