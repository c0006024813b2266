use Rattle.x12_spool.proofs.DeedLemmas.{err_holds}
use Rattle.x12_spool.proofs.OfferLemmas.{stops_put}
use Rattle.x12_spool.proofs.offering.put_each.Goals as goal

pub returns-in_err-put_offer-clause-stopped : goal.returns-in_err-put_offer-clause-stopped
returns-in_err-put_offer-clause-stopped g c =
    err_holds (stops_put c.args.offers.now c.loop-offer.offer-index _ _ _ c.loop-offer.invariant c.in_err-put_offer.ensures.unput) _
