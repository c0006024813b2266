-- those so far are copied
use Rattle.std.proofs.Common.{◌≡◌, take, map}
use Rattle.x12_inbound.specs.Posting.{posting_view}
use Rattle.x12_station.proofs.arrivals.copy_postings.Given as goal

abbrev pub invariant-loop-posting : goal.invariant-loop-posting
invariant-loop-posting l = map posting_view l.copies.items ≡ map posting_view (take l.posting-index l.postings)
