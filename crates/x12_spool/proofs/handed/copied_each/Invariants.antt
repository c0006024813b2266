use Rattle.std.proofs.Common.{◌≡◌, map, take}
use Rattle.x12_inbound.specs.Posting.{posting_view}
use Rattle.x12_spool.proofs.handed.copied_each.Given as goal

abbrev pub invariant-loop-posting : goal.invariant-loop-posting
invariant-loop-posting l = map posting_view l.copies.items ≡ map posting_view (take l.posting-index l.postings)
