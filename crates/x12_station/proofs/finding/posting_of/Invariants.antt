-- the postings that are left decide
use Rattle.std.proofs.Common.{◌≡◌, drop, map}
use Rattle.x12_acks.specs.Key.{key_view}
use Rattle.x12_inbound.specs.Posting.{posting_view}
use Rattle.x12_inbound.specs.Register.{posted_in}
use Rattle.x12_station.proofs.finding.posting_of.Given as goal

abbrev pub invariant-loop-posting : goal.invariant-loop-posting
invariant-loop-posting l =
    posted_in (map posting_view l.postings) (key_view l.key)
    ≡ posted_in (map posting_view (drop l.posting-index l.postings)) (key_view l.key)
