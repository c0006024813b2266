-- what is left of both decides
use Rattle.std.proofs.Common.{◌≡◌, ◌++◌, List, length, map}
use Rattle.x12_acks.specs.Accepted.{AcceptedSet}
use Rattle.x12_inbound.specs.Posting.{posting_view}
use Rattle.x12_verify.proofs.posted.strip.Given as goal

abbrev pub invariant-loop-posting : goal.invariant-loop-posting
invariant-loop-posting l =
    (more : List AcceptedSet) → map posting_view l.left ≡ map posting_view l.wanted ++ more → map posting_view l.fn.postings.left.now ≡ map posting_view l.fn.due ++ more

abbrev pub decreases-loop-posting : goal.decreases-loop-posting
decreases-loop-posting l = length l.wanted
