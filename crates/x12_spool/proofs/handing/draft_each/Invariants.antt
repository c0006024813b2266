use Rattle.std.proofs.Common.{map, take}
use Rattle.x12_inbound.specs.Posting.{posting_view}
use Rattle.x12_spool.specs.Deed.{AddsDeeds, Drafts}
use Rattle.x12_spool.proofs.handing.draft_each.Given as goal

-- the postings before this one were drafted
abbrev pub invariant-loop-posting : goal.invariant-loop-posting
invariant-loop-posting g l =
    AddsDeeds (g.F.HandOver.done l.fn.folder) (g.F.HandOver.done l.folder) (map Drafts (map posting_view (take l.posting-index l.postings)))
