use Rattle.std.proofs.Common.{◌≡◌, ◌++◌, take, map, flat_map}
use Rattle.x12_judge.specs.Verdict.{group_verdict_view}
use Rattle.x12_inbound.specs.Posting.{posting_view}
use Rattle.x12_acks.specs.Accepted.{accepted_in_group}
use Rattle.x12_inbound.proofs.posting.push_groups.Given as goal

-- the postings of the groups so far are appended
abbrev pub invariant-loop-group : goal.invariant-loop-group
invariant-loop-group l =
    map posting_view l.postings.items
    ≡ map posting_view l.initial.postings.items
    ++ flat_map (accepted_in_group l.partner l.icn) (map group_verdict_view (take l.group-index l.groups))
