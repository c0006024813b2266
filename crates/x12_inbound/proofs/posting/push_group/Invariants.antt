use Rattle.std.proofs.Common.{◌≡◌, ◌+◌, ◌++◌, drop, map, filter}
use Rattle.std.specs.List.{enumerate_from}
use Rattle.x12_judge.specs.Set.{set_is_accepted}
use Rattle.x12_judge.specs.Verdict.{group_verdict_view, set_verdict_view}
use Rattle.x12_inbound.specs.Posting.{posting_view}
use Rattle.x12_acks.specs.Accepted.{judged_set, accepted_in_group}
use Rattle.x12_inbound.proofs.posting.push_group.Given as goal

-- the postings so far, and those of the sets that are left, are the postings of the group
abbrev pub invariant-loop-set : goal.invariant-loop-set
invariant-loop-set l =
    let g = group_verdict_view l.group in
    record {
      place : l.place ≡ l.set-index + 1;
      postings :
          map posting_view l.postings.items
          ++ map (judged_set l.partner l.icn g) (filter (λ p. set_is_accepted p.1) (enumerate_from l.place (map set_verdict_view (drop l.set-index l.group.sets.items))))
          ≡ map posting_view l.initial.postings.items ++ accepted_in_group l.partner l.icn g;
    }
