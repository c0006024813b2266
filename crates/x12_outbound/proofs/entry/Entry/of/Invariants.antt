use Rattle.std.proofs.Common.{◌≡◌, take, map}
use Rattle.x12_envelopes.specs.Shape.{group_view}
use Rattle.x12_acks.specs.Submission.{submitted_group as sent_group}
use Rattle.x12_outbound.specs.Entry.{group_row, pending_group}
use Rattle.x12_outbound.proofs.entry.Entry.of.Given as goal

-- the groups so far are entered
abbrev pub invariant-loop-group : goal.invariant-loop-group
invariant-loop-group l =
    map group_row l.groups.items
    ≡ map (λ g. pending_group (sent_group (group_view l.header.delims g))) (take l.group-index l.group-items)
