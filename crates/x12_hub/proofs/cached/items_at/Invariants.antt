-- what was gathered, and what is left, are the node's items
use Rattle.std.proofs.Common.{◌≡◌, ◌++◌, map}
use Rattle.x12_hub.specs.Mailbox.{items_in}
use Rattle.x12_hub.proofs.cached.items_at.Given as goal

abbrev pub invariant-loop-item : goal.invariant-loop-item
invariant-loop-item l = l.items.items ++ map (λ k. k.1) l.item-iterator ≡ items_in l.mailboxes l.node l.last
