-- what was put, and what is left, is all that waits
use Rattle.std.proofs.Common.{◌≡◌, ◌||◌, ℕ, map, drop}
use Rattle.std.specs.BTreeSet.{contains}
use Rattle.x12_hub.specs.Record.{waiting_view}
use Rattle.x12_hub.specs.Mailbox.{is_waiting, key_order}
use Rattle.x12_hub.proofs.cached.mailboxes_of.Given as goal

abbrev pub invariant-loop-node : goal.invariant-loop-node
invariant-loop-node l =
    (node item : ℕ) → (contains key_order l.mailboxes (node, item) || is_waiting (map waiting_view (drop l.node-index l.waiting)) node item) ≡ is_waiting (map waiting_view l.waiting) node item
