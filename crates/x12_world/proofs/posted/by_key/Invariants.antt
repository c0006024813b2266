-- what stands under each key, and the postings with it that are left
use Rattle.std.proofs.Common.{◌≡◌, ◌++◌, map, length}
use Rattle.std.specs.Vec.Iter.{into_iter_items, into_iter_len}
use Rattle.x12_acks.specs.Key.{key_view}
use Rattle.x12_acks.specs.declared.key.SetKey.{SetKey}
use Rattle.x12_inbound.specs.Posting.{posting_view}
use Rattle.x12_world.specs.Auditing.{posted_bytes}
use Rattle.x12_world.specs.Posted.{bytes_under}
use Rattle.x12_world.proofs.posted.by_key.Given as goal

abbrev pub invariant-loop-posting : goal.invariant-loop-posting
invariant-loop-posting l =
    ((k : SetKey) → bytes_under l.posted k ++ posted_bytes (key_view k) (map posting_view (into_iter_items l.posting-iterator))
    ≡ posted_bytes (key_view k) (map posting_view (into_iter_items l.initial.posting-iterator)))
    × (into_iter_len l.posting-iterator ≡ length (into_iter_items l.posting-iterator))
