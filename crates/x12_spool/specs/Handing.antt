-- What is done where postings are handed over: what the mark has is settled; what is new is drafted, the drafts' folder
-- is synced, and then the postings are marked and named, in this order.
use Rattle.std.specs.Prelude.{◌++◌, ◌∷◌, [], List, map, ℕ}
use Rattle.x12_acks.specs.Accepted.{AcceptedSet}
use Rattle.x12_spool.specs.Deed.{Deed, Settles, Drafts, Syncs, Marks, Names}

abbrev pub drafted_synced_marked_named : List AcceptedSet → ℕ → List Deed
drafted_synced_marked_named new count = map Drafts new ++ Syncs ∷ Marks count ∷ map Names new

-- where nothing is new, nothing is marked
abbrev pub hands_new : List AcceptedSet → ℕ → List Deed
hands_new [] count = []
hands_new (p ∷ new) count = drafted_synced_marked_named (p ∷ new) count

-- of those that the mark has, whose drafts may stand, and of new ones, which are so many then
abbrev pub hands_over : List AcceptedSet → List AcceptedSet → ℕ → List Deed
hands_over marked new count = Settles marked ∷ hands_new new count
