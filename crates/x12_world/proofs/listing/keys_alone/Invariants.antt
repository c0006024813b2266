-- the keys so far, and those of the sets that are left
use Rattle.std.proofs.Common.{◌≡◌, ◌++◌, drop, map}
use Rattle.x12_acks.specs.Key.{key_view}
use Rattle.x12_world.specs.Listing.{keys_of_sets}
use Rattle.x12_world.specs.Placing.{outgoing_view}
use Rattle.x12_world.proofs.listing.keys_alone.Given as goal

abbrev pub invariant-loop-set : goal.invariant-loop-set
invariant-loop-set l = map key_view l.keys.items ++ keys_of_sets (map outgoing_view (drop l.set-index l.sets)) ≡ keys_of_sets (map outgoing_view l.sets)
