-- the hubs and the stations so far, and those of the cells that are left, are all; and what is left has room
use Rattle.std.proofs.Common.{◌≡◌, ◌≤◌, ◌+◌, ◌++◌, length, map, vec_len, vec_capacity}
use Rattle.std.specs.Vec.Iter.{into_iter_items, into_iter_len}
use Rattle.x12_nodes.specs.Unlocking.{hubs_of_cells, states_in}
use Rattle.x12_world.specs.Asking.{states_of}
use Rattle.x12_nodes.proofs.unlocking.part.Given as goal

abbrev pub invariant-loop-cell : goal.invariant-loop-cell
invariant-loop-cell g l = record {
  states : states_of l.stations.items ++ states_in (into_iter_items l.left) ≡ states_of l.initial.stations.items ++ states_in l.fn.cells.items;
  long : into_iter_len l.left ≡ length (into_iter_items l.left);
  kept : map (λ h. h.hub) l.hubs.items ++ hubs_of_cells (into_iter_items l.left) ≡ map (λ h. h.hub) l.initial.hubs.items ++ hubs_of_cells l.fn.cells.items;
  hubs : into_iter_len l.left + vec_len l.hubs ≤ vec_capacity l.hubs;
  stations : into_iter_len l.left + vec_len l.stations ≤ vec_capacity l.stations;
}

abbrev pub decreases-loop-cell : goal.decreases-loop-cell
decreases-loop-cell g l = into_iter_len l.left
