-- endpoints so far are new, in their places, and as many as the nodes so far; and there is room for all
use Rattle.std.proofs.Common.{◌≡◌, All, [], length, map, vec_capacity}
use Rattle.x12_network.specs.Senders.{ArePlaced}
use Rattle.x12_network.proofs.network.put_endpoints.Given as goal

abbrev pub invariant-loop-place : goal.invariant-loop-place
invariant-loop-place g l = record {
  count : length l.endpoints.items ≡ l.place;
  room : vec_capacity l.endpoints ≡ vec_capacity l.fn.endpoints;
  new : All (λ p. p ≡ []) (map (λ e. e.recipient.pass) l.endpoints.items);
  placed : ArePlaced l.sites (map (λ e. (e.node, e.senders.items)) l.endpoints.items);
}
