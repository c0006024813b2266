-- A hub's number, or a station's.
use Rattle.std.proofs.Common.{◌≡◌, false, ap, sym, ◌∙◌}
use Rattle.std.specs.Prelude.{◌||◌, is_some}
use Rattle.x12_core.specs.Node.{is_station}
use Rattle.x12_world.specs.Nodes.{is_hub_number, node_at}
use Rattle.x12_world.specs.Running.{hubs_in, nodes_of}
use Rattle.x12_world.proofs.RunningLemmas.{node_test, second_kept}
use Rattle.x12_world.proofs.admitting.is_node.Goals as goal

pub returns : goal.returns
returns g c = λ numbers.
    let h = hubs_in c.args.hubs.now in
    let ss = c.args.stations.now in
    let node = c.args.node in
    let isnt : is_hub_number (is_some h.second) node ≡ false = sym (second_kept c.args.hubs.now node) ∙ sym c.have.ensures ∙ c.if-have.false in
    c.is_station.ensures.station h numbers ∙ ap (λ b. b || is_station (node_at (nodes_of h ss) node)) (sym isnt) ∙ node_test h ss node numbers
