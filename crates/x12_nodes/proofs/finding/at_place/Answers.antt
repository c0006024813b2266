use Rattle.std.proofs.Common.{◌-◌, ◌∙◌, sym, map}
use Rattle.x12_core.specs.View.{packet_view}
use Rattle.x12_nodes.proofs.GetLemmas.{got, place_above}
use Rattle.x12_nodes.proofs.finding.at_place.Goals as goal

pub returns : goal.returns
returns c =
    got packet_view c.get.result c.args.packets.now (c.args.place - 1) c.get.ensures.lookup.1 c.get.ensures.lookup.3
    ∙ sym (place_above c.args.place (map packet_view c.args.packets.now) c.if-place-eq0.false)
