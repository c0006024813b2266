-- The sets are those of what was read.
use Rattle.std.proofs.Common.{map, sym, ◌∙◌}
use Rattle.x12_world.specs.Placing.{outgoing_view}
use Rattle.x12_world.proofs.PlacingLemmas.{all_sets, no_sets_in}
use Rattle.x12_world.proofs.placing.push_sets.Goals as goal

pub returns-in_default : goal.returns-in_default
returns-in_default c = no_sets_in c.args.bytes.now c.read_header.result (map outgoing_view c.args.sets.now.items) c.read_header.ensures c.in_default.not-Ok

pub returns : goal.returns
returns c =
    let h = c.in-Ok.header in
    all_sets c.args.bytes.now h c.in_ok-groups.groups.items c.deref.result.now (map outgoing_view c.args.sets.now.items) (map outgoing_view c.push_groups.new.sets.items) c.push_groups.result
    (sym c.read_header.ensures ∙ c.in-Ok.is) c.in_ok-groups.ensures.sets c.deref.ensures.value (c.push_groups.ensures h.delims)
