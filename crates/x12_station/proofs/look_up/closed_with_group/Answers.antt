-- The submission at the place that was searched alone may be found.
use Rattle.std.proofs.Common.{◌∙◌, ap, sym}
use Rattle.std.specs.Prelude.{option_and_then}
use Rattle.x12_station.specs.Memory.{only_if, is_closed_with}
use Rattle.x12_station.proofs.LookUpLemmas.{group_found, entry_at, entry_past}
use Rattle.x12_station.proofs.look_up.closed_with_group.Goals as goal

pub returns-then-at-rows : goal.returns-then-at-rows
returns-then-at-rows c =
    sym (group_found c.args.partner.now c.args.functional c.args.gcn c.row_of_group-at.result c.args.rows.now c.row_of_group-at.ensures
    ∙ ap (option_and_then (only_if (is_closed_with c.args.partner.now c.args.functional c.args.gcn))) (entry_past c.args.rows.now c.row_of_group-at.result c.if-at-rows.true))

pub returns : goal.returns
returns c =
    c.closed_with.ensures
    ∙ sym (group_found c.args.partner.now c.args.functional c.args.gcn c.row_of_group-at.result c.args.rows.now c.row_of_group-at.ensures
    ∙ ap (option_and_then (only_if (is_closed_with c.args.partner.now c.args.functional c.args.gcn))) (entry_at c.args.rows.now c.row_of_group-at.result c.index-rows-at.result c.if-at-rows.false))
