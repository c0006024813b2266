use Rattle.std.proofs.Common.{ap, sym, ◌∙◌, map, set, arith}
use Rattle.std.proofs.lemmas.List.{map-set, length-map, get_or-map}
use Rattle.x12_acks.specs.Key.{key_view}
use Rattle.x12_outbound.specs.Ledger.{set_row_changed, row_view}
use Rattle.x12_outbound.proofs.RowLemmas.{changed_row, changed_none}
use Rattle.x12_outbound.proofs.WriteLemmas.{row_written}
use Rattle.x12_outbound.proofs.row.change_row.Goals as goal

-- the groups of the interchange of the number were changed
pub returns-in-Some : goal.returns-in-Some
returns-in-Some c =
    let found = c.in-Some.ensures.found in
    let rows = c.args.rows.now in
    let at = c.in-Some.index in
    let row = c.index-rows-index.result in
    let key = key_view c.args.key.now in
    let f = set_row_changed c.args.change in
    map-set row_view rows at _
    ∙ ap (set (map row_view rows) at) (row_written _ row _ _ f key.group key.set c.index-rows-index.is c.deref_mut.ensures.value c.change_group.auto.groups c.change_group.ensures)
    ∙ sym (changed_row f key (map row_view rows) at (row_view row) c.requires
    (omega (arith, length-map rows row_view, found.0))
    (ap row_view c.index-rows-index.is ∙ sym (get_or-map row_view rows at row (row_view row) found.0))
    (rw c.index-rows-index.is (found.1 row)))

pub returns-in_default : goal.returns-in_default
returns-in_default c = sym (changed_none (set_row_changed c.args.change) (key_view c.args.key.now) _ c.in_default.ensures.none)
