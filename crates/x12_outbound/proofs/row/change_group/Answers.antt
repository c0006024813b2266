use Rattle.x12_outbound.specs.Entry.{GroupRow, group_row, with_place}
use Rattle.x12_outbound.specs.Ledger.{set_row_changed}
use Rattle.x12_outbound.proofs.PlaceLemmas.{with_place_map}
use Rattle.x12_outbound.proofs.WriteLemmas.{group_written}
use Rattle.x12_outbound.proofs.row.change_group.Goals as goal

-- the sets of the group at the place were changed
pub returns-in-Some : goal.returns-in-Some
returns-in-Some c =
    let f = λ (g : GroupRow). record g { sets = with_place (set_row_changed c.args.change) c.args.set g.sets } in
    with_place_map group_row f _ _ _ _ _ c.in-Some.ensures.within.0 c.in-Some.ensures.within.1 c.index-groups-index.is
    (group_written _ _ _ _ (set_row_changed c.args.change) c.args.set c.index-groups-index.is c.deref_mut.ensures.value c.change_set.auto.sets c.change_set.ensures)
