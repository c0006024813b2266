-- The sets of the group at the place were written over.
use Rattle.x12_outbound.specs.Entry.{SetRow, GroupRow, group_row, with_place}
use Rattle.x12_outbound.proofs.PlaceLemmas.{with_place_map}
use Rattle.x12_outbound.proofs.WriteLemmas.{group_written}
use Rattle.x12_station.proofs.submissions.settle_group.Goals as goal

pub returns-in-Some : goal.returns-in-Some
returns-in-Some c =
    let settled = λ (s : SetRow). record s { fate = c.args.fate } in
    let f = λ (g : GroupRow). record g { sets = with_place settled c.args.set g.sets } in
    with_place_map group_row f _ _ _ _ _ c.in-Some.ensures.within.0 c.in-Some.ensures.within.1 c.index-groups-index.is
    (group_written _ _ _ _ settled c.args.set c.index-groups-index.is c.deref_mut.ensures.value c.settle_set.auto.sets c.settle_set.ensures)
