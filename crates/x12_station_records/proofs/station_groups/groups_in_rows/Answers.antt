use Rattle.std.proofs.Common.{◌∙◌, map, sym}
use Rattle.x12_outbound.specs.Entry.{group_row}
use Rattle.x12_station_records.proofs.StationGroupLemmas.{put_next}
use Rattle.x12_station_records.proofs.StationGroupsTaken.{next_wide, next_follows, less_left}
use Rattle.x12_station_records.proofs.TakesLemmas.{rows_failed}
use Rattle.x12_station_records.specs.StationGroups.{placed_set_view}
use Rattle.x12_station_records.proofs.station_groups.groups_in_rows.Goals as goal

pub returns-in_err-placed_in_row-clause-taken : goal.returns-in_err-placed_in_row-clause-taken
returns-in_err-placed_in_row-clause-taken c =
    rows_failed _ _ _ c.in_err-placed_in_row.field-0.0 _ c.from_residual.result c.from_residual.ensures.1 (λ f is memory. is ∙ memory) c.in_err-placed_in_row.ensures.taken
    (λ h. next_wide (map group_row c.loop-row.groups.items) c.args.rows.now c.loop-row.row-index _ c.row-item.result c.loop-row-test.true (sym c.row-item.is) (c.loop-row.invariant.2 h))

pub returns-in_err-put_set-clause-taken : goal.returns-in_err-put_set-clause-taken
returns-in_err-put_set-clause-taken c =
    let p = c.in_ok-placed_in_row.field-0 in
    rows_failed _ _ _ c.in_err-put_set.field-0.0 _ c.from_residual-in_err-put_set.result c.from_residual-in_err-put_set.ensures.1 (λ f is memory. is ∙ memory) c.in_err-put_set.ensures.taken
    (λ h. next_follows (map group_row c.loop-row.groups.items) c.args.rows.now c.loop-row.row-index _ c.row-item.result c.loop-row-test.true (sym c.row-item.is) (c.loop-row.invariant.2 h) (placed_set_view 0 p) (c.in_ok-placed_in_row.ensures.shown 0))

pub loop-row-preserved : goal.loop-row-preserved
loop-row-preserved c =
    let p = c.in_ok-placed_in_row.field-0 in (
      λ icn. put_next icn (map group_row c.loop-row.groups.items) (map group_row c.put_set.new.groups.items) p c.args.rows.now c.loop-row.row-index _ c.row-item.result c.loop-row-test.true (sym c.row-item.is) (c.in_ok-placed_in_row.ensures.shown icn) (c.in_ok-put_set.ensures.placed icn) (c.loop-row.invariant.0 icn),
      c.in_ok-put_set.ensures.whole,
      λ h. less_left (map group_row c.loop-row.groups.items) c.args.rows.now c.loop-row.row-index _ c.row-item.result c.loop-row-test.true (sym c.row-item.is) (c.loop-row.invariant.2 h) (placed_set_view 0 p) (map group_row c.put_set.new.groups.items) (c.in_ok-placed_in_row.ensures.shown 0) c.in_ok-put_set.ensures.ends,
    )
