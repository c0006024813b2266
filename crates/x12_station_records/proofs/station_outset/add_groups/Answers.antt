use Rattle.std.proofs.Common.{◌∙◌, ◌+◌, sym, subst, map, flat_map, take, arith}
use Rattle.std.proofs.lemmas.Grind.{common_steps}
use Rattle.std.specs.List.{enumerate_from}
use Rattle.sqlite.specs.Held.{state}
use Rattle.x12_outbound.specs.Entry.{group_row}
use Rattle.x12_station.specs.Stored.{rows_of_group, rows_of_entry}
use Rattle.x12_station_records.proofs.StationAddedLemmas.{all_so_far, and_sets}
use Rattle.x12_station_records.proofs.StationParts.{goes_both}
use Rattle.x12_station_records.specs.StationPart.{AddsSets}
use Rattle.x12_station_records.proofs.station_outset.add_groups.Goals as goal

pub loop-i-preserved : goal.loop-i-preserved
loop-i-preserved g c =
    let at = c.loop-i in
    let from = c.args.at in
    let to = c.in_ok-next.next in
    let a = state g.S.Store c.args.tx.now.conn.now in
    let b = state g.S.Store at.tx.conn.now in
    let d = state g.S.Store c.add_sets.new.tx.conn.now in
    let f = rows_of_group c.args.entry.now.icn in
    let items = c.deref-group-items.result.now in
    let xs = flat_map f (enumerate_from 1 (take at.i (map group_row items))) in
    let ys = f (at.i + 1, group_row c.group-item.result) in
    let is = all_so_far f group_row at.i items _ c.group-item.result c.loop-i-test.true (sym c.group-item.is) in (
      c.add_sets.ensures.same_reference ∙ at.invariant.0,
      goes_both (λ to. AddsSets from xs to) at.next (λ to. AddsSets at.next ys to) to (λ to. AddsSets from (flat_map f (enumerate_from 1 (take (at.i + 1) (map group_row items)))) to) to a b d
          (λ first second. subst (λ ts. AddsSets from ts to a d) (sym is) (and_sets a b d from at.next xs first ys to second)) at.invariant.1 c.in_ok-next.ensures.part,
    )

pub returns-clause-part : goal.returns-clause-part
unfolding rows_of_entry
returns-clause-part g c = grind (arith, common_steps)
