use Rattle.std.proofs.Common.{◌∙◌, ◌+◌, sym, subst, map, take, arith}
use Rattle.std.proofs.lemmas.Grind.{common_steps}
use Rattle.std.specs.List.{enumerate_from}
use Rattle.sqlite.specs.Held.{state}
use Rattle.x12_outbound.specs.Entry.{group_row, set_row}
use Rattle.x12_station_records.proofs.StationAddedLemmas.{so_far, and_set}
use Rattle.x12_station_records.proofs.StationParts.{goes_step}
use Rattle.x12_station_records.specs.StationChange.{Turns, with_stored_set, HasNextSet, set_of}
use Rattle.x12_station_records.specs.StationPart.{AddsSets}
use Rattle.x12_station_records.proofs.station_outset.add_sets.Goals as goal

pub loop-i-preserved : goal.loop-i-preserved
loop-i-preserved g c =
    let at = c.loop-i in
    let a = state g.S.Store c.args.tx.now.conn.now in
    let b = state g.S.Store at.tx.conn.now in
    let d = state g.S.Store c.add_set.new.tx.conn.now in
    let f = set_of c.args.icn (c.args.place, group_row c.args.group.now) in
    let items = c.deref-set-items.result.now in
    let xs = map f (enumerate_from 1 (take at.i (map set_row items))) in
    let t = f (at.i + 1, set_row c.set-item.result) in
    let is = so_far f set_row at.i items _ c.set-item.result c.loop-i-test.true (sym c.set-item.is) in (
      c.add_set.ensures.same_reference ∙ at.invariant.0,
      goes_step (λ to. AddsSets c.args.at xs to) at.next (Turns (with_stored_set t) (HasNextSet at.next)) c.in_ok-add_set.field-0 (λ to. AddsSets c.args.at (map f (enumerate_from 1 (take (at.i + 1) (map set_row items)))) to) (at.next + 1) a b d
          (λ first second. subst (λ ts. AddsSets c.args.at ts (at.next + 1) a d) (sym is) (and_set a b d c.args.at at.next xs first t second)) at.invariant.1 c.in_ok-add_set.ensures.part,
    )

pub returns-clause-part : goal.returns-clause-part
returns-clause-part g c = grind (arith, common_steps)
