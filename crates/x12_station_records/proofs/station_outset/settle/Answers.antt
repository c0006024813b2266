use Rattle.std.proofs.Common.{◌∙◌, ◌+◌, [], refl, sym, subst, map, take, get_or, Ok}
use Rattle.sqlite.specs.declared.error.Error.{Error}
use Rattle.sqlite.specs.Held.{state}
use Rattle.x12_outbound.specs.Settling.{target_view}
use Rattle.x12_station_records.proofs.StationFiledLemmas.{one_further, all_of_them, no_fates, and_fate}
use Rattle.x12_station_records.proofs.StationParts.{goes_step, stands}
use Rattle.x12_station_records.specs.StationChange.{Turns, with_stored_fate, with_fates, SetsOnce}
use Rattle.x12_station_records.specs.StationPart.{PartGoesOn}
use Rattle.x12_station_records.proofs.station_outset.settle.Goals as goal

pub loop-key-init : goal.loop-key-init
loop-key-init g c =
    let a = state g.S.Store c.args.tx.now.conn.now in
    (refl, stands {E = Error} (λ (u : Unit {0}). Turns (with_fates []) SetsOnce) a tt (no_fates a))

pub loop-key-preserved : goal.loop-key-preserved
loop-key-preserved g c =
    let at = c.loop-key in
    let a = state g.S.Store c.args.tx.now.conn.now in
    let b = state g.S.Store at.tx.conn.now in
    let d = state g.S.Store c.settle_set.new.tx.conn.now in
    let items = c.args.settled.now in
    let ts = take at.key-index (map target_view items) in
    let t = get_or items at.key-index _ in
    let is = one_further target_view at.key-index items _ t c.loop-key-test.true refl in (
      c.settle_set.ensures.same_reference ∙ at.invariant.0,
      goes_step (λ u. Turns (with_fates ts) SetsOnce) tt (Turns (with_stored_fate (target_view t).0 (target_view t).1) SetsOnce) c.in_ok-settle_set.field-0 (λ u. Turns (with_fates (take (at.key-index + 1) (map target_view items))) SetsOnce) tt a b d
          (λ first second. subst (λ us. Turns (with_fates us) SetsOnce a d) (sym is) (and_fate a b d ts (target_view t) first second)) at.invariant.1 c.in_ok-settle_set.ensures.part,
    )

pub returns-clause-part : goal.returns-clause-part
returns-clause-part g c =
    let at = c.loop-key in
    let items = c.args.settled.now in
    subst (λ us. PartGoesOn {A = Unit {0}} {E = Error} (λ u. Turns (with_fates us) SetsOnce) (Ok tt) (state g.S.Store c.args.tx.now.conn.now) (state g.S.Store at.tx.conn.now)) (all_of_them target_view at.key-index items c.loop-key-test.false) at.invariant.1
