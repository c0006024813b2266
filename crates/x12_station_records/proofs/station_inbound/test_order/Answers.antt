use Rattle.std.proofs.Common.{◌≡◌, ◌+◌, ◌-◌, ℕ, suc, ◌++◌, arith, map, subst, IsPermutation}
use Rattle.std.specs.List.{range_with_len}
use Rattle.x12_station_records.proofs.StationStepLemmas.{order_next}
use Rattle.x12_station_records.specs.StationTaken.{AreInTurn}
use Rattle.x12_station_records.proofs.station_inbound.test_order.Goals as goal

pub returns-in_default-clause-taken : goal.returns-in_default-clause-taken
returns-in_default-clause-taken c turn =
    let seq = λ (x : ℕ × ℕ). x.1 in
    let left = c.args.last - (c.loop-count.count + 1) in
    let more : c.args.last - c.loop-count.count ≡ suc left = omega (arith, c.loop-count-test.true) in
    absurd (c.in_default.ensures.taken left (subst (λ n. AreInTurn n (c.loop-count.count + 1) (map seq c.loop-count.ours.now) c.loop-count.theirs.now) more (c.loop-count.invariant.turn turn)))

pub loop-count-preserved : goal.loop-count-preserved
loop-count-preserved c =
    let seq = λ (x : ℕ × ℕ). x.1 in
    let left = c.args.last - (c.loop-count.count + 1) in
    let more : c.args.last - c.loop-count.count ≡ suc left = omega (arith, c.loop-count-test.true) in
    record {
      each = order_next c.args.last c.loop-count.count (map seq c.loop-count.ours.now ++ c.loop-count.theirs.now) (map seq c.in-Some.sent_left.now ++ c.in-Some.arrived_left.now)
          (IsPermutation (range_with_len 1 c.args.last) (map seq c.args.sent.now ++ c.args.arrived.now)) c.loop-count-test.true c.in-Some.ensures.moved c.loop-count.invariant.each;
      within = omega (arith, c.loop-count-test.true);
      turn = λ turn. c.in-Some.ensures.taken left (subst (λ n. AreInTurn n (c.loop-count.count + 1) (map seq c.loop-count.ours.now) c.loop-count.theirs.now) more (c.loop-count.invariant.turn turn));
    }
