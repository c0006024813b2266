use Rattle.std.proofs.Common.{◌≡◌, ◌∙◌, ◌+◌, rules, ℕ, List, [], drop, map, subst, arith}
use Rattle.std.proofs.Math.ListN.{drop_of_length-le}
use Rattle.x12_station_records.proofs.StationSentTaken.{AreLeftOf, all_left, left_begins, less_left, none_left}
use Rattle.x12_station_records.proofs.StationStepLemmas.{sent_next, left_next}
use Rattle.x12_station_records.proofs.TakesLemmas.{rows_failed}
use Rattle.x12_station_records.specs.StationAdopt.{AreOfAll, set_read}
use Rattle.x12_station_records.proofs.station_groups.test_sent.Goals as goal

pub loop-submission-init : goal.loop-submission-init
loop-submission-init c = record { are = λ are. are; left = all_left c.args.book (map (λ (x : ℕ × ℕ). x.0) c.args.sent.now) c.args.rows.now }

pub returns-in_err-next-clause-taken : goal.returns-in_err-next-clause-taken
returns-in_err-next-clause-taken c =
    let loop = c.loop-submission in
    let icns = λ (xs : List (ℕ × ℕ)). map (λ (x : ℕ × ℕ). x.0) xs in
    rows_failed _ _ _ c.in_err-next.field-0.0 _ c.from_residual.result c.from_residual.ensures.1 (λ f is memory. is ∙ memory) c.in_err-next.ensures.taken
    (λ h. left_begins c.args.book loop.least _ (icns (drop (loop.submission-index + 1) c.args.sent.now)) loop.rest.now
    (subst (λ xs. AreLeftOf c.args.book loop.least (icns xs) loop.rest.now) (left_next loop.submission-index c.args.sent.now _ c.loop-submission-test.true) (loop.invariant.left h)))

pub loop-submission-preserved : goal.loop-submission-preserved
loop-submission-preserved c =
    let loop = c.loop-submission in
    let found = c.in_ok-next.ensures.is in
    let icns = λ (xs : List (ℕ × ℕ)). map (λ (x : ℕ × ℕ). x.0) xs in
    record {
      are = sent_next c.args.book loop.least c.in_ok-next.next found.0 loop.submission-index c.args.sent.now _ loop.rest.now c.in_ok-next.behind.now
          (AreOfAll c.args.book 0 (icns c.args.sent.now) (map set_read c.args.rows.now)) c.loop-submission-test.true found.1 found.2.one loop.invariant.are;
      left = λ h. less_left c.args.book loop.least _ found.0 c.in_ok-next.next (icns (drop (loop.submission-index + 1) c.args.sent.now)) loop.rest.now c.in_ok-next.behind.now found.1 found.2
          (subst (λ xs. AreLeftOf c.args.book loop.least (icns xs) loop.rest.now) (left_next loop.submission-index c.args.sent.now _ c.loop-submission-test.true) (loop.invariant.left h));
    }

pub returns-then-not-is_empty-clause-taken : goal.returns-then-not-is_empty-clause-taken
returns-then-not-is_empty-clause-taken c h =
    let loop = c.loop-submission in
    let none : drop loop.submission-index c.args.sent.now ≡ [] = drop_of_length-le c.args.sent.now {i = loop.submission-index} (omega (arith, c.loop-submission-test.false)) in
    let left = subst (λ (xs : List (ℕ × ℕ)). AreLeftOf c.args.book loop.least (map (λ (x : ℕ × ℕ). x.0) xs) loop.rest.now) none (loop.invariant.left h) in
    let empty = none_left c.args.book loop.least loop.rest.now left in
    search rules
