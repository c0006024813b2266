use Rattle.std.proofs.Common.{subst, map, List, ℕ}
use Rattle.x12_acks.specs.Answer.{answer_view}
use Rattle.x12_outbound.specs.Ledger.{LedgerRow}
use Rattle.x12_station.specs.Closed.{HoldsClosed}
use Rattle.x12_station.specs.Stored.{Stored}
use Rattle.x12_station.proofs.ClosedLemmas.{are_found}
use Rattle.x12_station.proofs.planning.planned.Goals as goal

pub returns-clause-heard : goal.returns-clause-heard
returns-clause-heard g c = λ answers.
    let mid = c.closed_beside.ensures.asked.never_won_back answers in
    let s = g.R.Records.content c.args.records.now in
    let sound = g.met.R.Records.sound c.args.records.now c.requires.valid (c.numbers_named.ensures.asked.never_won_back mid) in
    let rows = map (λ (r : LedgerRow). r.interchange) c.in_ok-closed.closed.holds.rows in
    let held = subst (λ (t : Stored). HoldsClosed t c.in_ok-numbers.numbers.items rows) (c.numbers_named.ensures.asked.same mid)
    (subst (λ (ns : List ℕ). HoldsClosed (g.R.Records.content c.numbers_named.new.records) ns rows) c.deref.ensures.value (c.in_ok-closed.ensures.held answers)) in
    record {
      closed = c.in_ok-closed.closed.holds;
      me = c.in_ok-closed.ensures.closed.me;
      found = are_found s sound c.args.from.now (map answer_view c.args.answers.now) c.in_ok-numbers.numbers.items rows (c.in_ok-numbers.ensures.numbers mid) held;
      evidence = c.in_ok-plan.ensures.evidence;
      pieces = c.in_ok-plan.ensures.pieces;
      unclear = c.in_ok-plan.ensures.unclear;
    }
