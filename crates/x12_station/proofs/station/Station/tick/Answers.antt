use Rattle.std.proofs.Common.{ap, arith, refl}
use Rattle.std.specs.Prelude.{length}
use Rattle.std.proofs.lemmas.List.{length-map}
use Rattle.std.specs.Arc.{arc_slice_items}
use Rattle.x12_station.proofs.TickLemmas.{ready_after, keeps_after, durable_after, due_bounded, ticks}
use Rattle.x12_station.proofs.StoppedLemmas.{step_untouched, whole}
use Rattle.x12_station.proofs.station.Station.tick.Goals as goal

pub invariant_of-self : goal.invariant_of-self
invariant_of-self g c =
    let was = c.self.invariant in
    let m = c.self.inside.memory in
    let s = g.R.Records.content c.self.inside.records in
    record {
      valid = was.valid;
      left = was.left;
      ready = ready_after c.args.now m c.sent.new.self (ap (λ v. v.holds) c.sent.ensures) was.ready;
      held = λ answers. (keeps_after c.args.now m c.sent.new.self (ap (λ v. v.holds) c.sent.ensures) s (was.held answers).0, durable_after c.args.now m c.sent.new.self (ap (λ v. v.holds) c.sent.ensures) s (was.held answers).1);
    }

pub returns-clause-ticked : goal.returns-clause-ticked
returns-clause-ticked g c = λ answers.
    let was = c.self.invariant in
    let m = c.self.inside.memory in
    let s = g.R.Records.content c.self.inside.records in
    rw (← c.self.view_is, c.in_ok-due.ensures) (ticks c.args.now m c.sent.new.self (ap (λ v. v.holds) c.sent.ensures) s (was.held answers).0 (was.held answers).1)

pub returns-in_err-due-clause-asks_none : goal.returns-in_err-due-clause-asks_none
returns-in_err-due-clause-asks_none g c =
    let m = c.self.inside.memory in
    let was = c.self.invariant in
    rw (← c.self.view_is) (record {
      answers = refl;
      clean = refl;
      failures = refl;
      left = whole g.R.Records _ m.ledger.holds m.ledger.holds m.counts m.counts (λ d answers may. g.met.R.Records.left_is_held c.self.inside.records d was.valid answers may) (step_untouched g.R.Records _);
    })

pub returns-clause-asks_none : goal.returns-clause-asks_none
returns-clause-asks_none g c =
    let m = c.self.inside.memory in
    let n = c.sent.new.self in
    let was = c.self.invariant in
    rw (← c.self.view_is) (record {
      answers = refl;
      clean = refl;
      failures = refl;
      left = whole g.R.Records _ m.ledger.holds n.holds m.counts m.counts (λ d answers may. g.met.R.Records.left_is_held c.self.inside.records d was.valid answers may) (step_untouched g.R.Records _);
    })

-- what is due is open
pub returns-clause-bounded : goal.returns-clause-bounded
returns-clause-bounded g c =
    let v = c.self.inside.memory.ledger.holds in
    let n = ap length c.in_ok-due.ensures in
    let l = length-map c.in_ok-due.due.items arc_slice_items in
    let le = due_bounded c.args.now v in
    rw (← c.self.view_is) (omega (arith, n, l, le))
