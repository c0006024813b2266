use Rattle.std.proofs.Common.{◌∙◌, ◌++◌, refl, ap, ap₂, sym, subst, map, take, get_or, ℕ, arith}
use Rattle.std.proofs.lemmas.Grind.{common_steps}
use Rattle.std.specs.Prelude.{option_to_list, Contains}
use Rattle.x12_outbound.specs.Ledger.{LedgerRow}
use Rattle.x12_station.specs.Closed.{next_closed, HoldsClosed, above_entries}
use Rattle.x12_station.specs.Stored.{Stored, closed_entry}
use Rattle.std.proofs.lemmas.List.{take_more}
use Rattle.x12_station.proofs.BesideLemmas.{closed_beside_is, none_held, holds_none, next_left, beside_more, lower_more, holds_more}
use Rattle.x12_station.proofs.StandingLemmas.{asked_again, not_asked}
use Rattle.x12_numbers.proofs.Shelf.{none_in_nil}
use Rattle.x12_station.proofs.closed.closed_beside.Goals as goal

pub loop-icn-init : goal.loop-icn-init
loop-icn-init g c =
    let v = c.args.ledger.now.holds in
    let none = none_held v c.beside-closed.result.holds c.beside-closed.ensures.empty in
    record {
      asked = not_asked c.requires.valid;
      counted = refl;
      me = none.0;
      beside = λ e at. none_in_nil e (subst (λ l. Contains l e) none.1 at);
      lower = λ e n at there. none_in_nil e (subst (λ l. Contains l e) none.1 at);
      least = sym (ap above_entries none.1);
      held = λ answers. holds_none (g.R.Records.content c.args.records.now) (map (λ r. r.interchange) c.beside-closed.result.holds.rows) none.1;
    }

pub look_for-requires-clause-lower : goal.look_for-requires-clause-lower
look_for-requires-clause-lower g c = λ e at. c.loop-icn.invariant.lower e (get_or c.args.numbers.now c.loop-icn.icn-index 0) at (next_left c.loop-icn.icn-index c.args.numbers.now c.loop-icn-test.true)

pub loop-icn-preserved : goal.loop-icn-preserved
loop-icn-preserved g c =
    let was = c.loop-icn.invariant in
    let call = c.look_for.ensures in
    let looks = c.in_ok-least.ensures.looks in
    let v = c.args.ledger.now.holds in
    let old = c.loop-icn.closed.holds in
    let new = c.look_for.new.closed.holds in
    let i = c.loop-icn.icn-index in
    let xs = c.args.numbers.now in
    record {
      asked = asked_again was.asked call.asked;
      counted = c.in_ok-least.ensures.device.ok ∙ was.counted;
      me = looks.me ∙ was.me;
      beside = beside_more v old new i xs c.loop-icn-test.true c.requires.rising c.in_ok-least.least looks was.beside;
      lower = lower_more v old new i xs c.loop-icn-test.true c.requires.rising c.in_ok-least.least looks was.lower;
      least = looks.above;
      held = λ answers.
          let before = call.asked.never_won_back answers in
          let start = was.asked.never_won_back before in
          let s = g.R.Records.content c.args.records.now in
          let n = get_or xs i 0 in
          let rows = map (λ (r : LedgerRow). r.interchange) old.rows in
          let sound = g.met.R.Records.sound c.args.records.now c.requires.valid start in
          let found = c.in_ok-least.ensures.found answers ∙ ap₂ (λ (m : ℕ) (t : Stored). rows ++ option_to_list (next_closed v n m (closed_entry t n))) was.least (was.asked.same before) in
          subst (λ ns. HoldsClosed s ns (map (λ (r : LedgerRow). r.interchange) new.rows)) (sym (take_more xs i 0 c.loop-icn-test.true))
          (holds_more v s sound (c.requires.keeps start) n rows (take i xs) (was.held before) (λ e at. was.lower e n at (next_left i xs c.loop-icn-test.true)) (map (λ (r : LedgerRow). r.interchange) new.rows) found);
    }

pub returns-clause-closed : goal.returns-clause-closed
returns-clause-closed g c = closed_beside_is c.args.ledger.now.holds c.loop-icn.closed.holds c.loop-icn.invariant.me c.loop-icn.invariant.beside

pub returns-clause-held : goal.returns-clause-held
returns-clause-held g c = grind (arith, common_steps)
