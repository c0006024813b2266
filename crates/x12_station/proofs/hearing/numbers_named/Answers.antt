use Rattle.std.proofs.Common.{rules, ◌≡◌, ◌∙◌, ◌++◌, ◌∷◌, [], ap, sym, subst, map, take, Some}
use Rattle.std.specs.Prelude.{Contains}
use Rattle.x12_acks.specs.Answer.{answer_view}
use Rattle.x12_outbound.specs.Entry.{InterchangeRow}
use Rattle.x12_station.specs.Closed.{HoldsNumbers}
use Rattle.x12_station.specs.Found.{closed_for}
use Rattle.x12_station.proofs.StandingLemmas.{asked_again}
use Rattle.x12_station.proofs.HearingLemmas.{number_pushed, no_number, sorted_once, taken_more}
use Rattle.std.proofs.lemmas.List.{take_all}
use Rattle.x12_station.proofs.hearing.numbers_named.Goals as goal
use Rattle.x12_station.proofs.hearing.numbers_named.Goals.{in-Some+in_ok-push-in-Some, in-None}

pub loop-answer-preserved : goal.loop-answer-preserved
loop-answer-preserved g c =
    let was = c.loop-answer.invariant in
    let call = c.number_named.ensures in
    record {
      asked = asked_again was.asked call.asked;
      counted = c.in_ok-icn.ensures.device.ok ∙ was.counted;
      named = λ answers.
          let before = call.asked.never_won_back answers in
          let s = g.R.Records.content c.args.records.now in
          let a = answer_view c.answer-item.result in
          let told : (e : InterchangeRow) → closed_for s c.args.from.now a ≡ Some e → c.in_ok-icn.field-0 ≡ Some e.icn =
          λ e is. c.in_ok-icn.ensures.number answers e (subst (λ t. closed_for t c.args.from.now a ≡ Some e) (sym (was.asked.same before)) is) in
          let more = taken_more answer_view c.args.answers.now c.loop-answer.answer-index c.answer-item.result (search rules) c.answer-item.is in
          subst (λ l. HoldsNumbers s c.args.from.now l c.match-branch-2.numbers.items) (sym more)
          (elim c.match-branch-2.branch [
            | in-Some+in_ok-push-in-Some w ↦
                let items : c.match-branch-2.numbers.items ≡ c.loop-answer.numbers.items ++ w.in-Some.icn ∷ [] = ap (λ v. v.items) w.numbers-is ∙ w.in_ok-push-in-Some.ensures.items in
                number_pushed s c.args.from.now (map answer_view (take c.loop-answer.answer-index c.args.answers.now)) a c.loop-answer.numbers.items c.match-branch-2.numbers.items (was.named before) w.in-Some.icn items
                (λ e is. sym w.in-Some.is ∙ told e is)
            | in-None w ↦
                let items : c.match-branch-2.numbers.items ≡ c.loop-answer.numbers.items = ap (λ v. v.items) w.numbers-is in
                no_number s c.args.from.now (map answer_view (take c.loop-answer.answer-index c.args.answers.now)) a c.loop-answer.numbers.items c.match-branch-2.numbers.items (was.named before) items
                (λ e is. sym w.in-None.is ∙ told e is)
          ]);
    }

pub returns-clause-rising : goal.returns-clause-rising
returns-clause-rising g c = (sorted_once c.loop-answer.numbers.items c.sort_unstable.new.self.items c.dedup.new.self.items c.sort_unstable.ensures.permutation c.sort_unstable.ensures.sorted c.dedup.ensures.filtered).0

pub returns-clause-numbers : goal.returns-clause-numbers
returns-clause-numbers g c = λ answers a e at is.
    (sorted_once c.loop-answer.numbers.items c.sort_unstable.new.self.items c.dedup.new.self.items c.sort_unstable.ensures.permutation c.sort_unstable.ensures.sorted c.dedup.ensures.filtered).1 e.icn
    (c.loop-answer.invariant.named answers a e (subst (λ l. Contains (map answer_view l) a) (sym (take_all c.loop-answer.answer-index c.args.answers.now c.loop-answer-test.false)) at) is)
