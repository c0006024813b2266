use Rattle.std.proofs.Common.{subst, IfSome, ◌+◌}
use Rattle.x12_station.specs.Durable.{item_at}
use Rattle.x12_station.specs.Stored.{Stored, entries}
use Rattle.x12_station.proofs.StandingLemmas.{asked_again}
use Rattle.x12_verify.specs.Entries.{IsRightSubmission}
use Rattle.x12_verify.proofs.AgainLemmas.{all_up_to_next}
use Rattle.x12_verify.proofs.entries.test_submissions.Goals as goal

pub loop-before-preserved : goal.loop-before-preserved
loop-before-preserved g c =
    let was = c.loop-before.invariant in
    let call = c.in_ok-test_number.ensures in record {
      asked = asked_again was.asked call.asked;
      told = asked_again was.told call.told;
      right = λ answers told_answers.
          let before = call.asked.never_won_back answers in
          let told_before = call.told.never_won_back told_answers in
          let n = c.loop-before.before in
          let kept = subst (λ (s : Stored). IfSome (item_at (g.T.Records.content c.loop-before.told) (n + 1)) (IsRightSubmission (entries s) (entries (g.T.Records.content c.loop-before.told)))) (was.asked.same before) (call.right answers told_answers) in
          let next = subst (λ (d : Stored). IfSome (item_at d (n + 1)) (IsRightSubmission (entries (g.R.Records.content c.args.records.now)) (entries d))) (was.told.same told_before) kept in
          all_up_to_next (IsRightSubmission (entries (g.R.Records.content c.args.records.now)) (entries (g.T.Records.content c.args.told.now))) (g.T.Records.content c.args.told.now) n (was.right before told_before) next;
    }
