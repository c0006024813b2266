use Rattle.std.proofs.Common.{map, subst, ◌+◌}
use Rattle.x12_inbound.specs.Posting.{posting_view}
use Rattle.x12_station.specs.Stored.{Stored}
use Rattle.x12_station.proofs.StandingLemmas.{asked_again}
use Rattle.x12_verify.specs.Told.{IsTold}
use Rattle.x12_verify.proofs.AgainLemmas.{told_more}
use Rattle.x12_verify.proofs.telling.tell_all.Goals as goal

pub loop-before-preserved : goal.loop-before-preserved
loop-before-preserved g c =
    let was = c.loop-before.invariant in
    let call = c.in_ok-telling.ensures in
    let n = c.loop-before.before in
    let me = c.args.holder.now.owner.party in
    let book = c.args.holder.now.loaded.now.book in
    let all = map posting_view c.args.postings.left.now in
    let left = map posting_view c.loop-before.telling.postings.left.now in
    let more = map posting_view c.in_ok-telling.telling.postings.left.now in record {
      asked = asked_again was.asked call.asked;
      won = λ own. was.won (call.never_won_back own);
      told = λ answers own.
          let before = call.asked.never_won_back answers in
          let one = subst (λ (s : Stored). IsTold s me book (n + 1) c.loop-before.again.state c.tell_item.new.again.state left more) (was.asked.same before) (call.told answers own) in
          told_more (g.R.Records.content c.args.records.now) me book n c.args.again.now.state c.loop-before.again.state c.tell_item.new.again.state all left more
          (was.told before (call.never_won_back own)) one;
    }
