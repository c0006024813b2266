use Rattle.std.proofs.Common.{IsTrue, map}
use Rattle.x12_inbound.specs.Posting.{posting_view}
use Rattle.x12_station.specs.Standing.{WereAsked}
use Rattle.x12_verify.specs.Told.{AreTold}
use Rattle.x12_verify.proofs.telling.tell_all.Given as goal

-- the items of the numbers before this one were told
abbrev pub invariant-loop-before : goal.invariant-loop-before
invariant-loop-before g l = record {
  asked : WereAsked g.R.Records l.fn.records l.records;
  won : IsTrue l.again.answers → IsTrue l.fn.again.answers;
  told : IsTrue (g.R.Records.answers l.records) → IsTrue l.again.answers →
      AreTold (g.R.Records.content l.fn.records) l.fn.holder.owner.party l.fn.holder.loaded.now.book l.before l.fn.again.state l.again.state
      (map posting_view l.fn.postings.left.now) (map posting_view l.telling.postings.left.now);
}
