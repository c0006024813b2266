use Rattle.std.proofs.Common.{IsTrue, All}
use Rattle.x12_station.specs.Standing.{WereAsked}
use Rattle.x12_station.specs.Stored.{entries}
use Rattle.x12_verify.specs.Entries.{IsRightSubmission}
use Rattle.x12_verify.specs.Told.{items_up_to}
use Rattle.x12_verify.proofs.entries.test_submissions.Given as goal

-- what was told under the numbers before this one stands in both
abbrev pub invariant-loop-before : goal.invariant-loop-before
invariant-loop-before g l = record {
  asked : WereAsked g.R.Records l.fn.records l.records;
  told : WereAsked g.T.Records l.fn.told l.told;
  right : IsTrue (g.R.Records.answers l.records) → IsTrue (g.T.Records.answers l.told) →
      All (IsRightSubmission (entries (g.R.Records.content l.fn.records)) (entries (g.T.Records.content l.fn.told))) (items_up_to (g.T.Records.content l.fn.told) l.before);
}
