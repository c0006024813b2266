use Rattle.std.proofs.Common.{◌≡◌, IsTrue, map, take}
use Rattle.x12_acks.specs.Answer.{answer_view}
use Rattle.x12_station.specs.Closed.{HoldsNumbers}
use Rattle.x12_station.specs.Standing.{WereAsked}
use Rattle.x12_station.proofs.hearing.numbers_named.Given as goal

-- the records are as they were, and the numbers so far are there
abbrev pub invariant-loop-answer : goal.invariant-loop-answer
invariant-loop-answer g l = record {
  asked : WereAsked g.R.Records l.fn.records l.records;
  counted : g.R.Records.failed l.records ≡ g.R.Records.failed l.fn.records;
  named : IsTrue (g.R.Records.answers l.records) → HoldsNumbers (g.R.Records.content l.fn.records) l.fn.from (map answer_view (take l.answer-index l.fn.answers)) l.numbers.items;
}
