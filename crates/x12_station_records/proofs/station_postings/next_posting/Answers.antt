use Rattle.std.proofs.Common.{arith}
use Rattle.std.proofs.lemmas.Grind.{common_steps}
use Rattle.x12_station_records.proofs.station_postings.next_posting.Goals as goal

pub loop-row-preserved : goal.loop-row-preserved
loop-row-preserved c = grind (arith, common_steps)

pub returns-clause-postings : goal.returns-clause-postings
returns-clause-postings c = grind (arith, common_steps)
