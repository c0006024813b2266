-- those so far are copied
use Rattle.std.proofs.Common.{◌≡◌, take, map}
use Rattle.x12_judge.specs.Agreement.{agreement_view}
use Rattle.x12_station.proofs.memory.MemoryRecords.copied_agreements.Given as goal

abbrev pub invariant-loop-agreement : goal.invariant-loop-agreement
invariant-loop-agreement l = map agreement_view l.agreements.items ≡ map agreement_view (take l.agreement-index l.self.agreements.items)
