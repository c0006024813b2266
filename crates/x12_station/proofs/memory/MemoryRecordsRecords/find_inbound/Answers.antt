-- What is filed is what stands in the order of arrival.
use Rattle.std.proofs.Common.{◌∙◌, ap, List}
use Rattle.x12_inbound.specs.Order.{interchange}
use Rattle.x12_inbound.specs.Filing.{FiledInterchange}
use Rattle.x12_inbound.specs.Register.{found_in}
use Rattle.x12_station.proofs.ArrivalMapLemmas.{filed_are}
use Rattle.x12_station.proofs.memory.MemoryRecordsRecords.find_inbound.Goals as goal

pub returns-clause-found : goal.returns-clause-found
returns-clause-found c = λ answers. c.in_ok-find_filed.ensures ∙ ap (λ (fs : List FiledInterchange). found_in fs (interchange c.args.partner.now c.args.icn)) (filed_are c.args.self.now.arrivals.entries)
