-- What a sound plan files is new.
use Rattle.std.proofs.Common.{List, ◌∙◌, ap, sym, map}
use Rattle.x12_inbound.specs.Filing.{FiledInterchange, filed_key}
use Rattle.x12_inbound.specs.Register.{found_in}
use Rattle.x12_outbound.specs.Settling.{target_view}
use Rattle.x12_station.specs.Record.{change_view}
use Rattle.x12_station.specs.Memory.{memory_view}
use Rattle.x12_station.proofs.ArrivalMapLemmas.{filed_are}
use Rattle.x12_station.proofs.KeptLemmas.{kept_numbers}
use Rattle.x12_station.proofs.SoundAnswerLemmas.{new_under}
use Rattle.x12_station.proofs.memory.MemoryRecords.change.Goals as goal

pub file-requires-clause-new : goal.file-requires-clause-new
file-requires-clause-new c =
    ap (λ (fs : List FiledInterchange). found_in fs (filed_key c.in-Arrived.kept.filed)) (filed_are c.args.self.now.arrivals.entries)
    ∙ new_under c.args.plan.now (memory_view c.args.self.now) c.in-Arrived.kept (map target_view c.in-Arrived.settled.items)
    (sym c.view-view.ensures.change ∙ ap change_view c.in-Arrived.is) c.requires.fits

pub file-requires-clause-rise : goal.file-requires-clause-rise
file-requires-clause-rise c = kept_numbers c.args.self.now c.requires.kept
