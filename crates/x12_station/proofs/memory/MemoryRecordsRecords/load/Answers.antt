-- What is loaded is sound.
use Rattle.x12_station.specs.Record.{loaded_view}
use Rattle.x12_station.specs.Memory.{memory_view}
use Rattle.x12_station.proofs.SoundAnswerLemmas.{sound_loaded}
use Rattle.x12_station.proofs.memory.MemoryRecordsRecords.load.Goals as goal

pub returns-clause-sound : goal.returns-clause-sound
returns-clause-sound c = sound_loaded (memory_view c.args.self.now) (loaded_view c.in_ok-loaded.field-0) c.in_ok-loaded.ensures c.requires.sound
