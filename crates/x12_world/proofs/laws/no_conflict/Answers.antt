use Rattle.x12_world.proofs.RunLemmas.{new_sound, run_onward}
use Rattle.x12_world.proofs.TrafficLemmas.{no_conflict}
use Rattle.x12_world.specs.Run.{new_world}
use Rattle.x12_world.proofs.laws.no_conflict.Goals as goal

pub returns : goal.returns
returns c = record { no_conflict = λ p laws net is events. no_conflict p laws net _ (run_onward p laws net is events (new_world net) (new_sound p net is)).0 }
