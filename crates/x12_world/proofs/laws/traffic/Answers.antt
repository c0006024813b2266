use Rattle.x12_world.proofs.RunLemmas.{new_sound, run_onward}
use Rattle.x12_world.proofs.TrafficLemmas.{traffic_holds}
use Rattle.x12_world.specs.Run.{new_world}
use Rattle.x12_world.proofs.laws.traffic.Goals as goal

pub returns : goal.returns
returns c = record { traffic = λ p laws net is events. traffic_holds p laws net _ (run_onward p laws net is events (new_world net) (new_sound p net is)).0 }
