use Rattle.x12_world.specs.Run.{new_world}
use Rattle.x12_world.proofs.RunLemmas.{new_sound, run_onward}
use Rattle.x12_world.proofs.OutsiderLemmas.{outsiders_move_nothing}
use Rattle.x12_world.proofs.laws.outsiders.Goals as goal

pub returns : goal.returns
returns c = record { outsiders = λ p laws net is events. outsiders_move_nothing p laws net _ (run_onward p laws net is events (new_world net) (new_sound p net is)).0 }
