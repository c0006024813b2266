use Rattle.x12_world.specs.Run.{new_world}
use Rattle.x12_world.proofs.RunLemmas.{new_sound, run_onward}
use Rattle.x12_world.proofs.RiseLemmas.{all_rise}
use Rattle.x12_world.proofs.OnceLemmas.{keys_once}
use Rattle.x12_world.proofs.KeyLemmas.{keys_tell}
use Rattle.x12_world.proofs.laws.keys.Goals as goal

pub returns : goal.returns
returns c = record { keys = λ p laws net is events. let sound = (run_onward p laws net is events (new_world net) (new_sound p net is)).0 in keys_tell p laws net _ sound (keys_once p laws net _ sound (all_rise p laws net is events)) }
