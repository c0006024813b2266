use Rattle.x12_world.specs.Run.{new_world}
use Rattle.x12_world.proofs.RunLemmas.{new_sound, run_onward}
use Rattle.x12_world.proofs.RiseLemmas.{all_rise}
use Rattle.x12_world.proofs.NumberLemmas.{numbers_are_used}
use Rattle.x12_world.proofs.laws.numbers.Goals as goal

pub returns : goal.returns
returns c = record { numbers = λ p laws net is events. numbers_are_used p laws net _ (run_onward p laws net is events (new_world net) (new_sound p net is)).0 (all_rise p laws net is events) }
