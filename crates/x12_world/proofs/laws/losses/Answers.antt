use Rattle.x12_world.proofs.LossLemmas.{run_shadows, headline_with_losses}
use Rattle.x12_world.proofs.laws.losses.Goals as goal

pub returns : goal.returns
returns c = record {
  losses = λ p. run_shadows p;
  headline = λ p laws net is before after. headline_with_losses p laws net is before after;
}
