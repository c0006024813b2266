use Rattle.x12_acks.proofs.CutLemmas.{finder_finds}
use Rattle.x12_acks.proofs.named.finders_find_the_named.Goals as goal

pub returns : goal.returns
returns c = record { law = finder_finds }
