use Rattle.x12_spool.proofs.PowerLemmas.{marked_stand}
use Rattle.x12_spool.proofs.power.what_is_marked_stands.Goals as goal

pub returns : goal.returns
returns c = marked_stand
