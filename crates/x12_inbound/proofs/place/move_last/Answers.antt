use Rattle.x12_inbound.proofs.MoveLemmas.{moved}
use Rattle.x12_inbound.proofs.place.move_last.Goals as goal

pub returns : goal.returns
returns g c = moved _ _ _ _ c.requires c.rotate_right.ensures.after
