use Rattle.std.proofs.Common.{refl}
use Rattle.x12_outbound.specs.Counts.{only_unclear}
use Rattle.x12_station.proofs.arriving.nothing_told.Goals as goal

pub returns : goal.returns
unfolding only_unclear
returns c = refl
