use Rattle.std.proofs.Common.{[], refl, append-nil}
use Rattle.x12_envelopes.specs.Writing.{texts}
use Rattle.x12_envelopes.proofs.transmission.split_transmission.Goals as goal

pub returns : goal.returns
returns c = record {
  slices = rw (append-nil (texts c.loop-slice.slices.items)) at (c.loop-slice.invariant [] (c.in_default.ensures.none refl));
}
