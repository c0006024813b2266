use Rattle.std.proofs.Common.{refl}
use Rattle.x12_envelopes.proofs.ElementLemmas.{element_is}
use Rattle.x12_envelopes.specs.Remaining.{elements_left}
use Rattle.x12_envelopes.proofs.segment.Segment.remaining.Goals as goal

pub returns : goal.returns
unfolding elements_left
returns c = record {
  each = λ n. element_is c.args.self.now.delims c.args.self.now.bytes.now n;
  all = refl;
}
