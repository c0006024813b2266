use Rattle.x12_envelopes.proofs.CuttingLemmas.{length-parts_of}
use Rattle.x12_envelopes.proofs.shape.SetView.segments.Goals as goal

pub returns-clause-few : goal.returns-clause-few
returns-clause-few c = length-parts_of c.args.delims.now c.args.self.now.bytes.now
