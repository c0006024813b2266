use Rattle.x12_envelopes.proofs.WrittenGroupLemmas.{segments_fit}
use Rattle.x12_envelopes.proofs.written_segments.segments_fit.Goals as goal

pub returns : goal.returns
returns c = record { fit = segments_fit }
