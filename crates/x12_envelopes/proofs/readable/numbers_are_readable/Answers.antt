use Rattle.x12_envelopes.proofs.ReadSegmentLemmas.{read_is_readable}
use Rattle.x12_envelopes.proofs.ReadHeaderLemmas.{header_number}
use Rattle.x12_envelopes.proofs.readable.numbers_are_readable.Goals as goal

pub returns : goal.returns
returns c = record { readable = read_is_readable; header = header_number }
