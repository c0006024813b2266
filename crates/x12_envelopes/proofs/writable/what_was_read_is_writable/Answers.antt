use Rattle.x12_envelopes.proofs.WritableElementLemmas.{outline_writable}
use Rattle.x12_envelopes.proofs.WritableHeaderLemmas.{header_writable}
use Rattle.x12_envelopes.proofs.writable.what_was_read_is_writable.Goals as goal

pub returns : goal.returns
returns c = record { header = header_writable; outline = outline_writable }
