use Rattle.x12_envelopes.proofs.TextLemmas.{text_back, written_text}
use Rattle.x12_envelopes.proofs.round_trip.texts_are_read_back.Goals as goal

pub returns : goal.returns
returns c = record { written = written_text; read = text_back }
