use Rattle.x12_envelopes.proofs.OutlineBackLemmas.{outline_back}
use Rattle.x12_envelopes.proofs.round_trip.outline_is_read_back.Goals as goal

pub returns : goal.returns
returns c = record { outline = outline_back }
