use Rattle.x12_envelopes.proofs.HeaderBackLemmas.{header_back}
use Rattle.x12_envelopes.proofs.round_trip.header_is_read_back.Goals as goal

pub returns : goal.returns
returns c = record { header = header_back }
