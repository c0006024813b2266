use Rattle.x12_envelopes.proofs.JoinedLemmas.{elements_joined}
use Rattle.x12_envelopes.proofs.round_trip.elements_are_read_back.Goals as goal

pub returns : goal.returns
returns c = record { elements = elements_joined }
