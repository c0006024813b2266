use Rattle.std.proofs.Common.{◌≡◌, ◌+◌, length}
use Rattle.x12_envelopes.specs.Transmission.{length_through_trailer}
use Rattle.x12_envelopes.proofs.CuttingLemmas.{pieces}
use Rattle.x12_envelopes.proofs.TrailerLemmas.{from_place}
use Rattle.x12_envelopes.proofs.transmission.through_trailer.Given as goal

abbrev pub invariant-loop-near : goal.invariant-loop-near
invariant-loop-near l = record {
  way : from_place l.place (length_through_trailer l.delims (pieces l.delims l.rest)) ≡ length_through_trailer l.delims (pieces l.delims l.bytes);
  place : l.place + length l.rest ≡ length l.bytes;
}

abbrev pub decreases-loop-near : goal.decreases-loop-near
decreases-loop-near l = length l.rest
