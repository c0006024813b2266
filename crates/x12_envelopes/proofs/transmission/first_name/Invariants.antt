use Rattle.std.proofs.Common.{◌≤◌, ◌-◌, length}
use Rattle.memchr.specs.Find.{Nowhere}
use Rattle.x12_envelopes.specs.Transmission.{NamesTrailer}
use Rattle.x12_envelopes.proofs.transmission.first_name.Given as goal

abbrev pub invariant-loop-place : goal.invariant-loop-place
invariant-loop-place l = record {
  within : l.from ≤ length l.bytes;
  none : Nowhere (NamesTrailer l.delims l.bytes) 0 l.from;
}

abbrev pub decreases-loop-place : goal.decreases-loop-place
decreases-loop-place l = length l.bytes - l.from
