-- what is left decides
use Rattle.std.proofs.Common.{◌≡◌, length, IsTrue}
use Rattle.std.specs.Prelude.{All}
use Rattle.x12_envelopes.specs.Party.{is_plain_party}
use Rattle.x12_world.specs.Founding.{all_differ, parties}
use Rattle.x12_world.proofs.founding.differ.Given as goal

abbrev pub invariant-loop-first : goal.invariant-loop-first
invariant-loop-first g l = record {
  differ : all_differ (parties l.rest) ≡ all_differ (parties l.stations);
  plain : All (λ p. IsTrue (is_plain_party p)) (parties l.rest) → All (λ p. IsTrue (is_plain_party p)) (parties l.stations);
}

abbrev pub decreases-loop-first : goal.decreases-loop-first
decreases-loop-first g l = length l.rest
