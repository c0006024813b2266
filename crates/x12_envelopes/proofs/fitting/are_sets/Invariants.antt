use Rattle.std.proofs.Common.{◌≡◌, map, drop}
use Rattle.std.specs.List.{list_all}
use Rattle.x12_envelopes.specs.Fitting.{set_is_writable}
use Rattle.x12_envelopes.specs.Envelope.{set_written}
use Rattle.x12_envelopes.proofs.fitting.are_sets.Given as goal

abbrev pub invariant-loop-set : goal.invariant-loop-set
invariant-loop-set l = list_all (set_is_writable l.delims) (map set_written (drop l.set-index l.sets)) ≡ list_all (set_is_writable l.delims) (map set_written l.sets)
