use Rattle.std.proofs.Common.{◌≡◌, map, drop}
use Rattle.std.specs.List.{list_all}
use Rattle.x12_envelopes.specs.Fitting.{group_is_writable}
use Rattle.x12_envelopes.specs.Envelope.{group_written}
use Rattle.x12_envelopes.proofs.fitting.are_groups.Given as goal

abbrev pub invariant-loop-group : goal.invariant-loop-group
invariant-loop-group l = list_all (group_is_writable l.delims) (map group_written (drop l.group-index l.groups)) ≡ list_all (group_is_writable l.delims) (map group_written l.groups)
