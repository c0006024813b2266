use Rattle.std.proofs.Common.{◌≡◌, take}
use Rattle.std.specs.List.{list_all}
use Rattle.x12_envelopes.proofs.cutting.are_line_ends.Given as goal
use Rattle.x12_envelopes.specs.Byte.{byte_is_line_end}

abbrev pub invariant-loop-b : goal.invariant-loop-b
invariant-loop-b l = l.all ≡ list_all byte_is_line_end (take l.b-index l.bytes)
