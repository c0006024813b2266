use Rattle.std.proofs.Common.{◌≡◌, take}
use Rattle.std.specs.List.{count_by}
use Rattle.x12_envelopes.specs.Header.{is_barred}
use Rattle.x12_envelopes.proofs.header.barred_count.Given as goal

abbrev pub invariant-loop-b : goal.invariant-loop-b
invariant-loop-b l = l.count ≡ count_by (is_barred l.delims) (take l.b-index l.text)
