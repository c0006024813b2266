use Rattle.std.proofs.Common.{◌≡◌, ◌++◌, replicate}
use Rattle.std.specs.Io.{StartsWith}
use Rattle.x12_envelopes.proofs.appending.push_zeros.Given as goal

abbrev pub invariant-loop-n : goal.invariant-loop-n
invariant-loop-n l = record {
  written : l.out.items ≡ l.initial.out.items ++ replicate l.n 48;
  front : StartsWith l.out.items l.initial.out.items;
}
