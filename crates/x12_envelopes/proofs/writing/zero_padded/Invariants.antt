use Rattle.std.proofs.Common.{◌≡◌, ◌≤◌, ◌++◌, drop, length}
use Rattle.x12_envelopes.proofs.PaddingLemmas.{last_digits}
use Rattle.x12_envelopes.proofs.writing.zero_padded.Given as goal

abbrev pub invariant-loop-missing : goal.invariant-loop-missing
invariant-loop-missing g l = record {
  within : l.missing ≤ g.row.N;
  sized : length l.digits ≡ g.row.N;
  told : last_digits g.row.N l.n ≡ last_digits l.missing l.left ++ drop l.missing l.digits;
}

abbrev pub decreases-loop-missing : goal.decreases-loop-missing
decreases-loop-missing g l = l.missing
