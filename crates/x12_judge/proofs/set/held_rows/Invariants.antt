use Rattle.std.proofs.Common.{◌≡◌, ◌≤◌, ◌++◌, drop, length}
use Rattle.x12_envelopes.specs.Row.{held_of_rows}
use Rattle.x12_judge.proofs.set.held_rows.Given as goal

abbrev pub invariant-loop-holds : goal.invariant-loop-holds
invariant-loop-holds l =
    record {
      codes : l.held.items ++ held_of_rows (drop l.holds-index l.rows) ≡ held_of_rows l.rows;
      few : length l.held.items ≤ l.holds-index;
    }
