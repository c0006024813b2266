use Rattle.std.proofs.Common.{◌≡◌, drop, find, bytes_eq}
use Rattle.x12_lint.proofs.table.find_set.Given as goal

abbrev pub invariant-loop-rows : goal.invariant-loop-rows
invariant-loop-rows l =
    find (λ r. bytes_eq r.set.items l.set) (drop l.rows-index l.sets)
    ≡ find (λ r. bytes_eq r.set.items l.set) l.sets
