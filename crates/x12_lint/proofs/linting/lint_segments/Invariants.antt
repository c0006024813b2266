use Rattle.std.proofs.Common.{◌≡◌, ◌+◌, ◌++◌, drop, map, flat_map}
use Rattle.std.specs.List.{enumerate_from}
use Rattle.x12_envelopes.specs.Writing.{texts}
use Rattle.x12_lint.specs.Linting.{remark_view, remarks_of_segment}
use Rattle.x12_lint.proofs.linting.lint_segments.Given as goal

abbrev pub invariant-loop-index : goal.invariant-loop-index
invariant-loop-index l =
    let f = remarks_of_segment l.table l.rows l.delims in
    map remark_view l.remarks.items
    ++ flat_map f (enumerate_from (l.index + 1) (texts (drop l.index l.parts)))
    ≡ map remark_view l.fn.remarks.items ++ flat_map f (enumerate_from 1 (texts l.parts))
