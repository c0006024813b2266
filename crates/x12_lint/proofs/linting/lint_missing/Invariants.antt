use Rattle.std.proofs.Common.{◌≡◌, ◌++◌, take, map}
use Rattle.std.specs.List.{filter_map}
use Rattle.x12_envelopes.specs.Writing.{texts}
use Rattle.x12_lint.specs.Linting.{remark_view, remark_of_missing}
use Rattle.x12_lint.proofs.linting.lint_missing.Given as goal

abbrev pub invariant-loop-row : goal.invariant-loop-row
invariant-loop-row l =
    map remark_view l.remarks.items
    ≡ map remark_view l.fn.remarks.items
    ++ filter_map (remark_of_missing l.delims (texts l.parts)) (take l.row-index l.rows)
