use Rattle.std.proofs.Common.{◌≡◌, ◌++◌, take, map}
use Rattle.std.specs.List.{filter_map}
use Rattle.x12_envelopes.specs.Writing.{texts}
use Rattle.x12_lint.specs.Linting.{remark_view, remark_of_count}
use Rattle.x12_lint.proofs.linting.lint_counts.Given as goal

abbrev pub invariant-loop-count : goal.invariant-loop-count
invariant-loop-count l =
    map remark_view l.remarks.items
    ≡ map remark_view l.fn.remarks.items
    ++ filter_map (remark_of_count l.delims (texts l.parts)) (take l.count-index l.counts)
