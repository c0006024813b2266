use Rattle.std.proofs.Common.{◌≡◌, ◌++◌, take, map}
use Rattle.std.specs.List.{filter_map}
use Rattle.x12_lint.specs.Linting.{remark_view, remark_of_element}
use Rattle.x12_lint.proofs.linting.lint_elements.Given as goal

abbrev pub invariant-loop-rule : goal.invariant-loop-rule
invariant-loop-rule l =
    map remark_view l.remarks.items
    ≡ map remark_view l.fn.remarks.items
    ++ filter_map (remark_of_element l.read.delims l.position l.read.bytes.now) (take l.rule-index l.rules)
