use Rattle.std.proofs.Common.{◌≡◌, drop}
use Rattle.std.specs.List.{list_any}
use Rattle.x12_envelopes.specs.Writing.{texts}
use Rattle.x12_lint.specs.Linting.{part_is_named}
use Rattle.x12_lint.proofs.naming.some_has_name.Given as goal

abbrev pub invariant-loop-part : goal.invariant-loop-part
invariant-loop-part l =
    list_any (part_is_named l.delims l.name) (texts (drop l.part-index l.parts))
    ≡ list_any (part_is_named l.delims l.name) (texts l.parts)
