use Rattle.std.proofs.Common.{◌≡◌, ◌+◌, ◌≤◌, drop, length, filter}
use Rattle.x12_envelopes.specs.Writing.{texts}
use Rattle.x12_lint.specs.Linting.{part_is_named}
use Rattle.x12_lint.proofs.naming.count_named.Given as goal

abbrev pub invariant-loop-part : goal.invariant-loop-part
invariant-loop-part l = record {
  counted :
      l.count + length (filter (part_is_named l.delims l.name) (texts (drop l.part-index l.parts)))
      ≡ length (filter (part_is_named l.delims l.name) (texts l.parts));
  few : l.count ≤ l.part-index;
}
