use Rattle.std.proofs.Common.{◌≡◌, ◌-◌, ◌≤◌, length}
use Rattle.x12_envelopes.specs.declared.content.Level.TheVariants.{InSet}
use Rattle.x12_envelopes.specs.Outline.{first_fault, offset_behind}
use Rattle.x12_envelopes.specs.Reading.{rest_at, placed}
use Rattle.x12_envelopes.proofs.SetLemmas.{SetSoFar}
use Rattle.x12_envelopes.proofs.source.Source.set.Given as goal

abbrev pub invariant-loop-behind : goal.invariant-loop-behind
invariant-loop-behind l = record {
  so_far : SetSoFar l.self.delims l.self.input.now (placed l.st) l.place l.segments;
  faults : first_fault l.self.delims InSet l.groups l.sets (rest_at l.self (offset_behind (placed l.st))) ≡ first_fault l.self.delims InSet l.groups l.sets (rest_at l.self l.place);
  few : l.segments ≤ l.place;
}

abbrev pub decreases-loop-behind : goal.decreases-loop-behind
decreases-loop-behind l = length l.self.input.now - l.place
