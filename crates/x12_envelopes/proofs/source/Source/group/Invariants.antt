use Rattle.std.proofs.Common.{◌≡◌, ◌+◌, ◌-◌, ◌≤◌, length, map, vec_len}
use Rattle.x12_envelopes.specs.declared.content.Level.TheVariants.{InGroup}
use Rattle.x12_envelopes.specs.Shape.{set_view}
use Rattle.x12_envelopes.specs.Outline.{first_fault, group_rest, with_sets, offset_behind}
use Rattle.x12_envelopes.specs.Reading.{rest_at, placed}
use Rattle.x12_envelopes.proofs.source.Source.group.Given as goal

abbrev pub invariant-loop-found : goal.invariant-loop-found
invariant-loop-found l = record {
  whole : group_rest l.self.delims l.self.input.now (rest_at l.self (offset_behind (placed l.gs))) ≡ with_sets (map (set_view l.self.delims) l.views.items) (group_rest l.self.delims l.self.input.now (rest_at l.self l.place));
  faults : first_fault l.self.delims InGroup l.groups l.sets (rest_at l.self (offset_behind (placed l.gs))) ≡ first_fault l.self.delims InGroup l.groups (l.sets + vec_len l.views) (rest_at l.self l.place);
  few : l.sets + vec_len l.views ≤ 400;
  above : offset_behind (placed l.gs) ≤ l.place;
  within : l.place ≤ length l.self.input.now;
}

abbrev pub decreases-loop-found : goal.decreases-loop-found
decreases-loop-found l = length l.self.input.now - l.place
