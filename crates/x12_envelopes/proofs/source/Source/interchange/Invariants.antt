use Rattle.std.proofs.Common.{◌≡◌, ◌-◌, ◌≤◌, true, length, map, vec_len}
use Rattle.std.specs.List.{sum_by}
use Rattle.x12_envelopes.specs.declared.content.Level.TheVariants.{Front}
use Rattle.x12_envelopes.specs.declared.shape.GroupView.{GroupView}
use Rattle.x12_envelopes.specs.Shape.{group_view}
use Rattle.x12_envelopes.specs.Outline.{first_fault, interchange_of}
use Rattle.x12_envelopes.specs.Reading.{rest_at}
use Rattle.x12_envelopes.proofs.OutlineLemmas.{with_front, is_outside}
use Rattle.x12_envelopes.proofs.source.Source.interchange.Given as goal

abbrev pub invariant-loop-found : goal.invariant-loop-found
invariant-loop-found l = record {
  whole : interchange_of l.self.delims l.self.input.now (rest_at l.self 106) ≡ with_front l.tas.items (map (group_view l.self.delims) l.groups.items) (interchange_of l.self.delims l.self.input.now (rest_at l.self l.place));
  faults : first_fault l.self.delims Front 0 0 (rest_at l.self 106) ≡ first_fault l.self.delims l.level (vec_len l.groups) l.sets (rest_at l.self l.place);
  outside : is_outside l.level ≡ true;
  few : vec_len l.groups ≤ 32;
  counted : sum_by (λ (g : GroupView). vec_len g.sets) l.groups.items ≡ l.sets;
  some : l.sets ≤ 400;
  within : l.place ≤ length l.self.input.now;
}

abbrev pub decreases-loop-found : goal.decreases-loop-found
decreases-loop-found l = length l.self.input.now - l.place
