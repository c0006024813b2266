use Rattle.std.proofs.Common.{◌≡◌, ◌∷◌, ◌++◌, take, flat_map}
use Rattle.std.specs.Io.{StartsWith}
use Rattle.x12_envelopes.specs.Writing.{texts}
use Rattle.x12_envelopes.proofs.appending.push_elements.Given as goal

abbrev pub invariant-loop-element : goal.invariant-loop-element
invariant-loop-element l = record {
  written : l.out.items ≡ l.initial.out.items ++ flat_map (λ e. l.delims.element ∷ e) (texts (take l.element-index l.elements));
  front : StartsWith l.out.items l.initial.out.items;
}
