use Rattle.std.proofs.Common.{◌≡◌, ◌∷◌, ◌++◌, take, flat_map}
use Rattle.x12_envelopes.specs.Envelope.{elements_view}
use Rattle.x12_envelopes.proofs.writing.push_owned.Given as goal

abbrev pub invariant-loop-element : goal.invariant-loop-element
invariant-loop-element l = l.out.items ≡ l.initial.out.items ++ flat_map (λ e. l.delims.element ∷ e) (elements_view (take l.element-index l.behind))
