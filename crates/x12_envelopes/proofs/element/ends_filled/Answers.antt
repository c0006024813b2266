use Rattle.std.proofs.Common.{sym, ap, length, ◌==◌, ◌∙◌}
use Rattle.x12_envelopes.proofs.LastElementLemmas.{ends_as_last, filled_unless_empty}
use Rattle.x12_envelopes.proofs.element.ends_filled.Goals as goal

pub returns-in-Some : goal.returns-in-Some
returns-in-Some g c =
    let bytes = g.E.AsSlice.items in
    filled_unless_empty (bytes c.in-Some.element.now) c.is_empty.result (c.is_empty.ensures ∙ ap (λ xs. length xs == 0) c.as_slice.ensures) ∙ sym (ends_as_last bytes c.args.elements.now c.in-Some.element.now (sym c.in-Some.ensures.value))
