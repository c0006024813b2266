use Rattle.std.proofs.Common.{arith, [], if◌then◌else◌, ap, sym, ◌∙◌}
use Rattle.x12_envelopes.specs.Cutting.{delimited_view}
use Rattle.x12_judge.specs.Keeping.{keeping, kept_as}
use Rattle.x12_judge.specs.Note.{errors_noted}
use Rattle.x12_judge.proofs.KeptNoteLemmas.{nothing_noted}
use Rattle.x12_judge.proofs.segment.keep_errors_if.Goals as goal

pub returns : goal.returns
returns c =
    let old = c.args.notes.now in
    nothing_noted old.kept.items old.has_other (omega (arith, old.few))
    ∙ ap (λ b. keeping (kept_as old.kept.items old.has_other) (if b then errors_noted c.args.position (delimited_view c.args.read.now) else [])) (sym c.if-checked.false)
