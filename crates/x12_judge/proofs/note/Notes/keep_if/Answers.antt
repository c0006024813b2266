use Rattle.std.proofs.Common.{arith, [], ◌∷◌, if◌then◌else◌, ap, sym, ◌∙◌}
use Rattle.x12_judge.specs.Keeping.{keeping, kept_as}
use Rattle.x12_judge.specs.Verdict.{note_view}
use Rattle.x12_judge.proofs.KeptNoteLemmas.{nothing_noted}
use Rattle.x12_judge.proofs.note.Notes.keep_if.Goals as goal

pub returns-else-holds : goal.returns-else-holds
returns-else-holds c =
    let old = c.args.self.now in
    nothing_noted old.kept.items old.has_other (omega (arith, old.few))
    ∙ ap (λ b. keeping (kept_as old.kept.items old.has_other) (if b then note_view c.args.note ∷ [] else [])) (sym c.if-holds.false)
