use Rattle.std.proofs.Common.{refl, sym, ap, ◌∙◌, ◌+◌, Some, ℕ, arith}
use Rattle.x12_envelopes.specs.declared.shape.OutlineFault.TheVariants.{Structure}
use Rattle.x12_envelopes.specs.Segment.{segments_from}
use Rattle.x12_envelopes.specs.Outline.{fault_behind_trailer}
use Rattle.x12_envelopes.proofs.OutlineLemmas.{behind_cut, behind_none, behind_some}
use Rattle.x12_envelopes.proofs.source.Source.fault_behind.Goals as goal

pub returns-in-Some : goal.returns-in-Some
returns-in-Some c =
    let d = c.args.self.now.delims in
    ap (λ (n : ℕ). Some (Structure (c.args.at + n))) c.line_ends.ensures.count
    ∙ sym (behind_cut d c.args.at c.split_at.result.1.now c.in-Some.piece.now c.in-Some.field-0-1.now c.in-Some.ensures.some)
    ∙ ap (λ b. fault_behind_trailer (segments_from d c.args.at b)) c.split_at.ensures.back

pub returns-then-skipped-rest : goal.returns-then-skipped-rest
returns-then-skipped-rest c =
    let d = c.args.self.now.delims in
    sym (behind_none d c.args.at c.split_at.result.1.now (c.in_default.ensures.none refl) (sym c.line_ends-skipped.ensures.count ∙ c.if-skipped-rest.true))
    ∙ ap (λ b. fault_behind_trailer (segments_from d c.args.at b)) c.split_at.ensures.back

pub returns-else-skipped-rest : goal.returns-else-skipped-rest
returns-else-skipped-rest c =
    let d = c.args.self.now.delims in
    ap (λ (n : ℕ). Some (Structure (c.args.at + n))) c.line_ends-skipped.ensures.count
    ∙ sym (behind_some d c.args.at c.split_at.result.1.now (c.in_default.ensures.none refl) (omega (arith, c.line_ends-skipped.ensures.count, c.line_ends-skipped.ensures.within, c.if-skipped-rest.false)))
    ∙ ap (λ b. fault_behind_trailer (segments_from d c.args.at b)) c.split_at.ensures.back
