use Rattle.std.proofs.Common.{codes, if◌then◌else◌, ap, sym, ◌∙◌}
use Rattle.x12_judge.specs.Verdict.{set_verdict_view}
use Rattle.x12_numbers.proofs.Shelf.{list_any-map}
use Rattle.x12_acks.proofs.group_answer.accepting_letter.Goals as goal

pub returns-then-has_noted : goal.returns-then-has_noted
returns-then-has_noted c =
    ap (λ b. if b then codes "E" else codes "A")
    (sym c.if-has_noted.true ∙ c.has_noted.ensures ∙ sym (list_any-map _ set_verdict_view c.args.sets.now))

pub returns-else-has_noted : goal.returns-else-has_noted
returns-else-has_noted c =
    ap (λ b. if b then codes "E" else codes "A")
    (sym c.if-has_noted.false ∙ c.has_noted.ensures ∙ sym (list_any-map _ set_verdict_view c.args.sets.now))
