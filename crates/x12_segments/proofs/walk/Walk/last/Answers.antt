use Rattle.std.proofs.Common.{◌∙◌, ◌∷◌, [], sym, ap}
use Rattle.x12_segments.proofs.WalkLemmas.{shown_last, last_none, last_some, some_left}
use Rattle.x12_segments.proofs.walk.Walk.last.Goals as goal

pub returns-then-is_empty-clause-none : goal.returns-then-is_empty-clause-none
returns-then-is_empty-clause-none c is =
    shown_last _ _ c.requires ∙ last_none _ (rw c.without_line_ends.ensures at (sym c.if-is_empty.ensures))

pub returns-clause-some : goal.returns-clause-some
returns-clause-some c =
    shown_last _ _ c.requires ∙ last_some _ (rw c.without_line_ends.ensures at (sym c.if-is_empty.ensures)) ∙ ap (λ x. x ∷ []) (sym c.place.ensures.bytes)

pub returns-clause-some_left : goal.returns-clause-some_left
returns-clause-some_left c = some_left _ (rw c.without_line_ends.ensures at (sym c.if-is_empty.ensures))
