use Rattle.std.proofs.Common.{◌∷◌, ap, sym, ◌∙◌, not}
use Rattle.std.proofs.lemmas.Bool.{false≢true}
use Rattle.x12_envelopes.specs.Segment.{parts_of}
use Rattle.x12_judge.specs.Body.{and_behind}
use Rattle.x12_judge.specs.Set.{without_trailer}
use Rattle.x12_judge.proofs.BodyLemmas.{one_segment}
use Rattle.x12_judge.proofs.body.Body.next_part.Goals.{else-self-via-then-self+else-is_none, else-self-via-else-self}
use Rattle.x12_judge.proofs.body.Body.next_part.Goals as goal

pub returns : goal.returns
returns c =
    let d = c.args.delims.now in
    let body = c.args.self.now in
    let part = c.in_ok-part.part.now in
    let next = c.cut_behind.result in
    ap (λ h. without_trailer body.closed (and_behind h (parts_of d body.behind.now))) c.in_ok-part.was
    ∙ ap (λ xs. without_trailer body.closed (part ∷ xs)) c.cut_behind.ensures.next
    ∙ one_segment body.closed next.0 part (parts_of d next.1.now)
    (elim c.else-self.branch [
      | else-self-via-then-self+else-is_none w ↦ λ _. ap not w.if-is_none.ensures
      | else-self-via-else-self w ↦ λ e. absurd (false≢true (sym w.if-self.false ∙ e))
    ])
