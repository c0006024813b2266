use Rattle.std.proofs.Common.{map, refl, arith}
use Rattle.std.proofs.lemmas.Grind.{common_steps}
use Rattle.std.proofs.lemmas.List.{length-map}
use Rattle.x12_judge.specs.Verdict.{note_view}
use Rattle.x12_acks.specs.Reply.{note_segment, set_answer}
use Rattle.x12_acks.proofs.TextLemmas.{grows, grew}
use Rattle.x12_acks.proofs.set_answer.push_set_answer.Goals as goal

pub returns-clause-room : goal.returns-clause-room
returns-clause-room c =
    let notes = c.deref.result.now in
    omega (
      arith,
      grew _ _ _ _ c.in_ok-push_ak2.ensures.written,
      grows _ _ _ _ _ c.in_ok-push_notes.ensures.written refl,
      grew _ _ _ _ c.in_ok-push_ak5.ensures.written,
      length-map (map note_view notes) note_segment,
      length-map notes note_view,
      c.deref.ensures.len,
      c.len.ensures,
    )

pub returns-clause-written : goal.returns-clause-written
unfolding set_answer
returns-clause-written c = grind (arith, common_steps)

pub returns-clause-segments : goal.returns-clause-segments
unfolding set_answer
returns-clause-segments c = grind (arith, common_steps)
