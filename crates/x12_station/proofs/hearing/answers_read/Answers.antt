use Rattle.std.proofs.Common.{◌≡◌, ◌∙◌, ap, map, subst, sym, Ok}
use Rattle.x12_profile.proofs.FieldLemmas as field
use Rattle.x12_station.proofs.HearingLemmas.{unread}
use Rattle.x12_acks.specs.Answer.{answer_view}
use Rattle.x12_envelopes.specs.Outline.{outline_of}
use Rattle.x12_envelopes.specs.Shape.{outline_view}
use Rattle.x12_judge.specs.Bound.{IsReadOf}
use Rattle.x12_judge.specs.Interchange.{reading_view}
use Rattle.x12_station.proofs.hearing.answers_read.Goals as goal

pub returns-in-Ok : goal.returns-in-Ok
returns-in-Ok c = λ bytes known read.
    let h = c.args.header.now in
    let o = outline_view h.delims c.in-Ok.outline in
    let there : outline_of h.delims bytes ≡ Ok o = sym read.is ∙ ap (reading_view h.delims) c.in-Ok.is in
    rw (field.answers_are bytes h known o there) c.read_answers.ensures.answers

pub returns-in-Err : goal.returns-in-Err
returns-in-Err c = λ bytes known read.
    ap (map answer_view) c.new.ensures.items ∙ unread bytes c.args.header.now c.in-Err.field-0 known (subst (IsReadOf bytes c.args.header.now) c.in-Err.is read)
