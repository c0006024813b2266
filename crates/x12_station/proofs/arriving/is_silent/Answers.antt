use Rattle.std.proofs.Common.{◌≡◌, ◌∙◌, ap, subst, sym, Ok}
use Rattle.x12_envelopes.specs.Outline.{outline_of}
use Rattle.x12_envelopes.specs.Shape.{outline_view}
use Rattle.x12_judge.specs.Bound.{IsReadOf}
use Rattle.x12_judge.specs.Interchange.{reading_view}
use Rattle.x12_profile.proofs.FieldLemmas as field
use Rattle.x12_station.proofs.ArrivingLemmas.{unread}
use Rattle.x12_station.proofs.arriving.is_silent.Goals as goal

pub returns-in-Ok : goal.returns-in-Ok
returns-in-Ok c =
    let h = c.args.header.now in
    let b = c.args.bytes.now in
    let o = outline_view h.delims c.in-Ok.outline in
    let there : outline_of h.delims b ≡ Ok o = sym c.in_ok-outline.ensures.is ∙ ap (reading_view h.delims) c.in-Ok.is in
    c.holds_answers_alone.ensures h.delims ∙ sym (field.is_silent_is b h c.requires.read o there)

pub returns-in-Err : goal.returns-in-Err
returns-in-Err c = unread c.args.bytes.now c.args.header.now c.in-Err.field-0 c.requires.read (subst (IsReadOf c.args.bytes.now c.args.header.now) c.in-Err.is c.in_ok-outline.ensures)
