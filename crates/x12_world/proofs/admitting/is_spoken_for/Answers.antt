-- What a header that can be read says.
use Rattle.std.proofs.Common.{◌≡◌, sym, ◌∙◌, ap, Ok, Err}
use Rattle.x12_envelopes.specs.Header.{header_of}
use Rattle.x12_profile.specs.X12.{x12}
use Rattle.x12_world.specs.EventRefusal.{is_spoken_for}
use Rattle.x12_world.specs.EventView.{event_view}
use Rattle.x12_world.specs.Running.{world_of}
use Rattle.x12_world.proofs.RunningLemmas.{spoken_for, not_spoken_for}
use Rattle.x12_world.proofs.admitting.is_spoken_for.Goals as goal

pub returns-in-Ok : goal.returns-in-Ok
returns-in-Ok g c = λ held.
    let w = world_of c.args.hubs.now c.args.stations.now held in
    let b = c.in-Outside.bytes.items in
    let read : header_of b ≡ Ok c.in-Ok.header = sym (ap header_of c.deref.ensures.value) ∙ sym c.read_header.ensures ∙ c.in-Ok.is in
    c.is_nodes.ensures
    ∙ sym (spoken_for w c.in-Outside.node b c.in-Outside.at c.in-Ok.header read)
    ∙ ap (λ e. is_spoken_for x12 w (event_view e)) (sym c.in-Outside.is)

pub returns-in-Err : goal.returns-in-Err
returns-in-Err g c = λ held.
    let w = world_of c.args.hubs.now c.args.stations.now held in
    let b = c.in-Outside.bytes.items in
    let unread : header_of b ≡ Err c.in-Err.field-0 = sym (ap header_of c.deref.ensures.value) ∙ sym c.read_header.ensures ∙ c.in-Err.is in
    sym (not_spoken_for w c.in-Outside.node b c.in-Outside.at c.in-Err.field-0 unread)
    ∙ ap (λ e. is_spoken_for x12 w (event_view e)) (sym c.in-Outside.is)
