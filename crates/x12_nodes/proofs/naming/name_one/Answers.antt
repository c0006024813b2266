-- What a header that can be read says, and what is said where none can be.
use Rattle.std.proofs.Common.{◌∙◌, sym, refl}
use Rattle.x12_profile.proofs.FieldLemmas.{has_header_is, sender_is}
use Rattle.x12_world.proofs.RunningLemmas.{unread}
use Rattle.x12_nodes.proofs.naming.name_one.Goals as goal

pub returns-in-Ok : goal.returns-in-Ok
returns-in-Ok c =
    let b = c.args.bytes.now in
    let read = sym c.read_header.ensures ∙ c.in-Ok.is in
    rw (has_header_is b c.in-Ok.header read, sender_is b c.in-Ok.header read) c.is_among.ensures

pub returns-in-Err : goal.returns-in-Err
returns-in-Err c = rw (unread c.args.bytes.now c.in-Err.field-0 (sym c.read_header.ensures ∙ c.in-Err.is)) refl
