use Rattle.std.proofs.Common.{refl}
use Rattle.x12_outbound.proofs.LimitLemmas.{sets_have_places}
use Rattle.x12_outbound.proofs.matches.tell_group_at.Goals as goal

-- its sets have places
pub tell_group-requires : goal.tell_group-requires
tell_group-requires c =
    sets_have_places c.args.parties.now.me c.args.entry.now c.requires.sendable c.args.entry.now.groups.items refl c.args.index c.requires.there
    c.index-group.result.now c.deref.result.now c.index-group.ensures c.deref.ensures.value
