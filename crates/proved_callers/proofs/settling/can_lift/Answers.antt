use Rattle.std.proofs.Common.{refl}
use Rattle.proved_callers.proofs.LiftLemmas.{is_out}
use Rattle.proved_callers.proofs.settling.can_lift.Goals as goal

pub lay-requires : goal.lay-requires
lay-requires c = is_out _ _ _ _ _ c.in-Some.ensures.out refl c.in-Some.ensures.key c.in-Some.ensures.lifts
