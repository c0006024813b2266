use Rattle.std.proofs.Common.{refl}
use Rattle.proved_callers.proofs.LiftLemmas.{is_out}
use Rattle.proved_callers.proofs.settling.settle_set.Goals as goal

pub close-requires : goal.close-requires
close-requires c = rw c.in-Ok.ensures.key (is_out _ _ _ _ _ c.in-Some.ensures.out refl c.in-Some.ensures.key c.in-Some.ensures.lifts)

pub lay-requires : goal.lay-requires
lay-requires c = rw c.in-Err.ensures.back.0 (is_out _ _ _ _ _ c.in-Some.ensures.out refl c.in-Some.ensures.key c.in-Some.ensures.lifts)
