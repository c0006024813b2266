-- At a tick a station sends some of what is open; the rest is by what each kind is asked.
use Rattle.std.proofs.Common.{◌≡◌, arith}
use Rattle.x12_core.specs.declared.action.Action.TheVariants.{Tick}
use Rattle.x12_core.proofs.ActionLemmas.{tick_open}
use Rattle.x12_core.proofs.node_core.Core.bound.Goals as goal

pub returns-in-Do-Tick-clause-does : goal.returns-in-Do-Tick-clause-does
returns-in-Do-Tick-clause-does g c =
    let ticks : c.in-Do-Tick.field-0 ≡ Tick c.in-Do-Tick.field-0-0 = rw c.in-Do-Tick.is at c.in-Do-Tick.field-0-is in
    rw (c.in-Station.is, c.in-Do-Tick.is, ticks)
    (λ answers i e is.
    let n = tick_open i _ c.in-Station.station.state e is in
    let m = c.open_count.ensures.open answers in
    omega (arith, n, m))
