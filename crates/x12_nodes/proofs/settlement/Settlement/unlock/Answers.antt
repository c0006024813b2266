-- What was unlocked are the stations of the world that the run ends with, and what they submitted.
use Rattle.std.proofs.Common.{◌++◌, All, ap, subst, ◌∙◌}
use Rattle.x12_nodes.specs.Cell.{IsReplayed}
use Rattle.x12_nodes.specs.Unlocking.{listed_in_logs, states_in}
use Rattle.x12_world.specs.Asking.{states_of}
use Rattle.x12_nodes.proofs.UnlockingLemmas.{has_stations_so}
use Rattle.x12_nodes.proofs.settlement.Settlement.unlock.Goals as goal

pub returns-clause-world : goal.returns-clause-world
returns-clause-world g c =
    let cells = c.self.inside.cells.items in
    rw (← c.self.view_is) (λ answers one.
    has_stations_so cells (states_of c.part.new.stations.items) c.in-Ok.submitted.items c.reached.ensures.reached
    (subst (All IsReplayed) c.deref.ensures.value c.are_replayed.ensures) answers one
    (c.part.ensures.states ∙ ap (λ ss. states_of ss ++ states_in cells) c.in-Ok-room_for.ensures.second.0)
    (c.in-Ok.ensures ∙ ap listed_in_logs c.deref-2.ensures.value))
