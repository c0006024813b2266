use Rattle.x12_station.specs.Memory.{memory_view}
use Rattle.x12_station.specs.Record.{owner_view}
use Rattle.x12_verify.proofs.AgainLemmas.{opened_empty}
use Rattle.x12_verify.proofs.verifying.open_again.Goals as goal

pub returns-in-Ok : goal.returns-in-Ok
returns-in-Ok c = λ answers.
    opened_empty (owner_view c.args.owner.now) c.in-Ok.again.state (memory_view c.read_so-records.result) (c.in-Ok.ensures.opened answers).1 c.read_so-records.ensures.nothing
