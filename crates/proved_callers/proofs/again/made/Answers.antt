use Rattle.x12_station.proofs.NothingLemmas.{durable_where_nothing}
use Rattle.proved_callers.proofs.again.made.Goals as goal

-- records that hold nothing were written by the station that they name
pub open-requires-clause-written : goal.open-requires-clause-written
open-requires-clause-written g c = λ open1. durable_where_nothing c.args.me _ _ (c.in-Ok.ensures.nothing open1)
