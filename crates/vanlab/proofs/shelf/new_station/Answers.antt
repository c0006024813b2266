-- new records hold nothing, and the station of their origin wrote those
use Rattle.std.proofs.Common.{◌∷◌, option_to_list}
use Rattle.x12_station.proofs.NothingLemmas.{durable_where_nothing}
use Rattle.vanlab.proofs.shelf.new_station.Goals as goal

pub open-requires-clause-written : goal.open-requires-clause-written
open-requires-clause-written g c = λ answers. durable_where_nothing c.args.me (c.args.hub ∷ option_to_list c.args.other) _ (c.in-Ok.ensures.nothing answers)
