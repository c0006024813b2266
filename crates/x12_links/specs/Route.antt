-- What a link makes of the parcels that it takes, one by one.
use Rattle.x12_links.specs.declared.route.Route.{Route}
use Rattle.x12_links.specs.Plan.{LinkStanding}

-- what a link counted, and what it holds
abbrev pub standing_of : {P : Type 0} → Route P → LinkStanding P
standing_of r = record { count = r.count; held = r.held.items }
