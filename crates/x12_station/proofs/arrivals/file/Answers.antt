-- An arrival under a new key joins at the end.
use Rattle.std.proofs.Common.{◌∙◌, ap, map, refl}
use Rattle.x12_station.specs.Memory.{arrival_view}
use Rattle.x12_station.proofs.ArrivalMapLemmas.{pushed_is}
use Rattle.x12_station.proofs.arrivals.file.Goals as goal
use Rattle.x12_numbers.proofs.Shelf.{from_ok}

pub returns : goal.returns
returns c =
    ap (map arrival_view) (from_ok c.insert.result (c.insert.ensures.succeeds c.requires.room) c.insert.ensures.entries)
    ∙ pushed_is _ (λ a b. refl) c.args.arrivals.now.entries c.args.key c.args.arrival c.requires.new
