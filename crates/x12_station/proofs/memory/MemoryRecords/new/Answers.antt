use Rattle.std.specs.Prelude.{option_to_list}
use Rattle.std.proofs.Common.{◌∷◌, ◌∙◌, ap}
use Rattle.x12_station.specs.Stored.{nothing_stored}
use Rattle.x12_station.proofs.NothingLemmas.{durable_where_nothing}
use Rattle.x12_station.proofs.memory.MemoryRecords.new.Goals as goal

pub returns-clause-nothing : goal.returns-clause-nothing
returns-clause-nothing c = c.read_so.ensures.nothing ∙ ap nothing_stored c.new.ensures

pub returns-clause-durable : goal.returns-clause-durable
returns-clause-durable c = durable_where_nothing c.args.party (c.args.hub ∷ option_to_list c.args.other) _ (c.read_so.ensures.nothing ∙ ap nothing_stored c.new.ensures)
