-- What holds nothing is sound.
use Rattle.std.proofs.Common.{List, ap, map, rules}
use Rattle.x12_station.specs.declared.submissions.NumberedEntry.{NumberedEntry}
use Rattle.x12_station.specs.Memory.{numbered_row, entries_in}
use Rattle.x12_station.specs.Record.{owner_view}
use Rattle.x12_station.proofs.NothingLemmas.{nothing_is_kept, durable_of_origin}
use Rattle.x12_station.proofs.memory.MemoryRecords.read_so.Goals as goal

pub returns-clause-kept : goal.returns-clause-kept
returns-clause-kept c = nothing_is_kept (owner_view c.args.owner) (record {
  alloc = c.args.alloc;
  owner = c.args.owner;
  book = c.new.result;
  seq = 0;
  agreements = c.new-2.result;
  submitted = c.new-3.result;
  arrivals = c.new-4.result;
  postings = c.new-5.result;
}) (search rules) (ap (λ (items : List NumberedEntry). entries_in (map numbered_row items)) c.new-3.ensures.items)

pub returns-clause-durable : goal.returns-clause-durable
returns-clause-durable c = durable_of_origin (owner_view c.args.owner) _ (search rules)
