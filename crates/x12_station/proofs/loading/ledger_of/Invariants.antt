use Rattle.std.proofs.Common.{◌≡◌, ◌++◌, map, length}
use Rattle.std.specs.Vec.Iter.{into_iter_items, into_iter_len}
use Rattle.x12_outbound.specs.Entry.{entry_row}
use Rattle.x12_station.specs.working.Loading.{IsLedgerOf}
use Rattle.x12_station.proofs.loading.ledger_of.Given as goal

-- the ledger is of those so far
abbrev pub invariant-loop-entry : goal.invariant-loop-entry
invariant-loop-entry l = (l.yielded ++ into_iter_items l.entry-iterator ≡ into_iter_items l.initial.entry-iterator)
    × IsLedgerOf l.fn.me l.fn.hubs (map entry_row l.yielded) l.ledger.holds
    × (into_iter_len l.entry-iterator ≡ length (into_iter_items l.entry-iterator))
