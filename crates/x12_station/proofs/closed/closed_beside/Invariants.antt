use Rattle.std.proofs.Common.{◌≡◌, ◌<◌, ℕ, IsTrue, map, take, drop}
use Rattle.std.specs.Prelude.{Contains}
use Rattle.x12_outbound.specs.Entry.{InterchangeRow}
use Rattle.x12_station.specs.Closed.{HoldsClosed, IsBeside, above_entries}
use Rattle.x12_station.specs.Standing.{WereAsked}
use Rattle.x12_station.proofs.closed.closed_beside.Given as goal

-- the records are as they were; what is held is closed, has numbers below those that are left, and is all that was found so far
abbrev pub invariant-loop-icn : goal.invariant-loop-icn
invariant-loop-icn g l = record {
  asked : WereAsked g.R.Records l.fn.records l.records;
  counted : g.R.Records.failed l.records ≡ g.R.Records.failed l.fn.records;
  me : l.closed.holds.me ≡ l.fn.ledger.holds.me;
  beside : (e : InterchangeRow) → Contains (map (λ r. r.interchange) l.closed.holds.rows) e → IsBeside l.fn.ledger.holds e;
  lower : (e : InterchangeRow) (n : ℕ) → Contains (map (λ r. r.interchange) l.closed.holds.rows) e → Contains (drop l.icn-index l.fn.numbers) n → e.icn < n;
  least : l.least ≡ above_entries (map (λ r. r.interchange) l.closed.holds.rows);
  held : IsTrue (g.R.Records.answers l.records) → HoldsClosed (g.R.Records.content l.fn.records) (take l.icn-index l.fn.numbers) (map (λ r. r.interchange) l.closed.holds.rows);
}
