use Rattle.std.proofs.Common.{◌≡◌, ℕ, Ok, map, take}
use Rattle.sqlite.specs.Held.{state}
use Rattle.sqlite.specs.declared.error.Error.{Error}
use Rattle.x12_inbound.specs.Posting.{posting_view}
use Rattle.x12_station_records.specs.StationPart.{PartGoesOn, AddsPostings}
use Rattle.x12_station_records.proofs.station_postings.add_postings.Given as goal

-- the first ones are added
abbrev pub invariant-loop-posting : goal.invariant-loop-posting
invariant-loop-posting g l = (l.tx.conn.ghost_name ≡ l.fn.tx.conn.ghost_name)
    × PartGoesOn {A = ℕ} {E = Error} (λ to. AddsPostings l.at (take l.posting-index (map posting_view l.postings)) to)
    (Ok l.next) (state g.S.Store l.fn.tx.conn.now) (state g.S.Store l.tx.conn.now)
