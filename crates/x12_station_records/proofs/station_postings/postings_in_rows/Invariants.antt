-- what was gathered, and what is left, stand for all rows
use Rattle.std.proofs.Common.{◌≡◌, ◌++◌, map, drop}
use Rattle.x12_inbound.specs.Posting.{posting_view}
use Rattle.x12_station_records.specs.StationPostings.{posting_shown}
use Rattle.x12_station_records.proofs.station_postings.postings_in_rows.Given as goal

abbrev pub invariant-loop-row : goal.invariant-loop-row
invariant-loop-row l = map posting_view l.postings.items ++ map posting_shown (drop l.row-index l.rows) ≡ map posting_shown l.rows
