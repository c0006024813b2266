use Rattle.sqlite.specs.Listing.{understood}
use Rattle.sqlite_tied.specs.Compute.{everything}
use Rattle.x12_station_records.proofs.schema.is_station_schema.Goals as goal

-- the rows describe what the statements make
pub returns-clause-is : goal.returns-clause-is
unfolding understood everything
returns-clause-is c told = c.is_schema.ensures.is told

pub returns-clause-taken : goal.returns-clause-taken
unfolding understood everything
returns-clause-taken c same = c.is_schema.ensures.met same
