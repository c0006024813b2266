use Rattle.std.proofs.Common.{arith, subst}
use Rattle.sqlite.specs.Held.{state}
use Rattle.x12_station_records.proofs.StationNumberLemmas.{numbers_asks, loads_numbers}
use Rattle.x12_station_records.specs.StationAdopt.{AreLastNumbers}
use Rattle.x12_station_records.specs.StationContent.{content_of}
use Rattle.x12_station_records.specs.StationNumbers.{newest_version}
use Rattle.x12_station_records.proofs.station_numbers.load_numbers.Goals as goal

pub read-requires : goal.read-requires
read-requires g c = numbers_asks

pub returns-clause-answers : goal.returns-clause-answers
returns-clause-answers g c = record {
  reads = c.read.ensures.reads;
  answered = c.in_ok-rows.ensures.answered;
  found = λ has is_open.
      let old = state g.S.Store c.args.conn.now in
      let holds = has.1.holds (c.read.ensures.reads.never_won_back is_open) in
      loads_numbers old (state g.S.Store c.read.new.conn) has.0.agreement c.in_ok-rows.rows.items (content_of old.now.trees) c.in_ok-numbers_in_rows.field-0 holds.has (c.in_ok-rows.ensures.shown is_open) (subst (AreLastNumbers newest_version c.in_ok-numbers_in_rows.field-0) c.deref.ensures.value c.in_ok-numbers_in_rows.ensures.are);
}

pub returns-clause-newest : goal.returns-clause-newest
returns-clause-newest g c = let known = c.in_ok-numbers_in_rows.ensures.are.known in omega (arith, known.0, known.1)
