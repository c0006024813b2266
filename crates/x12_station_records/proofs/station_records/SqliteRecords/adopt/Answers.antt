use Rattle.std.proofs.Common.{◌∷◌, Err, arith, ap, refl, IsTrue}
use Rattle.std.specs.Prelude.{option_to_list}
use Rattle.sqlite.proofs.StateLemmas.{clean_if_open}
use Rattle.sqlite.specs.Held.{state}
use Rattle.sqlite.specs.State.{HasCleanDisk}
use Rattle.x12_station_records.proofs.StationFoundLemmas.{valid_found}
use Rattle.x12_station_records.specs.StationNumbers.{newest_version}
use Rattle.x12_station_records.proofs.station_records.SqliteRecords.adopt.Goals as goal

pub returns-in-Ok-clause-valid : goal.returns-in-Ok-clause-valid
returns-in-Ok-clause-valid g c =
    let old = state g.S.Store c.args.conn in
    let new = state g.S.Store c.test_all.new.conn in
    let law : IsTrue new.is_open → HasCleanDisk new = clean_if_open (g.S.Store.view c.test_all.new.conn.store) (g.met.S.Store.shut_if_dirty c.test_all.new.conn.store) in
    valid_found newest_version c.args.party (c.args.hub ∷ option_to_list c.args.other) (c.in-Ok.next, c.in-Ok.field-0-1) (λ low high. omega (arith, low, high)) old new c.in-Ok.ensures.finds c.in-Ok.ensures.outside.outside c.in-Ok.ensures.outside.settled law

pub returns-in-Ok-clause-never_won_back : goal.returns-in-Ok-clause-never_won_back
returns-in-Ok-clause-never_won_back g c is_open =
    let new = state g.S.Store c.test_all.new.conn in
    let law : IsTrue new.is_open → HasCleanDisk new = clean_if_open (g.S.Store.view c.test_all.new.conn.store) (g.met.S.Store.shut_if_dirty c.test_all.new.conn.store) in
    (c.in-Ok.ensures.finds.found (law is_open)).1.0.was_open

pub returns-in-Ok-clause-taken : goal.returns-in-Ok-clause-taken
returns-in-Ok-clause-taken g c = (refl, λ clean was left. absurd (let refused = c.in-Ok.ensures.older clean was left in cc))

pub returns-in-Err-clause-other : goal.returns-in-Err-clause-other
returns-in-Err-clause-other g c clean = record {
  other = λ found wanted is own. c.in-Err.ensures.other found wanted (ap Err is) clean own;
  older = λ was is. c.in-Err.ensures.only clean was (ap Err is);
}
