use Rattle.std.proofs.Common.{◌≡◌, ◌∙◌, Err, IsTrue, inl, inr, sym, arith}
use Rattle.sqlite.proofs.StateLemmas.{clean_if_open}
use Rattle.sqlite.specs.Held.{state}
use Rattle.sqlite.specs.State.{HasCleanDisk}
use Rattle.x12_outbound.specs.Hubs.{hubs_of}
use Rattle.x12_station_records.proofs.StationFoundLemmas.{valid_found}
use Rattle.x12_station_records.proofs.StationMigrateLemmas.{found_older, valid_newer, back_again, crash_migrates, writing_not_old, writing_names_none}
use Rattle.x12_station_records.proofs.StationOlder.{passed_on}
use Rattle.x12_station_records.specs.StationNumbers.{first_version}
use Rattle.x12_station_records.proofs.station_migrating.migrate_station.Goals as goal

pub returns-then-numbers-eq-STATION_VERSION-clause-valid :
    goal.returns-then-numbers-eq-STATION_VERSION-clause-valid
returns-then-numbers-eq-STATION_VERSION-clause-valid g c =
    let old = state g.S.Store c.args.conn.now in
    let new = state g.S.Store c.test_all.new.conn in
    let law : IsTrue new.is_open → HasCleanDisk new = clean_if_open (g.S.Store.view c.test_all.new.conn.store) (g.met.S.Store.shut_if_dirty c.test_all.new.conn.store) in
    let outside = c.in_ok-next.ensures.outside in
    valid_found first_version c.args.party.now (hubs_of c.args.hubs.now) (c.in_ok-next.next, c.in_ok-next.numbers) (λ low high. c.if-numbers-eq-STATION_VERSION.true) old new c.in_ok-next.ensures.finds outside.outside outside.settled law

pub returns-in-Ok-clause-valid : goal.returns-in-Ok-clause-valid
returns-in-Ok-clause-valid g c =
    let old = state g.S.Store c.args.conn.now in
    let mid = state g.S.Store c.test_all.new.conn in
    let new = state g.S.Store c.renew_whole.new.conn in
    let law : IsTrue new.is_open → HasCleanDisk new = clean_if_open (g.S.Store.view c.renew_whole.new.conn.store) (g.met.S.Store.shut_if_dirty c.renew_whole.new.conn.store) in
    valid_newer c.args.party.now (hubs_of c.args.hubs.now) (c.in_ok-next.next, c.in_ok-next.numbers) old mid c.in_ok-next.ensures.finds c.if-numbers-eq-STATION_VERSION.false c.noted_in.result c.era_in.result c.noted_in.ensures c.era_in.ensures
    c.in-Ok.field-0 new c.in-Ok.ensures.whole c.renew_whole.ensures.mode law

pub returns-in-Ok-clause-migrated : goal.returns-in-Ok-clause-migrated
returns-in-Ok-clause-migrated g c =
    let old = state g.S.Store c.args.conn.now in
    let mid = state g.S.Store c.test_all.new.conn in
    let new = state g.S.Store c.renew_whole.new.conn in
    found_older c.args.party.now (hubs_of c.args.hubs.now) (c.in_ok-next.next, c.in_ok-next.numbers) old mid c.in_ok-next.ensures.finds c.if-numbers-eq-STATION_VERSION.false c.noted_in.result c.era_in.result c.noted_in.ensures c.era_in.ensures
    c.in-Ok.field-0 new c.in-Ok.ensures.whole

pub returns-in-Ok-clause-crash : goal.returns-in-Ok-clause-crash
returns-in-Ok-clause-crash g c =
    let old = state g.S.Store c.args.conn.now in
    let mid = state g.S.Store c.test_all.new.conn in
    let new = state g.S.Store c.renew_whole.new.conn in
    crash_migrates c.args.party.now (hubs_of c.args.hubs.now) (c.in_ok-next.next, c.in_ok-next.numbers) old mid c.in_ok-next.ensures.finds c.if-numbers-eq-STATION_VERSION.false c.noted_in.result c.era_in.result c.noted_in.ensures c.era_in.ensures
    c.renew_whole.result new c.renew_whole.ensures.whole

pub returns-in-Err : goal.returns-in-Err
returns-in-Err g c =
    let old = state g.S.Store c.args.conn.now in
    let mid = state g.S.Store c.test_all.new.conn in
    let new = state g.S.Store c.renew_whole.new.conn in
    let which = c.writing_fault.ensures in
    record {
      valid = tt;
      migrated = tt;
      others = λ schema. absurd (let clash = sym c.in_ok-next.was ∙ c.test_all.ensures.others schema in cc);
      other = λ found wanted is clean own. writing_names_none c.writing_fault.result found wanted which is;
      known = λ clean was is. writing_not_old c.writing_fault.result was which is;
      back = back_again c.args.party.now (hubs_of c.args.hubs.now) (c.in_ok-next.next, c.in_ok-next.numbers) old mid c.in_ok-next.ensures.finds c.if-numbers-eq-STATION_VERSION.false c.noted_in.result c.era_in.result c.noted_in.ensures c.era_in.ensures c.in-Err.error new c.in-Err.ensures.whole;
      crash = crash_migrates c.args.party.now (hubs_of c.args.hubs.now) (c.in_ok-next.next, c.in_ok-next.numbers) old mid c.in_ok-next.ensures.finds c.if-numbers-eq-STATION_VERSION.false c.noted_in.result c.era_in.result c.noted_in.ensures c.era_in.ensures
          c.renew_whole.result new c.renew_whole.ensures.whole;
      taken = λ clean were. elim which [ inl memory ↦ inl memory | inr store ↦ inr (inl store) ];
    }

-- nothing is older than the first version
pub returns-in_err-next-clause-known : goal.returns-in_err-next-clause-known
returns-in_err-next-clause-known g c clean =
    passed_on c.in_err-next.field-0.0 c.from_residual.result c.from_residual.ensures.1
    (λ was same. let older = (c.in_err-next.ensures.only clean was same).older in omega (arith, older.0, older.1))
