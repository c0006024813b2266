use Rattle.std.proofs.Common.{Ok}
use Rattle.sqlite.specs.Held.{state}
use Rattle.x12_outbound.specs.Hubs.{hubs_of}
use Rattle.x12_tables.proofs.FindsLemmas.{finds_then, finds_tested}
use Rattle.x12_tables.proofs.TakesLemmas.{takes_second}
use Rattle.x12_tables.specs.Fault.{fault_of_rows}
use Rattle.x12_tables.specs.declared.fault.TableFault.TheVariants.{Memory}
use Rattle.x12_station_records.proofs.StationFoundLemmas.{records_found, origin_found}
use Rattle.x12_station_records.proofs.StationOlder.{older_behind, older_on, never_old, rows_not_old, rows_name_none}
use Rattle.x12_station_records.specs.StationAdopt.{FindsOwn, FindsRows, FindsRecords}
use Rattle.x12_station_records.specs.StationNumbers.{numbers_view}
use Rattle.x12_station_records.specs.StationTaken.{HoldsStationOf, HoldsStationBy}
use Rattle.std.proofs.Common.{◌≡◌, ◌∙◌, Err, ap, arith}
use Rattle.sqlite.specs.State.{HasCleanDisk}
use Rattle.x12_tables.specs.declared.fault.RecordsFault.TheVariants as fault
use Rattle.x12_station_records.proofs.station_adopting.find_records.Goals as goal

pub returns-in-Ok-clause-finds : goal.returns-in-Ok-clause-finds
returns-in-Ok-clause-finds g c =
    let s0 = state g.S.Store c.args.conn.now in
    let s1 = state g.S.Store c.find_own.new.conn in
    let s2 = state g.S.Store c.find_rows.new.conn in
    let n = c.in_ok-numbers.numbers in
    let oldest = c.args.oldest in
    let party = c.args.party.now in
    let hubs = hubs_of c.args.hubs.now in
    let next = c.in-Ok.next in
    let all = finds_then (FindsOwn oldest party hubs) (FindsRows n) (λ db next. FindsRecords oldest party hubs db (next, n)) n (Ok next) s0 s1 s2
    (λ next own rows. records_found oldest party hubs s0.now n next own rows) c.in_ok-numbers.ensures.finds c.in-Ok.ensures.finds in
    finds_tested (λ db next. FindsRecords oldest party hubs db (next, n)) (FindsRecords oldest party hubs) next (Ok (next, n)) s0 s2 all (λ clean. (all.found clean).0)

pub returns-in-Err-clause-taken : goal.returns-in-Err-clause-taken
returns-in-Err-clause-taken g c =
    let s0 = state g.S.Store c.args.conn.now in
    let s1 = state g.S.Store c.find_own.new.conn in
    let s2 = state g.S.Store c.find_rows.new.conn in
    let n = c.in_ok-numbers.numbers in
    let oldest = c.args.oldest in
    let party = c.args.party.now in
    let hubs = hubs_of c.args.hubs.now in
    takes_second (FindsOwn oldest party hubs) (HoldsStationOf oldest party hubs) (HoldsStationBy (numbers_view n)) Memory fault.Memory n (FindsRows n) c.in-Err.fault (λ f. f ≡ fault_of_rows c.in-Err.fault) (Err c.rows_fault.result) s0 s1 s2 c.rows_fault.ensures
    (λ f is memory. is ∙ ap fault_of_rows memory) (λ db own such. (such.0.0, origin_found oldest db n own.numbers)) c.in_ok-numbers.ensures.finds c.in-Err.ensures.finds c.in-Err.ensures.taken

pub returns-in-Err-clause-other : goal.returns-in-Err-clause-other
returns-in-Err-clause-other g c found wanted is clean own = rows_name_none c.in-Err.fault c.rows_fault.result found wanted c.rows_fault.ensures is

pub returns-in-Err-clause-older : goal.returns-in-Err-clause-older
returns-in-Err-clause-older g c =
    let s1 = state g.S.Store c.find_own.new.conn in
    let s2 = state g.S.Store c.find_rows.new.conn in
    let mid : HasCleanDisk s2 → HasCleanDisk s1 = λ clean. omega (arith, c.in-Err.ensures.finds.survives.clean, clean) in
    older_behind c.args.oldest fault.OldVersion fault.Memory c.in_ok-numbers.numbers (Err c.rows_fault.result) (state g.S.Store c.args.conn.now) s1 s2 c.in_ok-numbers.ensures.older mid (rows_not_old c.in-Err.fault c.rows_fault.result c.rows_fault.ensures)

pub returns-in-Ok-clause-older : goal.returns-in-Ok-clause-older
returns-in-Ok-clause-older g c =
    let s1 = state g.S.Store c.find_own.new.conn in
    let s2 = state g.S.Store c.find_rows.new.conn in
    let mid : HasCleanDisk s2 → HasCleanDisk s1 = λ clean. omega (arith, c.in-Ok.ensures.finds.survives.clean, clean) in
    older_behind c.args.oldest fault.OldVersion fault.Memory c.in_ok-numbers.numbers (Ok (c.in-Ok.next, c.in_ok-numbers.numbers)) (state g.S.Store c.args.conn.now) s1 s2 c.in_ok-numbers.ensures.older mid (never_old (c.in-Ok.next, c.in_ok-numbers.numbers))

pub returns-in_err-numbers-clause-older : goal.returns-in_err-numbers-clause-older
returns-in_err-numbers-clause-older g c =
    older_on c.args.oldest c.in_err-numbers.field-0.0 c.from_residual.result (state g.S.Store c.args.conn.now) (state g.S.Store c.find_own.new.conn) c.from_residual.ensures.1 c.in_err-numbers.ensures.older
