use Rattle.std.proofs.Common.{◌∙◌, Ok, ap, subst, sym}
use Rattle.sqlite.specs.Held.{state}
use Rattle.x12_outbound.specs.Hubs.{hubs_of}
use Rattle.x12_tables.proofs.FindsLemmas.{finds_tested}
use Rattle.x12_tables.proofs.TakesLemmas.{takes_failed, takes_never}
use Rattle.x12_tables.specs.Fault.{fault_of_table}
use Rattle.x12_tables.specs.declared.fault.TableFault.TheVariants.{Memory, OldVersion}
use Rattle.x12_station_records.proofs.StationFoundLemmas.{origin_found}
use Rattle.x12_station_records.proofs.StationOlder.{older_failed, older_behind, never_old, passed_on, store_not_old}
use Rattle.x12_station_records.specs.StationAdopt.{FindsNumbers, FindsOwn}
use Rattle.x12_station_records.specs.StationNumbers.{AreMarked, KeptNumbers}
use Rattle.x12_station_records.specs.StationTaken.{HoldsStationFrom, HoldsStationOf}
use Rattle.x12_tables.specs.declared.fault.RecordsFault.TheVariants as fault
use Rattle.x12_station_records.proofs.station_adopting.find_own.Goals as goal

pub returns-clause-finds : goal.returns-clause-finds
returns-clause-finds g c =
    let old = state g.S.Store c.args.conn.now in
    let new = state g.S.Store c.find_numbers.new.conn in
    let numbers = c.in_ok-numbers.numbers in
    finds_tested (FindsNumbers c.args.oldest) (FindsOwn c.args.oldest c.args.party.now (hubs_of c.args.hubs.now)) numbers (Ok numbers) old new c.in_ok-numbers.ensures.finds
    (λ clean. record { numbers = (c.in_ok-numbers.ensures.finds.found clean).0; own = c.in_ok-test_owner.ensures.own; marked = c.in_ok-test_marks.ensures.marked })

pub returns-in_err-test_owner-clause-other : goal.returns-in_err-test_owner-clause-other
returns-in_err-test_owner-clause-other g c found wanted is clean own =
    let old = state g.S.Store c.args.conn.now in
    let said = origin_found c.args.oldest old.now c.in_ok-numbers.numbers (c.in_ok-numbers.ensures.finds.found clean).0 in
    c.in_err-test_owner.ensures.other (sym (ap (λ (k : KeptNumbers). k.origin.me) said) ∙ own.0, sym (ap (λ (k : KeptNumbers). k.origin.hubs) said) ∙ own.1)

pub returns-in_err-numbers-clause-taken : goal.returns-in_err-numbers-clause-taken
returns-in_err-numbers-clause-taken g c =
    takes_failed (HoldsStationOf c.args.oldest c.args.party.now (hubs_of c.args.hubs.now)) (HoldsStationFrom c.args.oldest) Memory fault.Memory c.in_err-numbers.field-0.0 _ c.from_residual.result (state g.S.Store c.args.conn.now) (state g.S.Store c.find_numbers.new.conn) c.from_residual.ensures.1
    (λ f is memory. is ∙ ap fault_of_table memory) (λ such. such.0) c.in_err-numbers.ensures.taken

pub returns-in_err-test_owner-clause-taken : goal.returns-in_err-test_owner-clause-taken
returns-in_err-test_owner-clause-taken g c =
    let old = state g.S.Store c.args.conn.now in
    takes_never (HoldsStationOf c.args.oldest c.args.party.now (hubs_of c.args.hubs.now)) fault.Memory _ old (state g.S.Store c.find_numbers.new.conn)
    (λ clean such.
    let said = origin_found c.args.oldest old.now c.in_ok-numbers.numbers (c.in_ok-numbers.ensures.finds.found clean).0 in
    c.in_err-test_owner.ensures.other (sym (ap (λ (k : KeptNumbers). k.origin.me) said) ∙ such.1.0, sym (ap (λ (k : KeptNumbers). k.origin.hubs) said) ∙ such.1.1))

pub returns-in_err-test_marks-clause-taken : goal.returns-in_err-test_marks-clause-taken
returns-in_err-test_marks-clause-taken g c =
    let old = state g.S.Store c.args.conn.now in
    takes_never (HoldsStationOf c.args.oldest c.args.party.now (hubs_of c.args.hubs.now)) fault.Memory _ old (state g.S.Store c.find_numbers.new.conn)
    (λ clean such. c.in_err-test_marks.ensures.unmarked (subst AreMarked (origin_found c.args.oldest old.now c.in_ok-numbers.numbers (c.in_ok-numbers.ensures.finds.found clean).0) such.0.0.marked))

pub returns-in_err-test_marks-clause-older : goal.returns-in_err-test_marks-clause-older
returns-in_err-test_marks-clause-older g c =
    let new = state g.S.Store c.find_numbers.new.conn in
    older_behind c.args.oldest OldVersion Memory c.in_ok-numbers.numbers c.from_residual-in_err-test_marks.result (state g.S.Store c.args.conn.now) new new c.in_ok-numbers.ensures.older (λ clean. clean)
    (store_not_old c.in_err-test_marks.field-0.0 c.from_residual-in_err-test_marks.result c.from_residual-in_err-test_marks.ensures.1 c.in_err-test_marks.ensures.fault)

pub returns-in_err-numbers-clause-older : goal.returns-in_err-numbers-clause-older
returns-in_err-numbers-clause-older g c =
    older_failed c.args.oldest c.in_err-numbers.field-0.0 c.from_residual.result (state g.S.Store c.args.conn.now) (state g.S.Store c.find_numbers.new.conn) c.from_residual.ensures.1 c.in_err-numbers.ensures.older

pub returns-in_err-test_owner-clause-older : goal.returns-in_err-test_owner-clause-older
returns-in_err-test_owner-clause-older g c =
    let new = state g.S.Store c.find_numbers.new.conn in
    older_behind c.args.oldest OldVersion Memory c.in_ok-numbers.numbers c.from_residual-in_err-test_owner.result (state g.S.Store c.args.conn.now) new new c.in_ok-numbers.ensures.older (λ clean. clean)
    (passed_on c.in_err-test_owner.field-0.0 c.from_residual-in_err-test_owner.result c.from_residual-in_err-test_owner.ensures.1 c.in_err-test_owner.ensures.known)

pub returns-clause-older : goal.returns-clause-older
returns-clause-older g c =
    let new = state g.S.Store c.find_numbers.new.conn in
    let numbers = c.in_ok-numbers.numbers in
    older_behind c.args.oldest OldVersion Memory numbers (Ok numbers) (state g.S.Store c.args.conn.now) new new c.in_ok-numbers.ensures.older (λ clean. clean) (never_old numbers)
