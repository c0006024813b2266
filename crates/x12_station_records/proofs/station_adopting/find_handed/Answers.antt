use Rattle.std.proofs.Common.{Ok, arith}
use Rattle.sqlite.specs.Held.{state}
use Rattle.x12_tables.proofs.FindsLemmas.{finds_tested}
use Rattle.x12_tables.proofs.TakesLemmas.{takes_failed, takes_never}
use Rattle.x12_tables.specs.declared.fault.TableFault.TheVariants.{Memory}
use Rattle.x12_station_records.specs.StationAdopt.{FindsPostings, FindsHanded}
use Rattle.x12_station_records.specs.StationTaken.{HoldsStation, HoldsHanded}
use Rattle.std.proofs.Common.{◌∙◌}
use Rattle.x12_station_records.proofs.station_adopting.find_handed.Goals as goal

pub returns-clause-finds : goal.returns-clause-finds
returns-clause-finds g c =
    let old = state g.S.Store c.args.conn.now in
    let new = state g.S.Store c.find_postings.new.conn in
    let next = c.in_ok-next.next in
    finds_tested FindsPostings (FindsHanded c.args.handed) next (Ok next) old new c.in_ok-next.ensures.finds
    (λ clean. ((c.in_ok-next.ensures.finds.found clean).0, omega (arith, c.if-handed-next.false)))

pub returns-in_err-next-clause-taken : goal.returns-in_err-next-clause-taken
returns-in_err-next-clause-taken g c =
    takes_failed (HoldsHanded c.args.handed) HoldsStation Memory Memory c.in_err-next.field-0.0 _ c.from_residual.result (state g.S.Store c.args.conn.now) (state g.S.Store c.find_postings.new.conn) c.from_residual.ensures.1
    (λ f is memory. is ∙ memory) (λ such. such.0) c.in_err-next.ensures.taken

pub returns-then-handed-next-clause-taken : goal.returns-then-handed-next-clause-taken
returns-then-handed-next-clause-taken g c =
    let old = state g.S.Store c.args.conn.now in
    takes_never (HoldsHanded c.args.handed) Memory _ old (state g.S.Store c.find_postings.new.conn)
    (λ clean such. omega (arith, such.0.sound.handed, such.1, (c.in_ok-next.ensures.finds.found clean).0.next_is, c.if-handed-next.true))
