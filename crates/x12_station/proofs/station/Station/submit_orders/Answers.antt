use Rattle.std.proofs.Common.{◌≡◌, ap, sym, subst, ◌∙◌, map}
use Rattle.x12_outbound.specs.Entry.{entry_row}
use Rattle.x12_profile.specs.X12.{x12}
use Rattle.x12_outbound.proofs.SubmittingLemmas.{handed}
use Rattle.x12_station.specs.declared.fault.StationFault.TheVariants.{Store}
use Rattle.x12_station.specs.Fault.{IsRowOrWant, orders_fault}
use Rattle.x12_station.specs.Ordering.{order_view}
use Rattle.x12_profile.proofs.CountLemmas.{none_counted}
use Rattle.x12_station.specs.Seen.{station_of}
use Rattle.x12_station.specs.StationStep.{entered}
use Rattle.x12_station.proofs.EnteringLemmas.{number_entered}
use Rattle.x12_station.proofs.OrdersLemmas.{orders_taken}
use Rattle.x12_station.proofs.StoppedLemmas.{answers_of, orders_left, step_committed, step_untouched, whole}
use Rattle.x12_station.proofs.SubmittingLemmas.{knows_held, some_known}
use Rattle.x12_station.proofs.station.Station.submit_orders.Goals as goal

pub returns-in_err-bytes-clause-refused : goal.returns-in_err-bytes-clause-refused
returns-in_err-bytes-clause-refused g c = λ answers.
    let m = c.self.inside.memory in
    let s = g.R.Records.content c.self.inside.records in
    let was = c.self.invariant in
    let held = was.held (answers_of c.self.view_is answers) in
    let old = station_of m.ledger.holds m.counts s in
    let row = orders_fault old c.args.to c.args.at.now (map order_view c.args.orders.now) in
    rw (← c.self.view_is)
    (handed c.from_residual.result c.in_err-bytes.field-0.0 (IsRowOrWant row) (λ e f. f ≡ e)
    (λ f same. subst (IsRowOrWant row) (sym same) (c.in_err-bytes.ensures.refused old (knows_held m s was.ready held)).0)
    c.from_residual.ensures.1)

pub returns-in_err-bytes-clause-store : goal.returns-in_err-bytes-clause-store
returns-in_err-bytes-clause-store g c =
    let any = some_known c.self.inside.memory in
    none_counted c.from_residual.result (λ f. f ≡ Store) c.args.self.now.failures
    (handed c.from_residual.result c.in_err-bytes.field-0.0 (λ f. f ≡ Store → ⊥) (λ e f. f ≡ e)
    (λ f same is. (c.in_err-bytes.ensures.refused any.0 any.1).1 (sym same ∙ is))
    c.from_residual.ensures.1)

pub returns-in_err-enter-clause-refused : goal.returns-in_err-enter-clause-refused
returns-in_err-enter-clause-refused g c = λ answers.
    let row = orders_fault c.args.self.now.state c.args.to c.args.at.now (map order_view c.args.orders.now) in
    handed c.from_residual-in_err-enter.result c.in_err-enter.field-0.0 (IsRowOrWant row) (λ e f. f ≡ e)
    (λ f same. subst (IsRowOrWant row) (sym same) (c.in_err-enter.ensures.fault row))
    c.from_residual-in_err-enter.ensures.1

pub returns-clause-took : goal.returns-clause-took
returns-clause-took g c = λ answers.
    let m = c.self.inside.memory in
    let s = g.R.Records.content c.self.inside.records in
    let was = c.self.invariant in
    let held = was.held (c.in_ok-enter.ensures.stands.never_won_back answers) in
    let old = station_of m.ledger.holds m.counts s in
    rw (← c.self.view_is, c.in_ok-clone.ensures.cases ∙ c.in_ok-prepared.ensures.bytes)
    (orders_taken old c.args.to c.args.at.now (map order_view c.args.orders.now) c.in_ok-bytes.bytes.items
    (station_of c.enter.new.memory.ledger.holds c.enter.new.memory.counts (g.R.Records.content c.enter.new.records))
    (c.in_ok-bytes.ensures.ordered old (knows_held m s was.ready held))
    (c.in_ok-enter.ensures.entered answers ∙ ap (entered x12 old) c.in_ok-prepared.ensures.bytes))

pub returns-clause-number : goal.returns-clause-number
returns-clause-number g c =
    let p = c.in_ok-prepared.prepared in
    number_entered c.self.inside.memory p.book (entry_row p.entry) c.in_ok-prepared.ensures.may
    ∙ ap x12.number (sym c.in_ok-clone.ensures.cases)

pub returns-in_err-bytes-clause-crash : goal.returns-in_err-bytes-clause-crash
returns-in_err-bytes-clause-crash g c =
    let m = c.self.inside.memory in
    let was = c.self.invariant in
    rw (← c.self.view_is) (whole g.R.Records _ m.ledger.holds m.ledger.holds m.counts m.counts (λ d answers may. g.met.R.Records.left_is_held c.self.inside.records d was.valid answers may) (step_untouched g.R.Records _))

pub returns-in_err-prepared-clause-crash : goal.returns-in_err-prepared-clause-crash
returns-in_err-prepared-clause-crash g c =
    let m = c.self.inside.memory in
    let was = c.self.invariant in
    rw (← c.self.view_is) (whole g.R.Records _ m.ledger.holds m.ledger.holds m.counts m.counts (λ d answers may. g.met.R.Records.left_is_held c.self.inside.records d was.valid answers may) (step_untouched g.R.Records _))

pub returns-in_err-clone-clause-crash : goal.returns-in_err-clone-clause-crash
returns-in_err-clone-clause-crash g c =
    let m = c.self.inside.memory in
    let was = c.self.invariant in
    rw (← c.self.view_is) (whole g.R.Records _ m.ledger.holds m.ledger.holds m.counts m.counts (λ d answers may. g.met.R.Records.left_is_held c.self.inside.records d was.valid answers may) (step_untouched g.R.Records _))

pub returns-in_err-enter-clause-crash : goal.returns-in_err-enter-clause-crash
returns-in_err-enter-clause-crash g c =
    let m = c.self.inside.memory in
    let n = c.enter.new.memory in
    let s = g.R.Records.content c.self.inside.records in
    let was = c.self.invariant in
    let p = c.in_ok-prepared in
    rw (← c.self.view_is)
    (whole g.R.Records _ m.ledger.holds n.ledger.holds m.counts n.counts (λ d answers may. g.met.R.Records.left_is_held c.enter.new.records d c.enter.ensures.stands.valid answers may)
    (step_committed g.R.Records _ _ c.enter.ensures.crash (λ answers. orders_left m was.ready p.prepared.book (entry_row p.prepared.entry) p.ensures.may s (was.held answers) c.args.to c.args.at.now (map order_view c.args.orders.now) c.in_ok-bytes.bytes.items p.ensures.bytes c.in_ok-bytes.ensures.ordered)))

pub returns-clause-crash : goal.returns-clause-crash
returns-clause-crash g c =
    let m = c.self.inside.memory in
    let n = c.enter.new.memory in
    let s = g.R.Records.content c.self.inside.records in
    let was = c.self.invariant in
    let p = c.in_ok-prepared in
    rw (← c.self.view_is)
    (whole g.R.Records _ m.ledger.holds n.ledger.holds m.counts n.counts (λ d answers may. g.met.R.Records.left_is_held c.enter.new.records d c.enter.ensures.stands.valid answers may)
    (step_committed g.R.Records _ _ c.enter.ensures.crash (λ answers. orders_left m was.ready p.prepared.book (entry_row p.prepared.entry) p.ensures.may s (was.held answers) c.args.to c.args.at.now (map order_view c.args.orders.now) c.in_ok-bytes.bytes.items p.ensures.bytes c.in_ok-bytes.ensures.ordered)))
