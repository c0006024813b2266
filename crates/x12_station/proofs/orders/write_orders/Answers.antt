use Rattle.std.proofs.Common.{◌≡◌, ap, sym, subst, ◌∙◌, arith, length, map, nat_lt}
use Rattle.x12_envelopes.specs.Envelope.{envelope_view, written}
use Rattle.x12_outbound.proofs.SubmittingLemmas.{handed}
use Rattle.x12_station.specs.Fault.{orders_fault}
use Rattle.x12_station.specs.Ordering.{order_view}
use Rattle.x12_station.specs.working.Prepared.{IsRowOrMemory, Knows}
use Rattle.x12_station.specs.Station.{Station}
use Rattle.x12_station.proofs.OrdersLemmas.{by_number, by_orders, by_size, icn_written, is_large, is_small, next_written, ordered}
use Rattle.x12_station.proofs.PreparedLemmas.{along_refusal}
use Rattle.x12_station.proofs.orders.write_orders.Goals as goal

pub returns-in_err-check_orders-clause-refused : goal.returns-in_err-check_orders-clause-refused
returns-in_err-check_orders-clause-refused c =
    let m = c.args.memory.now in
    let to = c.args.to.now in
    let at = c.args.at.now in
    let texts = map order_view c.args.orders.now in
    handed c.from_residual.result c.in_err-check_orders.field-0.0 (λ f. (s : Station) → Knows m s → IsRowOrMemory (orders_fault s to at texts) f) (λ e f. f ≡ e)
    (λ f same s knows. subst (IsRowOrMemory (orders_fault s to at texts)) (sym same)
    (along_refusal _ (orders_fault s to at texts) (by_orders m s knows to at texts) c.in_err-check_orders.field-0.0 c.in_err-check_orders.ensures.row))
    c.from_residual.ensures.1

pub written_len-requires : goal.written_len-requires
written_len-requires c =
    let m = c.args.memory.now in
    let same = icn_written m.me c.args.to.now c.args.at.now (record { interchange = c.next_within.result; group = c.next_within-2.result }) (map order_view c.args.orders.now)
    (envelope_view c.in_ok-envelope.envelope) c.in_ok-envelope.ensures in
    let least = c.next_within.ensures in
    omega arith

pub returns-then-written_len-gt-MAX_INTERCHANGE_BYTES-clause-refused :
    goal.returns-then-written_len-gt-MAX_INTERCHANGE_BYTES-clause-refused
returns-then-written_len-gt-MAX_INTERCHANGE_BYTES-clause-refused c = λ s knows.
    let m = c.args.memory.now in
    let to = c.args.to.now in
    let at = c.args.at.now in
    let texts = map order_view c.args.orders.now in
    let w = envelope_view c.in_ok-envelope.envelope in
    let same = next_written m to at texts w c.interchange.result c.next_within.result c.group.result c.next_within-2.result c.interchange.ensures.last c.next_within.ensures c.group.ensures.last c.next_within-2.ensures c.in_ok-envelope.ensures in
    (by_size m s knows to at texts c.in_ok-check_orders.ensures.row (ap (λ x. nat_lt 1048576 (length x)) (sym same) ∙ is_large (length (written w)) c.written_len.result c.written_len.ensures c.if-written_len-gt-MAX_INTERCHANGE_BYTES.true), λ e. cc)

pub returns-then-is_exhausted-clause-refused : goal.returns-then-is_exhausted-clause-refused
returns-then-is_exhausted-clause-refused c = λ s knows.
    let m = c.args.memory.now in
    let to = c.args.to.now in
    let at = c.args.at.now in
    let texts = map order_view c.args.orders.now in
    let w = envelope_view c.in_ok-envelope.envelope in
    let same = next_written m to at texts w c.interchange.result c.next_within.result c.group.result c.next_within-2.result c.interchange.ensures.last c.next_within.ensures c.group.ensures.last c.next_within-2.ensures c.in_ok-envelope.ensures in (
      by_number m s knows to at texts c.in_ok-check_orders.ensures.row (ap (λ x. nat_lt 1048576 (length x)) (sym same) ∙ is_small (length (written w)) c.written_len.result c.written_len.ensures c.if-written_len-gt-MAX_INTERCHANGE_BYTES.false)
          (sym c.is_exhausted.ensures ∙ c.if-is_exhausted.true),
      λ e. cc,
    )

pub write-requires : goal.write-requires
write-requires c =
    let m = c.args.memory.now in
    let same = icn_written m.me c.args.to.now c.args.at.now (record { interchange = c.next_within.result; group = c.next_within-2.result }) (map order_view c.args.orders.now)
    (envelope_view c.in_ok-envelope.envelope) c.in_ok-envelope.ensures in
    let least = c.next_within.ensures in
    record { nine_digits = omega arith }

pub returns-clause-ordered : goal.returns-clause-ordered
returns-clause-ordered c = λ s knows.
    let m = c.args.memory.now in
    let to = c.args.to.now in
    let at = c.args.at.now in
    let texts = map order_view c.args.orders.now in
    let w = envelope_view c.in_ok-envelope.envelope in
    let same = next_written m to at texts w c.interchange.result c.next_within.result c.group.result c.next_within-2.result c.interchange.ensures.last c.next_within.ensures c.group.ensures.last c.next_within-2.ensures c.in_ok-envelope.ensures in
    ordered m s knows to at texts c.in_ok-check_orders.ensures.row c.orders_are_submitted.ensures.law c.requires
    (ap (λ x. nat_lt 1048576 (length x)) (sym same) ∙ is_small (length (written w)) c.written_len.result c.written_len.ensures c.if-written_len-gt-MAX_INTERCHANGE_BYTES.false)
    (sym c.is_exhausted.ensures ∙ c.if-is_exhausted.false) c.in_ok-write.field-0.items (c.in_ok-write.ensures.written ∙ same)
