use Rattle.std.proofs.Common.{arith, length, sym, ap, ◌∙◌}
use Rattle.x12_envelopes.specs.Envelope.{envelope_view}
use Rattle.x12_envelopes.proofs.WrittenLengthLemmas.{sizes_are}
use Rattle.x12_envelopes.proofs.fitting.is_header.Goals as goal

pub returns-then-is_field-7-clause-sizes : goal.returns-then-is_field-7-clause-sizes
returns-then-is_field-7-clause-sizes c = sizes_are (envelope_view c.args.envelope.now) (record {
  sender_qualifier = search arith;
  sender_id = search arith;
  receiver_qualifier = search arith;
  receiver_id = search arith;
  date = ap length (sym c.date-date.ensures) ∙ search arith;
  time = ap length (sym c.time-time.ensures) ∙ search arith;
})

pub returns-else-is_field-7-clause-sizes : goal.returns-else-is_field-7-clause-sizes
returns-else-is_field-7-clause-sizes c = sizes_are (envelope_view c.args.envelope.now) (record {
  sender_qualifier = search arith;
  sender_id = search arith;
  receiver_qualifier = search arith;
  receiver_id = search arith;
  date = ap length (sym c.date-date.ensures) ∙ search arith;
  time = ap length (sym c.time-time.ensures) ∙ search arith;
})
