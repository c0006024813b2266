-- What was checked found nothing.
use Rattle.std.proofs.Common.{◌∙◌, sym, ap}
use Rattle.x12_nodes.specs.Merging.{stamps_rise_from}
use Rattle.x12_nodes.proofs.settling.look_over.Goals as goal

pub returns-clause-nothing : goal.returns-clause-nothing
returns-clause-nothing g c = record {
  stamp = ap (stamps_rise_from 0) (sym (c.deref.ensures.value ∙ c.in_ok-stamps.ensures)) ∙ sym c.if-not-rise.ensures;
  packet = sym c.if-not-all_come_rightly.ensures;
  replay = sym c.if-not-replay.ensures;
}
