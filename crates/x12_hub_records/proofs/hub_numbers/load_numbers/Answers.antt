use Rattle.std.proofs.Common.{subst}
use Rattle.sqlite.specs.Held.{state}
use Rattle.x12_hub_records.proofs.NumbersKept.{numbers_asks, loads_numbers}
use Rattle.x12_hub_records.specs.HubAdopt.{AreNumbers}
use Rattle.x12_hub_records.specs.HubContent.{hub_content_of}
use Rattle.x12_hub_records.proofs.hub_numbers.load_numbers.Goals as goal

pub read-requires : goal.read-requires
read-requires g c = numbers_asks

pub returns : goal.returns
returns g c = record {
  reads = c.read.ensures.reads;
  answered = c.in_ok-rows.ensures.answered;
  found = λ has is_open.
      let old = state g.S.Store c.args.conn.now in
      let holds = has.1.holds (c.read.ensures.reads.never_won_back is_open) in
      loads_numbers old (state g.S.Store c.read.new.conn) has.0 c.in_ok-rows.rows.items (hub_content_of old.now.trees) c.in_ok-hub_numbers_in_rows.field-0 holds (c.in_ok-rows.ensures.shown is_open) (subst (AreNumbers c.in_ok-hub_numbers_in_rows.field-0) c.deref.ensures.value c.in_ok-hub_numbers_in_rows.ensures.are);
}
