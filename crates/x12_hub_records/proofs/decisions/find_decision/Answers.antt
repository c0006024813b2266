use Rattle.std.proofs.Common.{◌∙◌, ap}
use Rattle.sqlite.specs.Held.{state}
use Rattle.x12_tables.proofs.ReadLemmas.{answers_with}
use Rattle.x12_hub_records.proofs.FindLemmas.{find_asks, finds}
use Rattle.x12_hub_records.specs.HubContent.{hub_content_of}
use Rattle.x12_hub_records.specs.HubRead.{first_outcome}
use Rattle.x12_hub_records.proofs.decisions.find_decision.Goals as goal

pub read-requires : goal.read-requires
read-requires g c = find_asks

pub returns : goal.returns
returns g c =
    answers_with _ _ _ c.decision_in_rows.result (state g.S.Store c.args.conn.now) (state g.S.Store c.read.new.conn) c.read.ensures.reads c.in_ok-rows.ensures.answered c.decision_in_rows.ensures (λ has is_open x told.
    let last = has.0 in
    let valid = has.1 in
    let old = state g.S.Store c.args.conn.now in
    let opened = c.read.ensures.reads.never_won_back is_open in
    told ∙ ap first_outcome c.deref.ensures.value ∙ finds old (state g.S.Store c.read.new.conn) last c.args.bytes.now c.in_ok-rows.rows.items (hub_content_of old.now.trees) (valid.holds opened) (valid.sound opened) (c.in_ok-rows.ensures.shown is_open))
