use Rattle.std.proofs.Common.{◌∙◌, ap, map}
use Rattle.sqlite.specs.Held.{state}
use Rattle.x12_tables.proofs.ReadLemmas.{answers_with}
use Rattle.x12_hub_records.proofs.LoadLemmas.{directory_asks, loads_directory}
use Rattle.x12_hub_records.specs.HubContent.{hub_content_of}
use Rattle.x12_hub_records.specs.HubRead.{entry_shown}
use Rattle.x12_hub_records.proofs.directory.load_directory.Goals as goal

pub read-requires : goal.read-requires
read-requires g c = directory_asks

pub returns : goal.returns
returns g c =
    answers_with _ _ _ c.entries_in_rows.result (state g.S.Store c.args.conn.now) (state g.S.Store c.read.new.conn) c.read.ensures.reads c.in_ok-rows.ensures.answered c.entries_in_rows.ensures (λ has is_open x told.
    let last = has.0 in
    let valid = has.1 in
    let old = state g.S.Store c.args.conn.now in
    told ∙ ap (map entry_shown) c.deref.ensures.value ∙ loads_directory old (state g.S.Store c.read.new.conn) last c.in_ok-rows.rows.items (hub_content_of old.now.trees) (valid.holds (c.read.ensures.reads.never_won_back is_open)) (c.in_ok-rows.ensures.shown is_open))
