use Rattle.std.proofs.Common.{◌∙◌, ap, map}
use Rattle.sqlite.specs.Held.{state}
use Rattle.x12_tables.proofs.ReadLemmas.{answers_with}
use Rattle.x12_station_records.proofs.StationOpenLemmas.{open_asks, loads_open}
use Rattle.x12_station_records.specs.StationContent.{content_of}
use Rattle.x12_station_records.specs.StationOpen.{number_shown}
use Rattle.x12_station_records.proofs.station_outset.load_open_numbers.Goals as goal

pub read-requires : goal.read-requires
read-requires g c = open_asks

pub returns : goal.returns
returns g c =
    answers_with _ _ _ c.numbers_in_rows.result (state g.S.Store c.args.conn.now) (state g.S.Store c.read.new.conn) c.read.ensures.reads c.in_ok-rows.ensures.answered c.numbers_in_rows.ensures (λ has is_open x told.
    let next = has.0 in
    let valid = has.1 in
    let old = state g.S.Store c.args.conn.now in
    told ∙ ap (map number_shown) c.deref.ensures.value ∙ loads_open old (state g.S.Store c.read.new.conn) next.agreement c.in_ok-rows.rows.items (content_of old.now.trees) (valid.holds (c.read.ensures.reads.never_won_back is_open)).has (c.in_ok-rows.ensures.shown is_open))
