use Rattle.std.proofs.Common.{◌∙◌, ap, map}
use Rattle.sqlite.specs.Held.{state}
use Rattle.x12_tables.proofs.ReadLemmas.{answers_with}
use Rattle.x12_station_records.proofs.StationAgreedLemmas.{agreed_asks, loads_agreements}
use Rattle.x12_station_records.specs.StationAgreed.{pair_shown}
use Rattle.x12_station_records.specs.StationContent.{content_of, agreements_of}
use Rattle.x12_station_records.proofs.station_agreements.load_agreements.Goals as goal

pub read-requires : goal.read-requires
read-requires g c = agreed_asks

pub returns-clause-answers : goal.returns-clause-answers
returns-clause-answers g c =
    answers_with _ _ _ c.agreements_in_rows.result (state g.S.Store c.args.conn.now) (state g.S.Store c.read.new.conn) c.read.ensures.reads c.in_ok-rows.ensures.answered c.agreements_in_rows.ensures.agreements (λ has is_open x told.
    let next = has.0 in
    let valid = has.1 in
    let old = state g.S.Store c.args.conn.now in
    let was_open = c.read.ensures.reads.never_won_back is_open in
    told ∙ ap (λ rows. agreements_of (map pair_shown rows)) c.deref.ensures.value
    ∙ loads_agreements old (state g.S.Store c.read.new.conn) next.agreement c.in_ok-rows.rows.items (content_of old.now.trees) (valid.holds was_open).has (valid.sound was_open) (c.in_ok-rows.ensures.shown is_open))
