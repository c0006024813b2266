use Rattle.std.proofs.Common.{◌∙◌, sym, ap, option_map}
use Rattle.sqlite.specs.Held.{state}
use Rattle.x12_outbound.specs.Entry.{entry_row}
use Rattle.x12_tables.proofs.ReadLemmas.{answers_made}
use Rattle.x12_station_records.proofs.StationGroupFindLemmas.{one_named, none_named}
use Rattle.x12_station_records.specs.StationContent.{content_of}
use Rattle.x12_station_records.proofs.station_outbound.find_closed_group.Goals as goal

pub returns-in-Some-clause-answers : goal.returns-in-Some-clause-answers
returns-in-Some-clause-answers g c =
    let old = state g.S.Store c.args.conn.now in
    let first = c.in_ok-found.ensures.answers in
    answers_made _ _ _ _ _ old (state g.S.Store c.find_closed_by_group.new.conn) first
    (λ has o found. c.named.ensures.value ∙ one_named c.args.gcn c.args.partner.now c.args.functional (content_of old.now.trees) (has.1.sound (first.reads.never_won_back o)) (entry_row c.in-Some.entry) (sym (ap (option_map entry_row) c.in-Some.is) ∙ found))

pub returns-in-None-clause-answers : goal.returns-in-None-clause-answers
returns-in-None-clause-answers g c =
    let old = state g.S.Store c.args.conn.now in
    let first = c.in_ok-found.ensures.answers in
    answers_made _ _ _ _ _ old (state g.S.Store c.find_closed_by_group.new.conn) first
    (λ has o found. none_named c.args.gcn c.args.partner.now c.args.functional (content_of old.now.trees) (has.1.sound (first.reads.never_won_back o)) (sym (ap (option_map entry_row) c.in-None.is) ∙ found))
