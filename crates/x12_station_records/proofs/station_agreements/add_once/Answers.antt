use Rattle.std.proofs.Common.{◌∙◌, ◌+◌, ◌++◌, [], ◌∷◌, sym, rules}
use Rattle.sqlite.specs.declared.error.Error.{Error}
use Rattle.sqlite.specs.Held.{state}
use Rattle.x12_judge.specs.Agreement.{agreement_view}
use Rattle.x12_station.specs.Station.{each_once}
use Rattle.x12_station_records.proofs.StationOnceLemmas.{pair_there, pair_new}
use Rattle.x12_station_records.proofs.StationParts.{stands, goes_as}
use Rattle.x12_station_records.specs.StationChange.{Enters, with_pairs}
use Rattle.x12_station_records.specs.StationPart.{AddsPair}
use Rattle.x12_station_records.proofs.station_agreements.add_once.Goals as goal

pub returns-then-is_among-clause-part : goal.returns-then-is_among-clause-part
returns-then-is_among-clause-part g c =
    let a = state g.S.Store c.args.tx.now.conn.now in
    stands {E = Error} (λ to. AddsPair (agreement_view c.args.agreement.now) c.args.before.now c.args.pair c.args.at to) a c.args.at (pair_there a a (agreement_view c.args.agreement.now) c.args.before.now c.args.pair c.args.at (sym c.is_among.ensures ∙ c.if-is_among.true))

pub returns-in_err-add_pair-clause-part : goal.returns-in_err-add_pair-clause-part
returns-in_err-add_pair-clause-part g c = let part = c.in_err-add_pair.ensures.part [] in search (rules, part)

pub returns-clause-part : goal.returns-clause-part
returns-clause-part g c =
    let mine = agreement_view c.args.agreement.now in
    let before = c.args.before.now in
    let k = c.args.pair in
    let from = c.args.at in
    let a = state g.S.Store c.args.tx.now.conn.now in
    let b = state g.S.Store c.add_pair.new.tx.conn.now in
    let C = Enters from (with_pairs mine (each_once before)) (with_pairs mine (each_once before ++ k ∷ [])) in
    goes_as C c.in_ok-add_pair.field-0 (λ to. AddsPair mine before k from to) (from + 1) a b (pair_new a b mine before k from (sym c.is_among.ensures ∙ c.if-is_among.false)) (c.in_ok-add_pair.ensures.part (each_once before))
