use Rattle.std.proofs.Common.{[], ◌∷◌, ◌++◌, OnOk, rules, length, w64, ◌≡◌}
use Rattle.std.proofs.lemmas.Int.{to_z-of_z}
use Rattle.sqlite.specs.Held.{state}
use Rattle.sqlite.specs.Order.{Row}
use Rattle.sqlite.specs.State.{HasCleanDisk}
use Rattle.sql_rows.specs.Kept.{RanInside}
use Rattle.sql_rows.proofs.Parts.{part_of}
use Rattle.x12_judge.specs.Agreement.{agreement_view}
use Rattle.x12_station_records.proofs.StationAgreementLemmas.{agrees, pair_params}
use Rattle.x12_station_records.proofs.StationCompile.{agree_text}
use Rattle.x12_station_records.proofs.StationValueLemmas.{kept_integer}
use Rattle.x12_station_records.specs.StationChange.{Enters, with_pairs}
use Rattle.x12_station_records.specs.StationTables.{pair_of}
use Rattle.x12_station_records.proofs.station_agreements.add_pair.Goals as goal

pub returns-clause-part : goal.returns-clause-part
returns-clause-part g c pairs =
    let old = state g.S.Store c.args.tx.now.conn.now in
    let new = state g.S.Store c.run.new.tx.conn.now in
    let a = agreement_view c.args.agreement.now in
    let pair = c.args.pair in
    let two : length pair.0 ≡ 2 = search rules in
    let three : length pair.1 ≡ 3 = search rules in
    let params : Row = pair_params c.args.at (pair_of a.partner a.lenient pair) in
    let ran : HasCleanDisk new → OnOk c.run.result (RanInside agree_text params old new) = λ clean.
    rw (c.in_ok-at.ensures.ok, kept_integer c.args.at c.in_ok-at.ensures.few, c.party_bytes-bytes.ensures.bytes, to_z-of_z w64 c.lenient_value-lenient.result (record { sfits = c.lenient_value-lenient.type_inv }), c.lenient_value-lenient.ensures) at (c.run.ensures.ran clean) in
    part_of (Enters c.args.at (with_pairs a pairs) (with_pairs a (pairs ++ pair ∷ []))) agree_text params old new
    (λ it s has. agrees old new a pairs pair c.args.at it.count s (c.party_bytes-bytes.ensures.wide, two, three) c.in_ok-at.ensures.few has it.ran) c.run.result ran c.run.ensures.keeps c.run.ensures.survives
