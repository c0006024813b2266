use Rattle.std.proofs.Common.{◌≡◌, ◌∙◌, false, map, refl, sym, subst}
use Rattle.std.specs.List.{list_any}
use Rattle.x12_judge.specs.Agreement.{agreement_view}
use Rattle.x12_station_records.proofs.StationAgreedLemmas.{kept_joined, joined_view}
use Rattle.x12_station_records.proofs.StationAgreedTaken.{never_joined}
use Rattle.x12_station_records.specs.StationPart.{is_same_pair}
use Rattle.std.proofs.Common.{true}
use Rattle.x12_station_records.proofs.station_agreements.join_agreement.Goals as goal

pub returns-clause-kept : goal.returns-clause-kept
returns-clause-kept c =
    let old = c.args.agreements.now.items in
    let new = c.push-2.new.self.items in
    let none = subst (λ xs. list_any (is_same_pair c.args.pair) xs ≡ false) c.deref.ensures.value (sym c.is_among.ensures ∙ c.if-is_among.false) in
    kept_joined (map agreement_view old) (map agreement_view new) (agreement_view c.args.last) c.args.pair c.requires none
    (joined_view old new c.args.last (record c.args.last { pairs = c.push.new.self }) c.args.pair c.in_ok-push-2.ensures.items refl refl c.in_ok-push.ensures.items)

pub returns-then-is_among-clause-taken : goal.returns-then-is_among-clause-taken
returns-then-is_among-clause-taken c kept =
    let some = subst (λ xs. list_any (is_same_pair c.args.pair) xs ≡ true) c.deref.ensures.value (sym c.is_among.ensures ∙ c.if-is_among.true) in
    absurd (never_joined (map agreement_view c.args.agreements.now.items) (agreement_view c.args.last) c.args.pair some kept)
