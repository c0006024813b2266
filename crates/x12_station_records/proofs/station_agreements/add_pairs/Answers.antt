use Rattle.std.proofs.Common.{◌∙◌, ◌+◌, refl, sym, subst, take, get_or, arith}
use Rattle.std.proofs.lemmas.Grind.{common_steps}
use Rattle.sqlite.specs.Held.{state}
use Rattle.x12_judge.specs.Agreement.{agreement_view}
use Rattle.x12_station_records.proofs.StationFiledLemmas.{one_more_taken}
use Rattle.x12_station_records.proofs.StationOnceLemmas.{and_pair}
use Rattle.x12_station_records.proofs.StationParts.{goes_both}
use Rattle.x12_station_records.specs.StationPart.{AddsPair, AddsPairs}
use Rattle.x12_station_records.proofs.station_agreements.add_pairs.Goals as goal

pub loop-i-preserved : goal.loop-i-preserved
loop-i-preserved g c =
    let at = c.loop-i in
    let from = c.args.at in
    let to = c.in_ok-next.next in
    let mine = agreement_view c.args.agreement.now in
    let items = c.args.pairs.now in
    let a = state g.S.Store c.args.tx.now.conn.now in
    let b = state g.S.Store at.tx.conn.now in
    let d = state g.S.Store c.add_once.new.tx.conn.now in
    let before = take at.i items in
    let k = get_or items at.i _ in
    let is = one_more_taken at.i items _ k c.loop-i-test.true refl in (
      c.add_once.ensures.same_reference ∙ at.invariant.0,
      goes_both (λ to. AddsPairs mine from before to) at.next (λ to. AddsPair mine before k at.next to) to (λ to. AddsPairs mine from (take (at.i + 1) items) to) to a b d
          (λ first second. subst (λ ps. AddsPairs mine from ps to a d) (sym is) (and_pair a b d mine before k from at.next to first second)) at.invariant.1 c.in_ok-next.ensures.part,
    )

pub returns-clause-part : goal.returns-clause-part
returns-clause-part g c = grind (arith, common_steps)
