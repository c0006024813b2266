use Rattle.std.proofs.Common.{◌∙◌, ◌+◌, sym, subst, map, take, arith}
use Rattle.std.proofs.lemmas.Grind.{common_steps}
use Rattle.sqlite.specs.Held.{state}
use Rattle.x12_inbound.specs.Posting.{posting_view}
use Rattle.x12_station_records.proofs.StationFiledLemmas.{one_further, and_posting}
use Rattle.x12_station_records.proofs.StationParts.{goes_step}
use Rattle.x12_station_records.specs.StationChange.{Turns, with_posting, HasNextPosting}
use Rattle.x12_station_records.specs.StationPart.{AddsPostings}
use Rattle.x12_station_records.proofs.station_postings.add_postings.Goals as goal

pub loop-posting-preserved : goal.loop-posting-preserved
loop-posting-preserved g c =
    let at = c.loop-posting in
    let from = c.args.at in
    let a = state g.S.Store c.args.tx.now.conn.now in
    let b = state g.S.Store at.tx.conn.now in
    let d = state g.S.Store c.add_posting.new.tx.conn.now in
    let items = c.args.postings.now in
    let ps = take at.posting-index (map posting_view items) in
    let p = posting_view c.posting-item.result in
    let is = one_further posting_view at.posting-index items _ c.posting-item.result c.loop-posting-test.true (sym c.posting-item.is) in (
      c.add_posting.ensures.same_reference ∙ at.invariant.0,
      goes_step (λ to. AddsPostings from ps to) at.next (Turns (with_posting p) (HasNextPosting at.next)) c.in_ok-add_posting.field-0 (λ to. AddsPostings from (take (at.posting-index + 1) (map posting_view items)) to) (at.next + 1) a b d
          (λ first second. subst (λ ts. AddsPostings from ts (at.next + 1) a d) (sym is) (and_posting a b d from at.next ps p first second)) at.invariant.1 c.in_ok-add_posting.ensures.part,
    )

pub returns-clause-part : goal.returns-clause-part
returns-clause-part g c = grind (arith, common_steps)
