use Rattle.std.proofs.Common.{◌≡◌, ◌∙◌, ap, sym, map, rules}
use Rattle.x12_acks.specs.Key.{key_view}
use Rattle.x12_outbound.specs.Piece.{Settles, finding_view}
use Rattle.x12_outbound.specs.Fate.{final_fate}
use Rattle.x12_outbound.specs.Ledger.{row_view}
use Rattle.x12_outbound.specs.Settling.{finding_by_fate}
use Rattle.x12_outbound.specs.Finding.{fates_in_both}
use Rattle.x12_outbound.proofs.FindingLemmas.{settled_since, others_none_in_both}
use Rattle.x12_outbound.proofs.finding.find.Goals as goal

-- the set of a piece that settles is settled from then on
pub returns-clause-after : goal.returns-clause-after
returns-clause-after c k =
    let me = c.args.me.now in
    let rows = map row_view c.args.rows.now in
    let closed = map row_view c.args.closed.now in
    let s = c.in-Some.statement in
    let settles : finding_view c.finding_at-finding.result ≡ Settles = search rules in
    rw c.in-Some.is (settled_since me (fates_in_both me rows closed) (others_none_in_both me rows closed) c.args.settled.now c.insert.new.self (key_view s.key) s.fate c.in_ok-insert.ensures.updates.0
    (ap (λ o. finding_by_fate o (final_fate s.fate)) (sym c.fate_with.ensures) ∙ sym c.finding_at-finding.ensures ∙ settles) k)
