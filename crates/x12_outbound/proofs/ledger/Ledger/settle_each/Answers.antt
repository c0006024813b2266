use Rattle.std.proofs.Common.{◌≡◌, ap, sym, ◌∙◌}
use Rattle.x12_outbound.specs.declared.evidence.Counts.{Counts}
use Rattle.x12_outbound.specs.Counts.{with_pieces, only_unclear, evidence_counted}
use Rattle.x12_outbound.specs.Plan.{findings_in}
use Rattle.x12_outbound.proofs.PlanLemmas.{first_of, rest_of, ends_same, counted_same, keeps_both, no_fates_left, no_counts_left}
use Rattle.x12_outbound.proofs.CountLemmas.{all_counted}
use Rattle.x12_outbound.proofs.ledger.Ledger.settle_each.Goals as goal
use Rattle.x12_outbound.proofs.ledger.Ledger.settle_each.Goals.{In_default}

-- the next piece settles a set where it was found to settle it
pub use_piece-requires-clause-settles : goal.use_piece-requires-clause-settles
use_piece-requires-clause-settles c =
    (first_of c.loop-evidence.self.holds c.loop-evidence.left.pieces _ c.in-Some.evidence c.in-Some.ensures.next c.loop-evidence.invariant.plan).settles

pub loop-evidence-preserved : goal.loop-evidence-preserved
loop-evidence-preserved c =
    let before = c.loop-evidence.invariant in
    let done = c.use_piece.ensures in
    let old = c.loop-evidence.self.holds in
    let new = c.use_piece.new.self.holds in
    let all = c.loop-evidence.left.pieces in
    let left = c.in-Some.rest.pieces in
    let piece = c.in-Some.evidence in
    let first = first_of old all left piece c.in-Some.ensures.next before.plan in
    record {
      plan = rest_of old new piece left first done.fates done.numbers done.kept.hubs;
      none_out = done.none_out;
      ends = λ k. ends_same old new all left piece c.in-Some.ensures.next done.fates k ∙ before.ends k;
      counted = counted_same c.loop-evidence.counts c.use_piece.new.counts all left piece c.in-Some.ensures.next done.counts ∙ before.counted;
      kept = keeps_both _ old new before.kept done.kept;
    }

-- no piece is left
pub returns-clause-fates : goal.returns-clause-fates
returns-clause-fates c k = sym (no_fates_left c.loop-evidence.self.holds c.loop-evidence.left.pieces c.in_default.ensures.spent k) ∙ c.loop-evidence.invariant.ends k

are_counted : (c : In_default) → c.loop-evidence.counts ≡ with_pieces (only_unclear c.args.settling.unclear) (findings_in c.args.settling.pieces)
are_counted c =
    sym (no_counts_left c.loop-evidence.counts c.loop-evidence.left.pieces c.in_default.ensures.spent) ∙ c.loop-evidence.invariant.counted
    ∙ ap (λ (counts : Counts). with_pieces counts (findings_in c.args.settling.pieces)) (c.new-counts.ensures ∙ ap only_unclear c.unclear.ensures.answers)

pub returns-clause-counts : goal.returns-clause-counts
returns-clause-counts c = are_counted c

-- no count stays at the greatest number
pub returns-clause-each : goal.returns-clause-each
returns-clause-each c = ap evidence_counted (are_counted c) ∙ all_counted c.args.settling.unclear c.args.settling.pieces c.unclear.ensures.few
