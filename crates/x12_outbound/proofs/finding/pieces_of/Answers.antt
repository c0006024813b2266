use Rattle.std.proofs.Common.{◌+◌, ◌++◌, ◌∷◌, [], Option, List, drop, ◌∙◌, ap, sym, map, take, arith}
use Rattle.std.proofs.lemmas.Grind.{common_steps}
use Rattle.std.proofs.lemmas.List.{map-append, take_more}
use Rattle.x12_outbound.specs.declared.evidence.Piece.{Piece}
use Rattle.x12_outbound.specs.declared.evidence.Statement.{Statement}
use Rattle.x12_outbound.specs.Statement.{evidence_told}
use Rattle.x12_outbound.specs.Ledger.{row_view}
use Rattle.x12_outbound.specs.Settling.{findings}
use Rattle.x12_outbound.specs.Finding.{fates_in_both, fates_since, findings_kept}
use Rattle.x12_outbound.proofs.FindingLemmas.{pieces_more, none_settled, none_left}
use Rattle.x12_outbound.proofs.finding.pieces_of.Goals as goal

-- no set is settled at first
pub loop-statement-init : goal.loop-statement-init
loop-statement-init c = record {
  said = ap (map (λ (p : Piece). p.statement)) c.new-pieces.ensures.items;
  found = none_settled (fates_in_both c.args.me.now (map row_view c.args.rows.now) (map row_view c.args.closed.now)) c.new-settled.result c.new-pieces.result.items c.args.statements.now c.new-settled.ensures.empty c.new-pieces.ensures.items;
}

-- the next statement is a piece
pub loop-statement-preserved : goal.loop-statement-preserved
loop-statement-preserved c =
    let fates = fates_in_both c.args.me.now (map row_view c.args.rows.now) (map row_view c.args.closed.now) in
    let piece : Piece = record { statement = c.statement-item.result; finding = c.in_ok-finding.finding } in
    let before = c.loop-statement.invariant in
    let at = c.loop-statement.statement-index in
    record {
      said = ap (map (λ (p : Piece). p.statement)) c.in_ok-push.ensures.items ∙ map-append (λ (p : Piece). p.statement) c.loop-statement.pieces.items (piece ∷ [])
          ∙ ap (λ (said : List (Option Statement)). said ++ c.statement-item.result ∷ []) before.said
          ∙ sym (take_more c.args.statements.now at c.statement-item.result c.loop-statement-test.true ∙ ap (λ (s : Option Statement). take at c.args.statements.now ++ s ∷ []) (sym c.statement-item.is));
      found = pieces_more fates (fates_since c.loop-statement.settled fates) (fates_since c.find.new.settled fates) c.args.statements.now c.loop-statement.pieces.items at c.statement-item.result c.in_ok-finding.finding
          c.loop-statement-test.true c.statement-item.is before.found c.in_ok-finding.ensures.found c.in_ok-finding.ensures.after
          ∙ ap (λ (pieces : List Piece). findings_kept pieces ++ findings (fates_since c.find.new.settled fates) (map evidence_told (drop (at + 1) c.args.statements.now))) (sym c.in_ok-push.ensures.items);
    }

-- no statement is left
pub returns-clause-found : goal.returns-clause-found
returns-clause-found c =
    none_left (fates_in_both c.args.me.now (map row_view c.args.rows.now) (map row_view c.args.closed.now)) (fates_since c.loop-statement.settled (fates_in_both c.args.me.now (map row_view c.args.rows.now) (map row_view c.args.closed.now))) c.args.statements.now c.loop-statement.pieces.items c.loop-statement.statement-index
    (omega (arith, c.loop-statement-test.false)) c.loop-statement.invariant.found

pub returns-clause-said : goal.returns-clause-said
returns-clause-said c = grind (arith, common_steps)
