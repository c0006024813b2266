use Rattle.std.proofs.Common.{◌≡◌, ◌++◌, take, drop, map}
use Rattle.x12_outbound.specs.Statement.{evidence_told}
use Rattle.x12_outbound.specs.Ledger.{row_view}
use Rattle.x12_outbound.specs.Settling.{findings}
use Rattle.x12_outbound.specs.Finding.{fates_in_both, fates_since, findings_kept}
use Rattle.x12_outbound.proofs.finding.pieces_of.Given as goal

-- those so far are pieces, and what is left is found by the fates since
abbrev pub invariant-loop-statement : goal.invariant-loop-statement
invariant-loop-statement l =
    let fates = fates_in_both l.me (map row_view l.rows) (map row_view l.closed) in
    record {
      said : map (λ p. p.statement) l.pieces.items ≡ take l.statement-index l.statements;
      found : findings fates (map evidence_told l.statements) ≡ findings_kept l.pieces.items ++ findings (fates_since l.settled fates) (map evidence_told (drop l.statement-index l.statements));
    }
