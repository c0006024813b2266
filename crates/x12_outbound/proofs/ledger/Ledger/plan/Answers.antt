use Rattle.std.proofs.Common.{◌≡◌, ◌∙◌, List, Contains, Option, map, ap, sym, subst}
use Rattle.x12_envelopes.specs.declared.party.Party.{Party}
use Rattle.x12_acks.specs.Answer.{answer_view}
use Rattle.x12_outbound.specs.Hubs.{hubs_of}
use Rattle.x12_outbound.specs.declared.evidence.Piece.{Piece}
use Rattle.x12_outbound.specs.declared.matches.Parties.{Parties}
use Rattle.x12_outbound.specs.Ledger.{LedgerInMemory, LedgerRow, row_view, submitted_by, AreInOrder}
use Rattle.x12_outbound.specs.declared.evidence.Statement.{Statement}
use Rattle.x12_outbound.specs.declared.row.Row.{Row}
use Rattle.x12_outbound.specs.Piece.{PlannedPiece, piece_view}
use Rattle.x12_outbound.specs.Subject.{subjects_in}
use Rattle.x12_outbound.specs.Statement.{evidence_told}
use Rattle.x12_outbound.specs.Settling.{findings}
use Rattle.x12_outbound.specs.Finding.{fates_in_both, findings_kept}
use Rattle.x12_outbound.specs.Plan.{Plan, ArePieces, evidence_in}
use Rattle.x12_outbound.proofs.LedgerLemmas.{icns_rise_of}
use Rattle.x12_outbound.proofs.PlannedLemmas.{planned_evidence, planned_names, planned, pieces_are_plan, rows_apart}
use Rattle.x12_outbound.proofs.ledger.Ledger.plan.Goals as goal
use Rattle.x12_outbound.proofs.ledger.Ledger.plan.Goals.{After-drop-statements-2}

pub pieces_of-requires-clause-held : goal.pieces_of-requires-clause-held
pieces_of-requires-clause-held c = icns_rise_of _ _ _ c.deref-3.ensures.value c.self.invariant

pub pieces_of-requires-clause-closed : goal.pieces_of-requires-clause-closed
pieces_of-requires-clause-closed c = icns_rise_of _ _ _ c.deref-4.ensures.value c.closed.invariant

pub statements_of-requires-clause-closed : goal.statements_of-requires-clause-closed
statements_of-requires-clause-closed c =
    let of = λ (v : LedgerInMemory). v.holds.me in
    let me : c.closed.inside.me ≡ c.self.inside.me = ap of c.closed.view_is ∙ c.requires.closed.me ∙ sym (ap of c.self.view_is) in
    subst (λ (m : Party). AreInOrder (submitted_by m (map row_view c.deref-2.result.now))) me
    (subst (λ (rows : List LedgerRow). AreInOrder (submitted_by c.closed.inside.me rows)) (sym (ap (map row_view) c.deref-2.ensures.value)) c.closed.invariant)

pub statements_of-requires-clause-apart : goal.statements_of-requires-clause-apart
statements_of-requires-clause-apart c =
    let v = c.args.self.now.holds in
    let u = c.args.closed.now.holds in
    let of = λ (v : LedgerInMemory). v.holds.rows in
    let rows_are : map row_view c.deref.result.now ≡ v.rows = ap (map row_view) c.deref.ensures.value ∙ ap of c.self.view_is in
    let closed_are : map row_view c.deref-2.result.now ≡ u.rows = ap (map row_view) c.deref-2.ensures.value ∙ ap of c.closed.view_is in
    rows_apart v.me (map row_view c.deref.result.now) (map row_view c.deref-2.result.now)
    (λ e d near far. c.requires.closed.apart e d (subst (λ (rs : List LedgerRow). Contains (submitted_by v.me rs) e) rows_are near)
    (subst (λ (m : Party). Contains (submitted_by m u.rows) d) (sym c.requires.closed.me) (subst (λ (rs : List LedgerRow). Contains (submitted_by v.me rs) d) closed_are far)))

module _ (c : After-drop-statements-2) where
  abbrev p : Parties
  p = record { me = c.self.inside.me; hubs = c.self.inside.hubs; from = c.args.from.now }

  abbrev rows : List LedgerRow
  rows = map row_view c.deref.result.now

  abbrev closed : List LedgerRow
  closed = map row_view c.deref-2.result.now

  abbrev statements : List (Option Statement)
  statements = c.in_ok-statements.statements.items

  abbrev pieces : List Piece
  pieces = c.in_ok-pieces.pieces.items

  me : c.self.inside.me ≡ c.args.self.now.holds.me
  me = ap (λ (v : LedgerInMemory). v.holds.me) c.self.view_is

  hubs : (hubs_of c.self.inside.hubs) ≡ c.args.self.now.holds.hubs
  hubs = ap (λ (v : LedgerInMemory). v.holds.hubs) c.self.view_is

  rows_are : map row_view c.deref.result.now ≡ c.args.self.now.holds.rows
  rows_are = ap (map row_view) c.deref.ensures.value ∙ ap (λ (v : LedgerInMemory). v.holds.rows) c.self.view_is

  closed_are : map row_view c.deref-2.result.now ≡ c.args.closed.now.holds.rows
  closed_are = ap (map row_view) c.deref-2.ensures.value ∙ ap (λ (v : LedgerInMemory). v.holds.rows) c.closed.view_is

  said : map (λ (q : Piece). q.statement) c.in_ok-pieces.pieces.items ≡ c.in_ok-statements.statements.items
  said = c.in_ok-pieces.ensures.said ∙ c.deref-5.ensures.value

  pieces_are : c.new.result.pieces ≡ map piece_view c.in_ok-pieces.pieces.items
  pieces_are = ap (λ (q : Plan). q.pieces) c.new.ensures

  found : findings_kept c.in_ok-pieces.pieces.items ≡ findings (fates_in_both c.self.inside.me (map row_view c.deref.result.now) (map row_view c.deref-2.result.now)) (map evidence_told c.in_ok-statements.statements.items)
  found =
      c.in_ok-pieces.ensures.found
      ∙ ap (λ (rs : List Row). findings (fates_in_both c.self.inside.me (map row_view rs) (map row_view c.deref-4.result.now)) (map evidence_told c.deref-5.result.now)) (c.deref-3.ensures.value ∙ sym c.deref.ensures.value)
      ∙ ap (λ (rs : List Row). findings (fates_in_both c.self.inside.me (map row_view c.deref.result.now) (map row_view rs)) (map evidence_told c.deref-5.result.now)) (c.deref-4.ensures.value ∙ sym c.deref-2.ensures.value)
      ∙ ap (λ (ss : List (Option Statement)). findings (fates_in_both c.self.inside.me (map row_view c.deref.result.now) (map row_view c.deref-2.result.now)) (map evidence_told ss)) c.deref-5.ensures.value

  are_pieces : ArePieces c.args.self.now.holds c.args.closed.now.holds c.new.result.pieces
  are_pieces = subst (λ (ps : List PlannedPiece). ArePieces c.args.self.now.holds c.args.closed.now.holds ps) (sym pieces_are)
      (planned c.args.self.now.holds c.args.closed.now.holds p me hubs rows closed rows_are closed_are c.requires.closed statements pieces said c.in_ok-statements.ensures.named found)

-- the statements are the evidence
pub returns-clause-evidence : goal.returns-clause-evidence
returns-clause-evidence c =
    ap evidence_in (pieces_are c)
    ∙ planned_evidence c.args.self.now.holds c.args.closed.now.holds (p c) (me c) (hubs c) (rows c) (closed c) (rows_are c) (closed_are c) c.requires.closed (statements c) (pieces c) (said c) (map answer_view c.args.answers.now) c.in_ok-statements.ensures.evidence

-- and each names what its answer names
pub returns-clause-names : goal.returns-clause-names
returns-clause-names c =
    ap subjects_in (pieces_are c)
    ∙ planned_names c.args.self.now.holds c.args.closed.now.holds (p c) (me c) (hubs c) (rows c) (closed c) (rows_are c) (closed_are c) c.requires.closed (statements c) (pieces c) (said c) (map answer_view c.args.answers.now) c.in_ok-statements.ensures.names

-- and each names its set, and is what it was found to be
pub returns-clause-pieces : goal.returns-clause-pieces
returns-clause-pieces c = are_pieces c

pub returns-clause-plan : goal.returns-clause-plan
returns-clause-plan c = pieces_are_plan c.args.self.now.holds c.args.closed.now.holds c.requires.closed c.new.result.pieces (are_pieces c)
