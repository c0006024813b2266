-- Lemmas on what an answer closes in a ledger.
use Rattle.std.proofs.Common.{◌≡◌, List, [], ◌∷◌, ◌++◌, append-nil, Option, Some, None, option_map, option_to_list, if◌then◌else◌, Bool, true, false, refl, ap, ◌∙◌}
use Rattle.std.specs.List.{cons_option}
use Rattle.std.specs.Option.{option_or}
use Rattle.x12_envelopes.specs.declared.party.Party.{Party}
use Rattle.x12_judge.specs.Agreement.{is_same_party}
use Rattle.x12_acks.specs.Answer.{Acknowledgment}
use Rattle.x12_acks.specs.Evidence.{Evidence, answer_evidence, evidence_of}
use Rattle.x12_acks.specs.Submission.{TransactionSetKey}
use Rattle.x12_outbound.specs.Piece.{PlannedPiece}
use Rattle.x12_outbound.specs.declared.fate.Fate.{Fate}
use Rattle.x12_outbound.specs.Entry.{SetRow}
use Rattle.x12_outbound.specs.Matching.{stated}
use Rattle.x12_outbound.specs.Settling.{Fates, finding, findings, fates_after, target_by, targets_of}
use Rattle.x12_outbound.specs.Ledger.{OutboundLedger, empty_ledger, ledger_submissions, submitted_by, row_in, interchange_in, fates}
use Rattle.x12_outbound.specs.Plan.{evidence_in, findings_in, submissions_of_both, fates_of_both, ArePieces}
use Rattle.x12_outbound.proofs.PlanLemmas.{findings_same}
use Rattle.x12_sent.specs.Closing.{closed_by, evidence_for}

nothing_sent : (v closed : OutboundLedger) → closed ≡ empty_ledger v.me v.hubs → ledger_submissions closed ≡ []
unfolding empty_ledger submitted_by
nothing_sent v closed is = rw is refl

-- the evidence of one answer, where nothing is closed beside the ledger
pub one_answer : (v closed : OutboundLedger) (from : Party) (a : Acknowledgment) (pieces : List PlannedPiece) → closed ≡ empty_ledger v.me v.hubs →
    evidence_in pieces ≡ evidence_of v.hubs (submissions_of_both v closed) from (a ∷ []) → evidence_in pieces ≡ evidence_for v from a
unfolding evidence_of
one_answer v closed from a pieces is found =
    found ∙ append-nil (answer_evidence v.hubs (submissions_of_both v closed) from a)
    ∙ ap (λ more. answer_evidence v.hubs (ledger_submissions v ++ more) from a) (nothing_sent v closed is)
    ∙ ap (λ all. answer_evidence v.hubs all from a) (append-nil (ledger_submissions v))

none_fares : (v closed : OutboundLedger) → closed ≡ empty_ledger v.me v.hubs → (k : TransactionSetKey) → fates closed k ≡ None
unfolding empty_ledger row_in interchange_in
none_fares v closed is k = rw is (by (is_same_party k.sender v.me))
  where
    by : (b : Bool) → option_map (λ (s : SetRow). s.fate) (if b then None else None) ≡ None
    by true = refl
    by false = refl

alone : (fate : Option Fate) (other : Option Fate) → other ≡ None → option_or fate other ≡ fate
alone None other is = is
alone (Some fate) other is = refl

-- what the pieces are found to be, where nothing is closed beside the ledger
pub found_alone : (v closed : OutboundLedger) (pieces : List PlannedPiece) → closed ≡ empty_ledger v.me v.hubs → ArePieces v closed pieces →
    findings_in pieces ≡ findings (fates v) (evidence_in pieces)
found_alone v closed pieces is are = are.found ∙ findings_same (fates_of_both v closed) (fates v) (λ k. alone (fates v k) (fates closed k) (none_fares v closed is k)) (evidence_in pieces)

head_same : {X : Type 0} {x y : X} {xs ys : List X} → (x ∷ xs) ≡ (y ∷ ys) → x ≡ y
head_same same = cc

tail_same : {X : Type 0} {x y : X} {xs ys : List X} → (x ∷ xs) ≡ (y ∷ ys) → xs ≡ ys
tail_same same = cc

onto_same : {X : Type 0} (o : Option X) (xs ys : List X) → xs ≡ ys → cons_option o xs ≡ option_to_list o ++ ys
onto_same None xs ys same = same
onto_same (Some x) xs ys same = ap (λ zs. x ∷ zs) same

-- what a plan settles is what its evidence closes
pub targets_of_closed : (f : Fates) (pieces : List PlannedPiece) → findings_in pieces ≡ findings f (evidence_in pieces) → targets_of pieces ≡ closed_by f (evidence_in pieces)
unfolding targets_of closed_by findings
targets_of_closed f [] found = refl
targets_of_closed f (p ∷ pieces) found =
    rw (head_same found) (onto_same (target_by (finding f (stated p.statement)) (stated p.statement)) (targets_of pieces) (closed_by (fates_after f (stated p.statement)) (evidence_in pieces))
    (targets_of_closed (fates_after f (stated p.statement)) pieces (tail_same found)))

pub targets_closed : (f : Fates) (pieces : List PlannedPiece) (evidence : List Evidence) (targets : List (TransactionSetKey × Fate)) → targets ≡ targets_of pieces →
    findings_in pieces ≡ findings f (evidence_in pieces) → evidence_in pieces ≡ evidence → targets ≡ closed_by f evidence
targets_closed f pieces evidence targets is found are = is ∙ targets_of_closed f pieces found ∙ ap (closed_by f) are
