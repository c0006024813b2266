-- A plan, carried out piece by piece.
use Rattle.std.proofs.Common.{◌≡◌, ◌∙◌, ◌||◌, ap, ap₂, sym, inl, inr, Bool, true, not, List, [], ◌∷◌, map, Option, Some, None, refl}
use Rattle.std.specs.List.{AllByRecursion}
use Rattle.std.proofs.lemmas.Bool.{cases_Bool}
use Rattle.x12_acks.specs.Submission.{TransactionSetKey}
use Rattle.x12_acks.specs.Evidence.{Evidence, tells, unmatched}
use Rattle.x12_outbound.specs.declared.fate.Fate.{Fate}
use Rattle.x12_outbound.specs.Piece.{Finding, Settles, Repeats, Conflicts, Unmatched, SetStatement, PlannedPiece}
use Rattle.x12_outbound.specs.declared.evidence.Counts.{Counts}
use Rattle.x12_acks.specs.Key.{is_same_key}
use Rattle.x12_outbound.specs.Counts.{with_piece, with_pieces}
use Rattle.x12_outbound.specs.Matching.{stated}
use Rattle.x12_outbound.specs.Settling.{Fates, finding_by_fate, finding, with_fate, fates_by, fates_after, findings, settled_fates}
use Rattle.x12_outbound.specs.Ledger.{OutboundLedger, fates, numbers_of}
use Rattle.x12_outbound.specs.Plan.{IsPlan, KeepsSubmissions, names_its_set, names_what_it_settles, is_settling, evidence_in, findings_in}

-- evidence is the same, and has the same effect, where sets fare the same
module _ (f g : Fates) (same : (k : TransactionSetKey) → f k ≡ g k) where
  pub finding_same : (e : Evidence) → finding f e ≡ finding g e
  unfolding finding
  finding_same (tells key fate) = ap (λ (o : Option Fate). finding_by_fate o fate) (same key)
  finding_same unmatched = refl

  by_same : (x : Finding) (e : Evidence) (k : TransactionSetKey) → fates_by x f e k ≡ fates_by x g e k
  unfolding with_fate
  by_same Settles (tells key fate) k = elim (cases_Bool (is_same_key key k)) [
    | inl is ↦ rw is refl
    | inr not ↦ rw not (same k)
  ]
  by_same Settles unmatched k = same k
  by_same Repeats e k = same k
  by_same Conflicts e k = same k
  by_same Unmatched e k = same k

  pub after_same : (e : Evidence) (k : TransactionSetKey) → fates_after f e k ≡ fates_after g e k
  after_same e k = ap (λ (x : Finding). fates_by x f e k) (finding_same e) ∙ by_same (finding g e) e k

pub findings_same : (f g : Fates) → ((k : TransactionSetKey) → f k ≡ g k) → (es : List Evidence) → findings f es ≡ findings g es
unfolding findings
findings_same f g same [] = refl
findings_same f g same (e ∷ es) = ap₂ (λ x xs. x ∷ xs) (finding_same f g same e) (findings_same (fates_after f e) (fates_after g e) (after_same f g same e) es)

pub settled_same : (f g : Fates) → ((k : TransactionSetKey) → f k ≡ g k) → (es : List Evidence) (k : TransactionSetKey) → settled_fates f es k ≡ settled_fates g es k
unfolding settled_fates
settled_same f g same [] k = same k
settled_same f g same (e ∷ es) k = settled_same (fates_after f e) (fates_after g e) (after_same f g same e) es k

-- the first piece of a plan, and what is left once it is used
pub record First (v : OutboundLedger) (p : PlannedPiece) (pieces : List PlannedPiece) : Type 0 where
  pub settles : is_settling p.finding ≡ is_settling (finding (fates v) (stated p.statement))
  pub named : names_what_it_settles v p ≡ true
  pub rest_named : AllByRecursion (λ q. names_what_it_settles v q ≡ true) pieces
  pub rest_settles : map is_settling (findings_in pieces) ≡ map is_settling (findings (fates_after (fates v) (stated p.statement)) (evidence_in pieces))

pub first_of : (v : OutboundLedger) (all pieces : List PlannedPiece) (p : PlannedPiece) → all ≡ p ∷ pieces → IsPlan v all → First v p pieces
unfolding findings
first_of v all pieces p is plan =
    let named = rw is at plan.named in
    let settles = rw is at plan.settles in
    record { settles = head_same settles; named = named.0; rest_named = named.1; rest_settles = tail_same settles }
  where
    head_same : {x y : Bool} {xs ys : List Bool} → x ∷ xs ≡ y ∷ ys → x ≡ y
    head_same same = cc

    tail_same : {x y : Bool} {xs ys : List Bool} → x ∷ xs ≡ y ∷ ys → xs ≡ ys
    tail_same same = cc

pub rest_of : (v w : OutboundLedger) (p : PlannedPiece) (pieces : List PlannedPiece) → First v p pieces
    → ((k : TransactionSetKey) → fates w k ≡ fates_after (fates v) (stated p.statement) k)
    → ((k : TransactionSetKey) → numbers_of w k ≡ numbers_of v k) → w.hubs ≡ v.hubs → IsPlan w pieces
rest_of v w p pieces first after numbers hubs = record {
  named = all_named pieces first.rest_named;
  settles = first.rest_settles ∙ ap (map is_settling) (findings_same _ _ (λ k. sym (after k)) (evidence_in pieces));
}
  where
    one_named : (b : Bool) (o : Option SetStatement) → (b || names_its_set v.hubs (numbers_of v) o) ≡ true → (b || names_its_set w.hubs (numbers_of w) o) ≡ true
    one_named b None named = named
    one_named b (Some s) named = rw (numbers (s.key), hubs) named

    all_named : (ps : List PlannedPiece) → AllByRecursion (λ q. names_what_it_settles v q ≡ true) ps → AllByRecursion (λ q. names_what_it_settles w q ≡ true) ps
    all_named [] named = tt
    all_named (q ∷ qs) named = (one_named (not (is_settling q.finding)) q.statement named.0, all_named qs named.1)

pub ends_same : (v w : OutboundLedger) (all pieces : List PlannedPiece) (p : PlannedPiece) → all ≡ p ∷ pieces
    → ((k : TransactionSetKey) → fates w k ≡ fates_after (fates v) (stated p.statement) k)
    → (k : TransactionSetKey) → settled_fates (fates w) (evidence_in pieces) k ≡ settled_fates (fates v) (evidence_in all) k
unfolding settled_fates
ends_same v w all pieces p is after k = rw is (settled_same _ _ after (evidence_in pieces) k)

pub counted_same : (old new : Counts) (all pieces : List PlannedPiece) (p : PlannedPiece) → all ≡ p ∷ pieces → new ≡ with_piece old p.finding
    → with_pieces new (findings_in pieces) ≡ with_pieces old (findings_in all)
unfolding with_pieces
counted_same old new all pieces p is counts = rw (is, counts) refl

pub keeps_both : (a b c : OutboundLedger) → KeepsSubmissions a b → KeepsSubmissions b c → KeepsSubmissions a c
keeps_both a b c first second = record {
  me = second.me ∙ first.me;
  hubs = second.hubs ∙ first.hubs;
  tick = second.tick ∙ first.tick;
  submitted = second.submitted ∙ first.submitted;
  schedules = second.schedules ∙ first.schedules;
}

pub keeps_itself : (a : OutboundLedger) → KeepsSubmissions a a
keeps_itself a = record { me = refl; hubs = refl; tick = refl; submitted = refl; schedules = refl }

-- where no piece is left
pub no_fates_left : (v : OutboundLedger) (pieces : List PlannedPiece) → pieces ≡ [] → (k : TransactionSetKey)
    → settled_fates (fates v) (evidence_in pieces) k ≡ fates v k
unfolding settled_fates
no_fates_left v pieces none k = rw none refl

pub no_counts_left : (counts : Counts) (pieces : List PlannedPiece) → pieces ≡ [] → with_pieces counts (findings_in pieces) ≡ counts
unfolding with_pieces
no_counts_left counts pieces none = rw none refl
