-- The pieces of a plan, by the statements that answers make of a ledger and of closed interchanges.
use Rattle.std.proofs.Common.{ℕ, ◌≡◌, ◌≢◌, ◌∙◌, ◌==◌, ◌||◌, ap, ap₂, sym, inl, inr, ◌⊎◌, Bool, true, false, not, List, [], ◌∷◌, ◌++◌, map, find, Contains, Option, Some, None, is_some, option_map, option_and_then, if◌then◌else◌, subst, arith, refl}
use Rattle.std.specs.List.{AllByRecursion}
use Rattle.std.specs.Option.{option_or}
use Rattle.std.proofs.lemmas.Bool.{cases_Bool}
use Rattle.std.proofs.lemmas.Bool.Decides.{nat_tests}
use Rattle.x12_envelopes.specs.declared.party.Party.{Party}
use Rattle.x12_judge.specs.Agreement.{is_same_party}
use Rattle.x12_acks.specs.Answer.{Acknowledgment}
use Rattle.x12_acks.specs.Submission.{Submission, TransactionSetKey}
use Rattle.x12_acks.specs.Key.{is_same_key}
use Rattle.x12_acks.specs.Evidence.{Evidence, tells, unmatched, evidence_of, FinalFate, accepted, noted, rejected}
use Rattle.x12_numbers.proofs.Shelf.{found_passes, none_in_nil, contains_cons, contains_head, contains_tail, map_twice}
use Rattle.x12_outbound.specs.Hubs.{hubs_of}
use Rattle.x12_outbound.specs.declared.fate.Fate.{Fate}
use Rattle.x12_outbound.specs.declared.fate.Fate.TheVariants.{Pending, Accepted, Noted, Rejected}
use Rattle.x12_outbound.specs.declared.evidence.Statement.{Statement}
use Rattle.x12_outbound.specs.declared.evidence.Piece.{Piece}
use Rattle.x12_outbound.specs.Piece.{Finding, Settles, SetStatement, PlannedPiece, set_statement_view, piece_view}
use Rattle.x12_outbound.specs.declared.matches.Parties.{Parties}
use Rattle.x12_outbound.specs.Entry.{SetRow, GroupRow, InterchangeRow, submission_of_entry, at_place, set_row_at}
use Rattle.x12_outbound.specs.Matching.{SetNumbers, stated}
use Rattle.x12_outbound.specs.Settling.{Fates, finding_by_fate, finding, with_fate, fates_by, fates_after, findings}
use Rattle.x12_outbound.specs.Ledger.{OutboundLedger, LedgerRow, empty_ledger, submitted_by, interchange_in, fates, row_in, numbers_of, numbers_in, numbers_in_group, numbers_of_set, numbers_in_rows}
use Rattle.x12_outbound.specs.Plan.{IsPlan, IsClosedBeside, ArePieces, submissions_of_both, fates_of_both, numbers_of_both, names_its_set, is_settling, is_pending_at, evidence_in, findings_in}
use Rattle.x12_outbound.specs.Subject.{subject_in, subjects_of, subjects_in}
use Rattle.x12_outbound.specs.Statement.{evidence_told, subject_told}
use Rattle.x12_outbound.specs.Finding.{fates_in, fates_in_both, findings_kept}
use Rattle.x12_outbound.specs.Matches.{AreNamedInBoth, AreApart, numbers_in_both}
use Rattle.x12_outbound.proofs.SettleLemmas.{stays, settling_is}
use Rattle.x12_outbound.proofs.PlanLemmas.{findings_same}
use Rattle.x12_outbound.specs.Fate.{ended}

-- the evidence of pieces is that of their statements, and their findings are what they were found to be
pub evidence_is : (pieces : List Piece) (statements : List (Option Statement)) → map (λ p. p.statement) pieces ≡ statements → evidence_in (map piece_view pieces) ≡ map evidence_told statements
evidence_is pieces statements said =
    map_twice (λ (p : PlannedPiece). stated p.statement) piece_view pieces ∙ sym (map_twice evidence_told (λ (p : Piece). p.statement) pieces) ∙ ap (map evidence_told) said

pub findings_are : (pieces : List Piece) → findings_in (map piece_view pieces) ≡ findings_kept pieces
findings_are pieces = map_twice (λ (p : PlannedPiece). p.finding) piece_view pieces

-- Where sets fare the same, or are final in one and unknown in the other, the same evidence settles.

abbrev Agree : Fates → Fates → Type 0
Agree f g = (k : TransactionSetKey) → (f k ≡ g k) ⊎ ((g k ≡ None) × (is_pending_at (f k) ≡ false))

final_settles : (o : Option Fate) (fate : FinalFate) → is_pending_at o ≡ false → false ≡ is_settling (finding_by_fate o fate)
final_settles None fate final = refl
final_settles (Some Pending) fate final = absurd (let no : ⊥ = cc in no)
final_settles (Some Accepted) accepted final = refl
final_settles (Some Accepted) noted final = refl
final_settles (Some Noted) accepted final = refl
final_settles (Some Noted) noted final = refl
final_settles (Some Noted) rejected final = refl
final_settles (Some Accepted) rejected final = refl
final_settles (Some Rejected) accepted final = refl
final_settles (Some Rejected) noted final = refl
final_settles (Some Rejected) rejected final = refl

agree_finding : (f g : Fates) → Agree f g → (e : Evidence) → is_settling (finding f e) ≡ is_settling (finding g e)
unfolding finding
agree_finding f g agree unmatched = refl
agree_finding f g agree (tells key fate) = elim (agree key) [
  | inl same ↦ ap (λ (o : Option Fate). is_settling (finding_by_fate o fate)) same
  | inr other ↦ sym (final_settles (f key) fate other.1) ∙ ap (λ (o : Option Fate). is_settling (finding_by_fate o fate)) (sym other.0)
]

-- a settled set fares the same in both; no other set changes
agree_settled : (f g : Fates) → Agree f g → (e : Evidence) (k : TransactionSetKey)
    → (fates_by Settles f e k ≡ fates_by Settles g e k) ⊎ ((fates_by Settles g e k ≡ None) × (is_pending_at (fates_by Settles f e k) ≡ false))
unfolding with_fate
agree_settled f g agree unmatched k = agree k
agree_settled f g agree (tells key fate) k = by (is_same_key key k)
  where
    by : (b : Bool) → ((if b then Some (ended fate) else f k) ≡ (if b then Some (ended fate) else g k)) ⊎ (((if b then Some (ended fate) else g k) ≡ None) × (is_pending_at (if b then Some (ended fate) else f k) ≡ false))
    by true = inl refl
    by false = agree k

agree_after : (f g : Fates) → Agree f g → (e : Evidence) → Agree (fates_after f e) (fates_after g e)
agree_after f g agree e k = elim (cases_Bool (is_settling (finding f e))) [
  | inl settles ↦
      let one : finding f e ≡ Settles = settling_is (finding f e) (sym settles) in
      let other : finding g e ≡ Settles = settling_is (finding g e) (sym (sym (agree_finding f g agree e) ∙ settles)) in
      rw (one, other) (agree_settled f g agree e k)
  | inr idle ↦
      let one : f k ≡ fates_after f e k = stays (finding f e) f e k (sym idle) in
      let other : g k ≡ fates_after g e k = stays (finding g e) g e k (sym (sym (agree_finding f g agree e) ∙ idle)) in
      rw (← one, ← other) (agree k)
]

settles_agree : (f g : Fates) → Agree f g → (es : List Evidence) → map is_settling (findings f es) ≡ map is_settling (findings g es)
unfolding findings
settles_agree f g agree [] = refl
settles_agree f g agree (e ∷ es) = ap₂ (λ x xs. x ∷ xs) (agree_finding f g agree e) (settles_agree (fates_after f e) (fates_after g e) (agree_after f g agree e) es)

-- A set that is pending was pending before, and evidence settles a pending set alone.

settled_back : (f : Fates) (e : Evidence) (k : TransactionSetKey) → fates_by Settles f e k ≡ Some Pending → f k ≡ Some Pending
unfolding with_fate
settled_back f unmatched k pending = pending
settled_back f (tells key fate) k pending = by (is_same_key key k) fate pending
  where
    by : (b : Bool) (fate : FinalFate) → (if b then Some (ended fate) else f k) ≡ Some Pending → f k ≡ Some Pending
    by true accepted pending = absurd (let no : ⊥ = cc in no)
    by true noted pending = absurd (let no : ⊥ = cc in no)
    by true rejected pending = absurd (let no : ⊥ = cc in no)
    by false fate pending = pending

pending_back : (f : Fates) (e : Evidence) (k : TransactionSetKey) → fates_after f e k ≡ Some Pending → f k ≡ Some Pending
pending_back f e k pending = elim (cases_Bool (is_settling (finding f e))) [
  | inl settles ↦ settled_back f e k (rw (settling_is (finding f e) (sym settles)) at pending)
  | inr idle ↦ stays (finding f e) f e k (sym idle) ∙ pending
]

pending_from : (o : Option Fate) (fate : FinalFate) → true ≡ is_settling (finding_by_fate o fate) → o ≡ Some Pending
pending_from None fate settles = absurd (let no : ⊥ = cc in no)
pending_from (Some Pending) fate settles = refl
pending_from (Some Accepted) accepted settles = absurd (let no : ⊥ = cc in no)
pending_from (Some Accepted) noted settles = absurd (let no : ⊥ = cc in no)
pending_from (Some Noted) accepted settles = absurd (let no : ⊥ = cc in no)
pending_from (Some Noted) noted settles = absurd (let no : ⊥ = cc in no)
pending_from (Some Noted) rejected settles = absurd (let no : ⊥ = cc in no)
pending_from (Some Accepted) rejected settles = absurd (let no : ⊥ = cc in no)
pending_from (Some Rejected) accepted settles = absurd (let no : ⊥ = cc in no)
pending_from (Some Rejected) noted settles = absurd (let no : ⊥ = cc in no)
pending_from (Some Rejected) rejected settles = absurd (let no : ⊥ = cc in no)

-- A piece that settles a set names its numbers, where all pieces do.
module _ (hubs : List Party) (all here : TransactionSetKey → Option SetNumbers) where
  one_settling : (f : Fates) (o : Option SetStatement) (x : Finding) → x ≡ finding f (stated o) → names_its_set hubs all o ≡ true
      → ((k : TransactionSetKey) → f k ≡ Some Pending → all k ≡ here k) → (not (is_settling x) || names_its_set hubs here o) ≡ true
  unfolding finding
  one_settling f None x found named same = any (is_settling x)
    where
      any : (b : Bool) → (not b || true) ≡ true
      any true = refl
      any false = refl
  one_settling f (Some s) x found named same = elim (cases_Bool (is_settling x)) [
    | inl settles ↦
        let pending : f s.key ≡ Some Pending = pending_from (f s.key) s.fate (sym settles ∙ ap is_settling found) in
        rw (settles, ← same s.key pending) named
    | inr idle ↦ rw idle refl
  ]

  pub all_settling : (ps : List PlannedPiece) (f : Fates) → findings_in ps ≡ findings f (evidence_in ps) → AllByRecursion (λ p. names_its_set hubs all p.statement ≡ true) ps
      → ((k : TransactionSetKey) → f k ≡ Some Pending → all k ≡ here k) → AllByRecursion (λ p. (not (is_settling p.finding) || names_its_set hubs here p.statement) ≡ true) ps
  unfolding findings
  all_settling [] f found named same = tt
  all_settling (p ∷ ps) f found named same =
      (one_settling f p.statement p.finding (head_same found) named.0 same, all_settling ps (fates_after f (stated p.statement)) (tail_same found) named.1 (λ k pending. same k (pending_back f (stated p.statement) k pending)))
    where
      head_same : {x y : Finding} {xs ys : List Finding} → x ∷ xs ≡ y ∷ ys → x ≡ y
      head_same same = cc

      tail_same : {x y : Finding} {xs ys : List Finding} → x ∷ xs ≡ y ∷ ys → xs ≡ ys
      tail_same same = cc

-- a set that fares somehow has numbers
has_numbers : (me : Party) (rows : List LedgerRow) (key : TransactionSetKey) (fate : Fate) → option_map (λ (s : SetRow). s.fate) (row_in me rows key) ≡ Some fate → is_some (numbers_in_rows me rows key) ≡ true
unfolding row_in set_row_at numbers_in_rows numbers_in
has_numbers me rows key fate is = by (is_same_party key.sender me) (interchange_in rows key.icn) is
  where
    in_group : (e : InterchangeRow) (g : GroupRow) (o : Option SetRow) → option_map (λ (s : SetRow). s.fate) o ≡ Some fate → is_some (option_map (numbers_of_set key e g) o) ≡ true
    in_group e g (Some s) is = refl
    in_group e g None is = absurd (let no : ⊥ = cc in no)

    in_interchange : (e : InterchangeRow) (o : Option GroupRow) → option_map (λ (s : SetRow). s.fate) (option_and_then (λ (g : GroupRow). at_place key.set g.sets) o) ≡ Some fate → is_some (option_and_then (numbers_in_group key e) o) ≡ true
    in_interchange e (Some g) is = in_group e g (at_place key.set g.sets) is
    in_interchange e None is = absurd (let no : ⊥ = cc in no)

    by : (b : Bool) (o : Option InterchangeRow) → option_map (λ (s : SetRow). s.fate) (if b then option_and_then (set_row_at key.group key.set) o else None) ≡ Some fate
        → is_some (if b then option_and_then (numbers_in key) o else None) ≡ true
    by true (Some e) is = in_interchange e (at_place key.group e.groups) is
    by true None is = absurd (let no : ⊥ = cc in no)
    by false o is = absurd (let no : ⊥ = cc in no)

-- Of a ledger and closed interchanges beside it.
module _ (v u : OutboundLedger) (beside : IsClosedBeside v u) where
  final : (k : TransactionSetKey) → is_pending_at (fates u k) ≡ false
  final k = by (fates u k) (beside.ended k)
    where
      by : (o : Option Fate) → o ≢ Some Pending → is_pending_at o ≡ false
      by None other = refl
      by (Some Pending) other = absurd (other refl)
      by (Some Accepted) other = refl
      by (Some Noted) other = refl
      by (Some Rejected) other = refl

  agree : Agree (fates_of_both v u) (fates v)
  agree k = by (fates v k) refl
    where
      by : (o : Option Fate) → fates v k ≡ o → (fates_of_both v u k ≡ fates v k) ⊎ ((fates v k ≡ None) × (is_pending_at (fates_of_both v u k) ≡ false))
      by (Some fate) is = inl (rw is refl)
      by None is = inr (is, rw is (final k))

  same_numbers : (k : TransactionSetKey) → fates_of_both v u k ≡ Some Pending → numbers_of_both v u k ≡ numbers_of v k
  same_numbers k pending = by (fates v k) refl
    where
      some_or : (o p : Option SetNumbers) → is_some o ≡ true → option_or o p ≡ o
      some_or (Some n) p some = refl
      some_or None p some = absurd (let no : ⊥ = cc in no)

      by : (o : Option Fate) → fates v k ≡ o → numbers_of_both v u k ≡ numbers_of v k
      by (Some fate) is = some_or (numbers_of v k) (numbers_of u k) (has_numbers v.me v.rows k fate is)
      by None is = absurd (clash (rw is at pending))
        where
          clash : fates u k ≡ Some Pending → ⊥
          clash pending = beside.ended k pending

  pub pieces_are_plan : (pieces : List PlannedPiece) → ArePieces v u pieces → IsPlan v pieces
  pieces_are_plan pieces are = record {
    named = all_settling v.hubs (numbers_of_both v u) (numbers_of v) pieces (fates_of_both v u) are.found are.named same_numbers;
    settles = ap (map is_settling) are.found ∙ settles_agree (fates_of_both v u) (fates v) agree (evidence_in pieces);
  }

-- no interchange of a ledger has the number of a closed one
contains_map : {X Y : Type 0} (f : X → Y) (xs : List X) (x : X) → Contains xs x → Contains (map f xs) (f x)
contains_map f [] x h = none_in_nil x h
contains_map f (y ∷ ys) x h = elim (contains_cons x y ys h) [
  | inl same ↦ subst (λ z. Contains (map f (y ∷ ys)) (f z)) same (contains_head (f y) (map f ys))
  | inr later ↦ contains_tail (f x) (f y) (map f ys) (contains_map f ys x later)
]

pub rows_apart : (me : Party) (rows closed : List LedgerRow) → ((e d : Submission) → Contains (submitted_by me rows) e → Contains (submitted_by me closed) d → e.icn ≢ d.icn) → AreApart rows closed
unfolding submitted_by interchange_in
rows_apart me rows closed apart icn has = by (find test rows) refl (find test closed) refl
  where
    test : LedgerRow → Bool
    test r = r.interchange.icn == icn

    tell : LedgerRow → Submission
    tell r = submission_of_entry me r.interchange

    equal : (n : ℕ) → (n == icn) ≡ true → n ≡ icn
    equal n is = grind (arith, nat_tests)

    by : (o : Option LedgerRow) → find test rows ≡ o → (q : Option LedgerRow) → find test closed ≡ q → option_map (λ (r : LedgerRow). r.interchange) (find test rows) ≡ None
    by None is q there = rw is refl
    by (Some r) is (Some d) there =
        let one = found_passes test rows r is in
        let two = found_passes test closed d there in
        absurd (apart (tell r) (tell d) (contains_map tell rows r one.0) (contains_map tell closed d two.0) (equal r.interchange.icn one.1 ∙ sym (equal d.interchange.icn two.1)))
    by (Some r) is None there = absurd (let no : false ≡ true = rw there at has in let wrong : ⊥ = cc in wrong)

-- The same of the ledger's own rows.
module _ (v u : OutboundLedger) (p : Parties) (me : p.me ≡ v.me) (hubs : (hubs_of p.hubs) ≡ v.hubs) (rows closed : List LedgerRow) (rows_are : rows ≡ v.rows) (closed_are : closed ≡ u.rows)
    (beside : IsClosedBeside v u) (statements : List (Option Statement)) (pieces : List Piece) (said : map (λ p. p.statement) pieces ≡ statements) where
  other : p.me ≡ u.me
  other = me ∙ sym beside.me

  pub planned_evidence : (answers : List Acknowledgment) → map evidence_told statements ≡ evidence_of (hubs_of p.hubs) (submitted_by p.me rows ++ submitted_by p.me closed) p.from answers
      → evidence_in (map piece_view pieces) ≡ evidence_of v.hubs (submissions_of_both v u) p.from answers
  planned_evidence answers told =
      evidence_is pieces statements said ∙ told
      ∙ ap (λ hubs. evidence_of hubs (submitted_by p.me rows ++ submitted_by p.me closed) p.from answers) hubs
      ∙ ap₂ (λ near far. evidence_of v.hubs (near ++ far) p.from answers) (ap₂ submitted_by me rows_are) (ap₂ submitted_by other closed_are)

  pub planned_names : (answers : List Acknowledgment) → map subject_told statements ≡ subjects_of (hubs_of p.hubs) (submitted_by p.me rows ++ submitted_by p.me closed) p.from answers
      → subjects_in (map piece_view pieces) ≡ subjects_of v.hubs (submissions_of_both v u) p.from answers
  planned_names answers names =
      map_twice (λ (q : PlannedPiece). subject_in q.statement) piece_view pieces ∙ sym (map_twice subject_told (λ (q : Piece). q.statement) pieces) ∙ ap (map subject_told) said ∙ names
      ∙ ap (λ hubs. subjects_of hubs (submitted_by p.me rows ++ submitted_by p.me closed) p.from answers) hubs
      ∙ ap₂ (λ near far. subjects_of v.hubs (near ++ far) p.from answers) (ap₂ submitted_by me rows_are) (ap₂ submitted_by other closed_are)

  pub planned : AreNamedInBoth p rows closed statements → findings_kept pieces ≡ findings (fates_in_both p.me rows closed) (map evidence_told statements) → ArePieces v u (map piece_view pieces)
  planned named found = record {
    named = all_named pieces (rw said named);
    found = findings_are pieces ∙ found ∙ ap (findings (fates_in_both p.me rows closed)) (sym (evidence_is pieces statements said)) ∙ findings_same (fates_in_both p.me rows closed) (fates_of_both v u) same_fates (evidence_in (map piece_view pieces));
  }
    where
      same_fates : (k : TransactionSetKey) → fates_in_both p.me rows closed k ≡ fates_of_both v u k
      same_fates k = ap₂ option_or (ap₂ (λ me rows. fates_in me rows k) me rows_are) (ap₂ (λ me rows. fates_in me rows k) other closed_are)

      same_numbers_of : (k : TransactionSetKey) → numbers_in_both p.me rows closed k ≡ numbers_of_both v u k
      same_numbers_of k = ap₂ option_or (ap₂ (λ me rows. numbers_in_rows me rows k) me rows_are) (ap₂ (λ me rows. numbers_in_rows me rows k) other closed_are)

      one_named : (o : Option SetStatement) → names_its_set (hubs_of p.hubs) (numbers_in_both p.me rows closed) o ≡ true → names_its_set v.hubs (numbers_of_both v u) o ≡ true
      one_named None named = refl
      one_named (Some s) named = rw (← hubs, ← same_numbers_of s.key) named

      all_named : (ps : List Piece) → AreNamedInBoth p rows closed (map (λ p. p.statement) ps) → AllByRecursion (λ (q : PlannedPiece). names_its_set v.hubs (numbers_of_both v u) q.statement ≡ true) (map piece_view ps)
      all_named [] named = tt
      all_named (q ∷ ps) named = (one_named (option_map set_statement_view q.statement) named.0, all_named ps named.1)

-- an empty ledger of the same sender is closed beside any
pub none_beside : (v u : OutboundLedger) (me : Party) (hubs : List Party) → u ≡ empty_ledger me hubs → me ≡ v.me → IsClosedBeside v u
unfolding empty_ledger row_in interchange_in submitted_by
none_beside v u me hubs is same = rw is (record {
  me = same;
  ended = λ key. by key (is_same_party key.sender me);
  apart = λ e d near far. none_in_nil d far;
})
  where
    by : (key : TransactionSetKey) (b : Bool) → option_map (λ (s : SetRow). s.fate) (if b then option_and_then (set_row_at key.group key.set) None else None) ≢ Some Pending
    by key true same = absurd (let no : ⊥ = cc in no)
    by key false same = absurd (let no : ⊥ = cc in no)
