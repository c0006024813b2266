-- What pieces of evidence are found to be, where some sets were settled since.
use Rattle.std.proofs.Common.{ℕ, ◌≡◌, ◌+◌, ◌<◌, ◌≤◌, ◌∙◌, ◌==◌, ◌&&◌, ap, sym, inl, inr, Bool, true, false, cond, List, [], ◌∷◌, ◌++◌, map, length, get_or, drop, Option, Some, None, option_map, unwrap_or, arith, refl, add-one}
use Rattle.std.specs.Ordering.{nat_cmp, ordering_then}
use Rattle.std.specs.BTreeMap.{BTreeMap, get, is_at}
use Rattle.std.proofs.lemmas.Bool.{cases_Bool}
use Rattle.std.proofs.lemmas.Bool.Decides.{nat_tests}
use Rattle.std.proofs.lemmas.List.{append_assoc, map-append, append-nil, drop_all}
use Rattle.std.proofs.Math.Seq.{drop-cons}
use Rattle.x12_envelopes.specs.declared.party.Party.{Party}
use Rattle.x12_judge.specs.Agreement.{is_same_party}
use Rattle.x12_acks.specs.Submission.{TransactionSetKey}
use Rattle.x12_acks.specs.Evidence.{Evidence, tells, accepted, noted, rejected, FinalFate as Final}
use Rattle.x12_acks.specs.Key.{is_same_key}
use Rattle.x12_outbound.specs.declared.fate.Fate.{Fate}
use Rattle.x12_outbound.specs.declared.fate.Fate.TheVariants.{Pending, Accepted, Noted, Rejected}
use Rattle.x12_outbound.specs.declared.fate.FinalFate.{FinalFate}
use Rattle.x12_outbound.specs.declared.evidence.Statement.{Statement}
use Rattle.x12_outbound.specs.declared.evidence.Piece.{Piece}
use Rattle.x12_outbound.specs.declared.evidence.Finding.{Finding as CodeFinding}
use Rattle.x12_outbound.specs.Piece.{Finding, Settles, Repeats, Conflicts, Unmatched, finding_view}
use Rattle.x12_outbound.specs.Fate.{ended, final_fate}
use Rattle.x12_outbound.specs.Ledger.{LedgerRow, row_in}
use Rattle.x12_outbound.specs.Settling.{Fates, finding_by_fate, finding, with_fate, fates_by, fates_after, findings}
use Rattle.x12_outbound.specs.Statement.{evidence_told}
use Rattle.x12_outbound.specs.Finding.{Places, places_of_key, compare_places, fates_in, fares_since, fates_since, fates_in_both, findings_kept}
use Rattle.x12_outbound.proofs.FirstEvidenceLemmas.{same_key}
use Rattle.x12_judge.proofs.Shelf.{same_party}
use Rattle.x12_acks.proofs.ReplyGroupLemmas.{same_party_itself}
use Rattle.x12_outbound.proofs.PlanLemmas.{findings_same}
use Rattle.x12_numbers.proofs.Shelf.{is_eq-nat, is_eq-then}

same_places : (p q : Places) → is_at (compare_places p) q ≡ (p.0 == q.0 && p.1 == q.1 && p.2 == q.2)
same_places p q =
    rw (is_eq-then (ordering_then (nat_cmp p.0 q.0) (nat_cmp p.1 q.1)) (nat_cmp p.2 q.2), is_eq-then (nat_cmp p.0 q.0) (nat_cmp p.1 q.1), is_eq-nat p.0 q.0, is_eq-nat p.1 q.1, is_eq-nat p.2 q.2) refl

-- keys of one sender are the same where their places are
key_parts : (j k : TransactionSetKey) → is_same_key j k ≡ (is_same_party j.sender k.sender && is_at (compare_places (places_of_key j)) (places_of_key k))
key_parts j k = rw (same_places (places_of_key j) (places_of_key k)) (regroup (is_same_party j.sender k.sender) (j.icn == k.icn) (j.group == k.group) (j.set == k.set))
  where
    regroup : (a b c d : Bool) → (a && b && c && d) ≡ (a && (b && c && d))
    regroup true b c d = refl
    regroup false b c d = refl

-- nothing is known of another sender's sets
others_none : (me : Party) (rows : List LedgerRow) (key : TransactionSetKey) → is_same_party key.sender me ≡ false → fates_in me rows key ≡ None
unfolding row_in
others_none me rows key other = rw other refl

pub others_none_in_both : (me : Party) (rows closed : List LedgerRow) (key : TransactionSetKey) → is_same_party key.sender me ≡ false → fates_in_both me rows closed key ≡ None
others_none_in_both me rows closed key other = rw (others_none me rows key other) (others_none me closed key other)

-- evidence settles a pending set alone
pending_by : (o : Option Fate) (final : Final) → finding_by_fate o final ≡ Settles → o ≡ Some Pending
pending_by None final settles = absurd (let no : ⊥ = cc in no)
pending_by (Some Pending) final settles = refl
pending_by (Some Accepted) accepted settles = absurd (let no : ⊥ = cc in no)
pending_by (Some Accepted) noted settles = absurd (let no : ⊥ = cc in no)
pending_by (Some Noted) accepted settles = absurd (let no : ⊥ = cc in no)
pending_by (Some Noted) noted settles = absurd (let no : ⊥ = cc in no)
pending_by (Some Noted) rejected settles = absurd (let no : ⊥ = cc in no)
pending_by (Some Accepted) rejected settles = absurd (let no : ⊥ = cc in no)
pending_by (Some Rejected) accepted settles = absurd (let no : ⊥ = cc in no)
pending_by (Some Rejected) noted settles = absurd (let no : ⊥ = cc in no)
pending_by (Some Rejected) rejected settles = absurd (let no : ⊥ = cc in no)

-- what is found at a set that is settled
module _ (me : Party) (fs : Fates) (others : (k : TransactionSetKey) → is_same_party k.sender me ≡ false → fs k ≡ None) (old new : BTreeMap Places FinalFate) (key : TransactionSetKey) (f : FinalFate)
    (updates : (q : Places) → get compare_places new q ≡ cond (is_at (compare_places (places_of_key key)) q) (Some f) (get compare_places old q)) where
  here : is_at (compare_places (places_of_key key)) (places_of_key key) ≡ true
  here = same_places (places_of_key key) (places_of_key key) ∙ grind (arith, nat_tests)

  known : (o : Option Fate) (k : TransactionSetKey) (fate : Fate) → o ≡ Some fate → get compare_places new (places_of_key k) ≡ Some f → option_map (fares_since new k) o ≡ Some (ended (final_fate f))
  known o k fate is settled = rw (is, settled) refl

  since_key : (fate : Fate) → fs key ≡ Some fate → fates_since new fs key ≡ Some (ended (final_fate f))
  since_key fate is = known (fs key) key fate is (updates (places_of_key key) ∙ rw here refl)

  kept : (k : TransactionSetKey) → is_at (compare_places (places_of_key key)) (places_of_key k) ≡ false → fates_since new fs k ≡ fates_since old fs k
  kept k apart =
      let same : get compare_places new (places_of_key k) ≡ get compare_places old (places_of_key k) = updates (places_of_key k) ∙ rw apart refl in
      ap (λ (o : Option FinalFate). option_map (λ (fate : Fate). unwrap_or (option_map (λ f. ended (final_fate f)) o) fate) (fs k)) same

  other_sender : (k : TransactionSetKey) → is_same_party key.sender me ≡ true → is_same_key key k ≡ false → is_at (compare_places (places_of_key key)) (places_of_key k) ≡ true → is_same_party k.sender me ≡ false
  other_sender k mine differ at = elim (cases_Bool (is_same_party k.sender me)) [
    | inl its ↦
        let same : key.sender ≡ k.sender = same_party key.sender me mine ∙ sym (same_party k.sender me its) in
        let one : is_same_party key.sender k.sender ≡ true = rw (← same) (same_party_itself key.sender) in
        absurd (not_both (sym (key_parts key k ∙ rw (one, at) refl) ∙ differ))
    | inr not ↦ not
  ]
    where
      not_both : true ≡ false → ⊥
      not_both same = cc

  since_other : (k : TransactionSetKey) → is_same_party key.sender me ≡ true → is_same_key key k ≡ false → fates_since new fs k ≡ fates_since old fs k
  since_other k mine differ = elim (cases_Bool (is_at (compare_places (places_of_key key)) (places_of_key k))) [
    | inl at ↦ both_none (fs k) (others k (other_sender k mine differ at))
    | inr apart ↦ kept k apart
  ]
    where
      both_none : (o : Option Fate) → o ≡ None → option_map (fares_since new k) o ≡ option_map (fares_since old k) o
      both_none o none = rw none refl

  mine_some : (fate : Fate) → fs key ≡ Some fate → is_same_party key.sender me ≡ true
  mine_some fate found = elim (cases_Bool (is_same_party key.sender me)) [
    | inl mine ↦ mine
    | inr other ↦ absurd (none_some (sym (others key other) ∙ found))
  ]
    where
      none_some : None ≡ Some fate → ⊥
      none_some same = cc

  some_of : (o : Option Fate) → option_map (fares_since old key) o ≡ Some Pending → (fate : Fate) × (o ≡ Some fate)
  some_of None pending = absurd (let no : ⊥ = cc in no)
  some_of (Some fate) pending = (fate, refl)

  settles_pending : (o : Option Fate) → finding_by_fate o (final_fate f) ≡ Settles → o ≡ Some Pending
  settles_pending o settles = pending_by o (final_fate f) settles

  pub settled_since : finding_by_fate (fates_since old fs key) (final_fate f) ≡ Settles → (k : TransactionSetKey)
      → fates_since new fs k ≡ fates_after (fates_since old fs) (tells key (final_fate f)) k
  unfolding finding with_fate
  settled_since settles k =
      let some = some_of (fs key) (settles_pending (fates_since old fs key) settles) in
      let mine = mine_some some.0 some.1 in
      rw settles (elim (cases_Bool (is_same_key key k)) [
        | inl same ↦ rw same (ap (fates_since new fs) (sym (same_key key k same)) ∙ since_key some.0 some.1)
        | inr differ ↦ rw differ (since_other k mine differ)
      ])

-- a piece that settles nothing changes nothing
pub same_since : (fates : Fates) (e : Evidence) (k : TransactionSetKey) → (finding fates e ≡ Settles → ⊥) → fates k ≡ fates_after fates e k
same_since fates e k idle = go (finding fates e) idle
  where
    go : (x : Finding) → (x ≡ Settles → ⊥) → fates k ≡ fates_by x fates e k
    go Settles idle = absurd (idle refl)
    go Repeats idle = refl
    go Conflicts idle = refl
    go Unmatched idle = refl

-- one statement more, as a piece
pub pieces_more : (fates since after : Fates) (statements : List (Option Statement)) (pieces : List Piece) (i : ℕ) (s : Option Statement) (x : CodeFinding)
    → i < length statements → s ≡ get_or statements i s
    → findings fates (map evidence_told statements) ≡ findings_kept pieces ++ findings since (map evidence_told (drop i statements))
    → finding_view x ≡ finding since (evidence_told s) → ((k : TransactionSetKey) → after k ≡ fates_after since (evidence_told s) k)
    → findings fates (map evidence_told statements) ≡ findings_kept (pieces ++ record { statement = s; finding = x } ∷ []) ++ findings after (map evidence_told (drop (i + 1) statements))
unfolding findings
pieces_more fates since after statements pieces i s x within is so_far found ends =
    let first : drop i statements ≡ s ∷ drop (i + 1) statements = drop_next statements i s within ∙ ap (λ y. y ∷ drop (i + 1) statements) (sym is) in
    so_far ∙ ap (λ rest. findings_kept pieces ++ findings since (map evidence_told rest)) first
    ∙ ap (λ y. findings_kept pieces ++ (y ∷ findings (fates_after since (evidence_told s)) (map evidence_told (drop (i + 1) statements)))) (sym found)
    ∙ ap (λ ys. findings_kept pieces ++ (finding_view x ∷ ys)) (findings_same _ _ (λ k. sym (ends k)) (map evidence_told (drop (i + 1) statements)))
    ∙ sym (ap (λ ys. ys ++ findings after (map evidence_told (drop (i + 1) statements))) (map-append (λ (p : Piece). finding_view p.finding) pieces (record { statement = s; finding = x } ∷ []))
    ∙ append_assoc (findings_kept pieces) (finding_view x ∷ []) _)
  where
    drop_next : {X : Type 0} (xs : List X) (i : ℕ) (d : X) → i < length xs → drop i xs ≡ get_or xs i d ∷ drop (i + 1) xs
    drop_next xs i d within = rw (add-one, drop-cons xs i d) refl

-- before the first statement, and behind the last
pub none_settled : (fates : Fates) (settled : BTreeMap Places FinalFate) (pieces : List Piece) (statements : List (Option Statement)) → settled.entries ≡ [] → pieces ≡ []
    → findings fates (map evidence_told statements) ≡ findings_kept pieces ++ findings (fates_since settled fates) (map evidence_told (drop 0 statements))
none_settled fates settled pieces statements nothing none =
    rw none (findings_same fates (fates_since settled fates) (λ k. same k (fates k)) (map evidence_told statements))
  where
    same : (k : TransactionSetKey) (o : Option Fate) → o ≡ option_map (fares_since settled k) o
    same k None = refl
    same k (Some fate) = rw nothing refl

pub none_left : (fates since : Fates) (statements : List (Option Statement)) (pieces : List Piece) (i : ℕ) → length statements ≤ i
    → findings fates (map evidence_told statements) ≡ findings_kept pieces ++ findings since (map evidence_told (drop i statements))
    → findings_kept pieces ≡ findings fates (map evidence_told statements)
unfolding findings
none_left fates since statements pieces i all so_far =
    sym (so_far ∙ ap (λ rest. findings_kept pieces ++ findings since (map evidence_told rest)) (drop_all i statements all) ∙ append-nil (findings_kept pieces))
