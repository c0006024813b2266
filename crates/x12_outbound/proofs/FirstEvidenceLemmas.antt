-- The first evidence settles, and it is that for the one submission.
use Rattle.std.specs.Prelude.{◌≡◌, ℕ, Bool, true, false, ◌&&◌, ◌==◌, List, [], ◌∷◌, cond, if◌then◌else◌, filter, Option, Some, None, refl}
use mathlib.Core.Path.{sym, ap, ap₂, subst, ◌∙◌}
use Rattle.x12_envelopes.specs.declared.party.Party.{Party}
use Rattle.x12_judge.specs.Agreement.{is_same_party}
use Rattle.x12_acks.specs.Submission.{TransactionSetKey}
use Rattle.x12_acks.specs.Evidence.{Evidence, tells, unmatched, FinalFate, accepted, noted, rejected, evidence_of}
use Rattle.x12_acks.specs.Key.{is_same_key}
use Rattle.x12_acks.specs.Named.{tells_of, EvidenceOfEach}
use Rattle.std.proofs.Common.{eqb-true}
use Rattle.x12_outbound.specs.declared.fate.Fate.{Fate}
use Rattle.x12_outbound.specs.declared.fate.Fate.TheVariants.{Pending, Accepted, Noted, Rejected}
use Rattle.x12_outbound.specs.Fate.{ended}
use Rattle.x12_outbound.specs.Settling.{Fates, finding_by_fate, finding, with_fate, fates_by, fates_after, settled_fates}
use Rattle.x12_outbound.specs.FirstEvidence.{first_about, fate_by_first, FirstEvidenceSettles, FateOfEach, OpenOnesSettleAlone}
use Rattle.x12_judge.proofs.Shelf.{same_party}
use Rattle.x12_numbers.proofs.Shelf.{and_four}

key_by : Party → ℕ → ℕ → ℕ → TransactionSetKey
key_by p n g s = record { sender = p; icn = n; group = g; set = s }

pub same_key : (j k : TransactionSetKey) → is_same_key j k ≡ true → j ≡ k
unfolding key_by
same_key j k e =
    let c = and_four (is_same_party j.sender k.sender) (j.icn == k.icn) (j.group == k.group) (j.set == k.set) e in
    ap₂ (λ p n. key_by p n j.group j.set) (same_party j.sender k.sender c.0) (eqb-true j.icn k.icn c.1)
    ∙ ap₂ (λ g s. key_by k.sender k.icn g s) (eqb-true j.group k.group c.2) (eqb-true j.set k.set c.3)

nothing_settles : (o : Option Fate) → o ≡ fate_by_first None o
nothing_settles None = refl
nothing_settles (Some Pending) = refl
nothing_settles (Some Accepted) = refl
nothing_settles (Some Noted) = refl
nothing_settles (Some Rejected) = refl

-- one piece more
one_more : (fates : Fates) (key k : TransactionSetKey) (fate : FinalFate) (later : Option FinalFate) → fate_by_first later (fates_after fates (tells key fate) k) ≡ fate_by_first (if is_same_key key k then Some fate else later) (fates k)
unfolding finding with_fate
one_more fates key k fate later = by (is_same_key key k) refl (fates key) refl fate
  where
    final : (fate : FinalFate) → fate_by_first later (Some (ended fate)) ≡ Some (ended fate)
    final accepted = cases later
      where
        cases : (l : Option FinalFate) → fate_by_first l (Some Accepted) ≡ Some Accepted
        cases (Some f) = refl
        cases None = refl
    final noted = cases later
      where
        cases : (l : Option FinalFate) → fate_by_first l (Some Noted) ≡ Some Noted
        cases (Some f) = refl
        cases None = refl
    final rejected = cases later
      where
        cases : (l : Option FinalFate) → fate_by_first l (Some Rejected) ≡ Some Rejected
        cases (Some f) = refl
        cases None = refl

    kept : (o : Option Fate) (f : FinalFate) → (o ≡ Some Pending → ⊥) → fate_by_first later o ≡ fate_by_first (Some f) o
    kept None f apart = cases later
      where
        cases : (l : Option FinalFate) → fate_by_first l None ≡ None
        cases (Some f) = refl
        cases None = refl
    kept (Some Pending) f apart = absurd (apart refl)
    kept (Some Accepted) f apart = cases later
      where
        cases : (l : Option FinalFate) → fate_by_first l (Some Accepted) ≡ Some Accepted
        cases (Some f) = refl
        cases None = refl
    kept (Some Noted) f apart = cases later
      where
        cases : (l : Option FinalFate) → fate_by_first l (Some Noted) ≡ Some Noted
        cases (Some f) = refl
        cases None = refl
    kept (Some Rejected) f apart = cases later
      where
        cases : (l : Option FinalFate) → fate_by_first l (Some Rejected) ≡ Some Rejected
        cases (Some f) = refl
        cases None = refl

    by : (b : Bool) → is_same_key key k ≡ b → (o : Option Fate) → fates key ≡ o → (fate : FinalFate) → fate_by_first later (fates_by (finding_by_fate (fates key) fate) fates (tells key fate) k) ≡ fate_by_first (if is_same_key key k then Some fate else later) (fates k)
    by true is (Some Pending) now fate = rw (now, is, sym (ap fates (same_key key k is)) ∙ now) (final fate)
    by true is None now fate = rw (now, is, sym (ap fates (same_key key k is)) ∙ now) (kept None fate (λ e. absurd cc))
    by true is (Some Accepted) now accepted = rw (now, is, sym (ap fates (same_key key k is)) ∙ now) (kept (Some Accepted) accepted (λ e. absurd cc))
    by true is (Some Accepted) now noted = rw (now, is, sym (ap fates (same_key key k is)) ∙ now) (kept (Some Accepted) noted (λ e. absurd cc))
    by true is (Some Noted) now accepted = rw (now, is, sym (ap fates (same_key key k is)) ∙ now) (kept (Some Noted) accepted (λ e. absurd cc))
    by true is (Some Noted) now noted = rw (now, is, sym (ap fates (same_key key k is)) ∙ now) (kept (Some Noted) noted (λ e. absurd cc))
    by true is (Some Noted) now rejected = rw (now, is, sym (ap fates (same_key key k is)) ∙ now) (kept (Some Noted) rejected (λ e. absurd cc))
    by true is (Some Accepted) now rejected = rw (now, is, sym (ap fates (same_key key k is)) ∙ now) (kept (Some Accepted) rejected (λ e. absurd cc))
    by true is (Some Rejected) now accepted = rw (now, is, sym (ap fates (same_key key k is)) ∙ now) (kept (Some Rejected) accepted (λ e. absurd cc))
    by true is (Some Rejected) now noted = rw (now, is, sym (ap fates (same_key key k is)) ∙ now) (kept (Some Rejected) noted (λ e. absurd cc))
    by true is (Some Rejected) now rejected = rw (now, is, sym (ap fates (same_key key k is)) ∙ now) (kept (Some Rejected) rejected (λ e. absurd cc))
    by false is (Some Pending) now fate = rw (now, is) refl
    by false is None now fate = rw (now, is) refl
    by false is (Some Accepted) now accepted = rw (now, is) refl
    by false is (Some Accepted) now noted = rw (now, is) refl
    by false is (Some Noted) now accepted = rw (now, is) refl
    by false is (Some Noted) now noted = rw (now, is) refl
    by false is (Some Noted) now rejected = rw (now, is) refl
    by false is (Some Accepted) now rejected = rw (now, is) refl
    by false is (Some Rejected) now accepted = rw (now, is) refl
    by false is (Some Rejected) now noted = rw (now, is) refl
    by false is (Some Rejected) now rejected = rw (now, is) refl

pub first_evidence_settles : FirstEvidenceSettles
unfolding settled_fates finding
first_evidence_settles fates [] k = nothing_settles (fates k)
first_evidence_settles fates (tells key fate ∷ es) k =
    first_evidence_settles (fates_after fates (tells key fate)) es k ∙ one_more fates key k fate (first_about k es)
first_evidence_settles fates (unmatched ∷ es) k = first_evidence_settles fates es k

-- pieces of other numbers don't matter
about_cut : (k : TransactionSetKey) (es : List Evidence) → first_about k (filter (tells_of k.icn) es) ≡ first_about k es
about_cut k [] = refl
about_cut k (tells key fate ∷ es) = by (key.icn == k.icn) refl (about_cut k es)
  where
    other : (a b c d : Bool) → b ≡ false → (a && b && c && d) ≡ false
    other true b c d e = rw e refl
    other false b c d e = refl

    by : (b : Bool) → (key.icn == k.icn) ≡ b → first_about k (filter (tells_of k.icn) es) ≡ first_about k es → first_about k (cond (key.icn == k.icn) (tells key fate ∷ filter (tells_of k.icn) es) (filter (tells_of k.icn) es)) ≡ (if is_same_key key k then Some fate else first_about k es)
    by true is more = ap (λ b. first_about k (cond b (tells key fate ∷ filter (tells_of k.icn) es) (filter (tells_of k.icn) es))) is ∙ ap (λ o. if is_same_key key k then Some fate else o) more
    by false is more = rw (is, other (is_same_party key.sender k.sender) false (key.group == k.group) (key.set == k.set) refl) more
about_cut k (unmatched ∷ es) = about_cut k es

pub fate_of_each : EvidenceOfEach → FateOfEach
fate_of_each law fates hubs from all x answers k rise at is =
    first_evidence_settles fates (evidence_of hubs all from answers) k
    ∙ ap (λ o. fate_by_first o (fates k)) (sym (about_cut k (evidence_of hubs all from answers))
    ∙ ap (first_about k) (subst (λ n. filter (tells_of n) (evidence_of hubs all from answers) ≡ filter (tells_of n) (evidence_of hubs (x ∷ []) from answers)) (sym is) (law.cut hubs from all x answers rise at))
    ∙ about_cut k (evidence_of hubs (x ∷ []) from answers))

pub open_ones_settle_alone : EvidenceOfEach → OpenOnesSettleAlone
open_ones_settle_alone law fates hubs from all near x answers k rise at near_rise near_at is =
    fate_of_each law fates hubs from near x answers k near_rise near_at is ∙ sym (fate_of_each law fates hubs from all x answers k rise at is)
