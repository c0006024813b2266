-- What a plan's targets do to the rows of the sets: each pending one has the fate that it is told first.
use Rattle.std.specs.Prelude.{◌≡◌, List, [], ◌∷◌, Bool, true, false, if◌then◌else◌, map, Option, Some, None, Contains, refl}
use Rattle.std.specs.List.{AllByRecursion, cons_option}
use mathlib.Core.Path.{sym, ap, ap₂, subst, ◌∙◌}
use Rattle.x12_envelopes.specs.declared.party.Party.{Party}
use Rattle.x12_acks.specs.Evidence.{Evidence, tells, unmatched, FinalFate, accepted, noted, rejected}
use Rattle.x12_acks.specs.Key.{is_same_key}
use Rattle.x12_acks.specs.Submission.{TransactionSetKey}
use Rattle.x12_outbound.specs.Piece.{Finding, Settles, Repeats, Conflicts, Unmatched, PlannedPiece}
use Rattle.x12_outbound.specs.declared.fate.Fate.{Fate}
use Rattle.x12_outbound.specs.declared.fate.Fate.TheVariants.{Pending, Accepted, Noted, Rejected}
use Rattle.x12_outbound.specs.Fate.{ended}
use Rattle.x12_outbound.specs.FirstEvidence.{first_about, fate_by_first}
use Rattle.x12_outbound.specs.Matching.{stated}
use Rattle.x12_outbound.specs.Plan.{evidence_in, findings_in}
use Rattle.x12_outbound.specs.Settling.{Fates, finding_by_fate, finding, with_fate, fates_by, fates_after, findings, settled_fates, target_by, targets_of}
use Rattle.x12_outbound.proofs.FirstEvidenceLemmas.{first_evidence_settles, same_key}
use Rattle.x12_acks.proofs.ReplyGroupLemmas.{same_party_itself}
use Rattle.x12_station.specs.Stored.{StoredSet, is_row_of}
use Rattle.x12_station.specs.Plan.{row_settled, rows_settled}
use Rattle.x12_station.proofs.CellLemmas.{map_same_at}
use Rattle.x12_numbers.proofs.Shelf.{map_twice}
use Rattle.x12_station.proofs.FateLemmas.{fate_then, as_told, settled_then, flipped}
use Rattle.x12_station.proofs.ListLemmas.{contains_map}

-- The sets that evidence settles, where sets fare so.
pub targets_by : Fates → List Evidence → List (TransactionSetKey × Fate)
targets_by fates [] = []
targets_by fates (e ∷ es) = cons_option (target_by (finding fates e) e) (targets_by (fates_after fates e) es)

pub targets_are : (pieces : List PlannedPiece) (fates : Fates) → findings_in pieces ≡ findings fates (evidence_in pieces) → targets_of pieces ≡ targets_by fates (evidence_in pieces)
unfolding targets_of targets_by findings
targets_are [] fates is = refl
targets_are (p ∷ ps) fates is =
    let first : p.finding ≡ finding fates (stated p.statement) = cc in
    let rest : findings_in ps ≡ findings (fates_after fates (stated p.statement)) (evidence_in ps) = cc in
    ap₂ (λ (f : Finding) (l : List (TransactionSetKey × Fate)). cons_option (target_by f (stated p.statement)) l) first (targets_are ps (fates_after fates (stated p.statement)) rest)

-- How sets fare elsewhere alike.

-- the same of each set that is told of
abbrev pub IsSameAt : Fates → Fates → Evidence → Type 0
IsSameAt f g (tells key fate) = f key ≡ g key
IsSameAt f g unmatched = Unit {0}

same_finding : (f g : Fates) (e : Evidence) → IsSameAt f g e → finding f e ≡ finding g e
unfolding finding
same_finding f g (tells key fate) same = ap (λ o. finding_by_fate o fate) same
same_finding f g unmatched same = refl

same_after : (f g : Fates) (e : Evidence) (d : Evidence) → IsSameAt f g e → IsSameAt f g d → IsSameAt (fates_after f e) (fates_after g e) d
unfolding finding with_fate
same_after f g e unmatched here there = tt
same_after f g unmatched (tells key fate) here there = there
same_after f g (tells at fate) (tells key other) here there =
    ap (λ n. fates_by n f (tells at fate) key) (ap (λ o. finding_by_fate o fate) here) ∙ by (finding_by_fate (g at) fate)
  where
    by : (n : Finding) → fates_by n f (tells at fate) key ≡ fates_by n g (tells at fate) key
    by Settles = ap (λ o. if is_same_key at key then Some (ended fate) else o) there
    by Repeats = there
    by Conflicts = there
    by Unmatched = there

all_after : (f g : Fates) (e : Evidence) (es : List Evidence) → IsSameAt f g e → AllByRecursion (IsSameAt f g) es → AllByRecursion (IsSameAt (fates_after f e) (fates_after g e)) es
all_after f g e [] here same = tt
all_after f g e (d ∷ es) here same = (same_after f g e d here same.0, all_after f g e es here same.1)

pub same_findings : (f g : Fates) (es : List Evidence) → AllByRecursion (IsSameAt f g) es → findings f es ≡ findings g es
unfolding findings
same_findings f g [] same = refl
same_findings f g (e ∷ es) same = ap₂ (λ n ns. n ∷ ns) (same_finding f g e same.0) (same_findings (fates_after f e) (fates_after g e) es (all_after f g e es same.0 same.1))

-- The rows.

module _ (me : Party) where
  -- the key of a row, whose set this party submitted
  abbrev pub key_of_row : StoredSet → TransactionSetKey
  key_of_row t = record { sender = me; icn = t.icn; group = t.group; set = t.set }

  -- a row with the fate that it is told first
  abbrev pub row_told : List Evidence → StoredSet → StoredSet
  row_told es t = record t { fate = fate_then t.fate (as_told (first_about (key_of_row t) es)) }

  -- a set fares so alone where this party submitted it
  abbrev pub IsOurs : Fates → Type 0
  IsOurs fates = (k : TransactionSetKey) → fates k ≡ Some Pending → k.sender ≡ me

  abbrev pub FareSo : Fates → List StoredSet → Type 0
  FareSo fates sets = (t : StoredSet) → Contains sets t → fates (key_of_row t) ≡ Some t.fate

  ours_after : (fates : Fates) (e : Evidence) → IsOurs fates → IsOurs (fates_after fates e)
  unfolding finding with_fate
  ours_after fates unmatched ours k is = ours k is
  ours_after fates (tells key fate) ours k is = by (finding_by_fate (fates key) fate) is
    where
      by : (n : Finding) → fates_by n fates (tells key fate) k ≡ Some Pending → k.sender ≡ me
      by Settles is = test (is_same_key key k) fate is
        where
          test : (b : Bool) (fate : FinalFate) → (if b then Some (ended fate) else fates k) ≡ Some Pending → k.sender ≡ me
          test true accepted is = absurd (let no : ⊥ = cc in no)
          test true noted is = absurd (let no : ⊥ = cc in no)
          test true rejected is = absurd (let no : ⊥ = cc in no)
          test false fate is = ours k is
      by Repeats is = ours k is
      by Conflicts is = ours k is
      by Unmatched is = ours k is

  -- a row is that of the set, by its key
  row_is : (key : TransactionSetKey) (t : StoredSet) → key.sender ≡ me → is_row_of key t ≡ is_same_key key (key_of_row t)
  row_is key t sender = rw (sender, same_party_itself me, flipped key.icn t.icn, flipped key.group t.group, flipped key.set t.set) refl

  -- one set with its fate
  settled_row : (es : List Evidence) (key : TransactionSetKey) (fate : FinalFate) (t : StoredSet) (b : Bool) → is_row_of key t ≡ b → is_same_key key (key_of_row t) ≡ b → (b ≡ true → t.fate ≡ Pending)
      → row_told es (row_settled key (ended fate) t) ≡ row_told (tells key fate ∷ es) t
  settled_row es key fate t true row same pending =
      rw (row, same, pending refl) (ap (λ (f : Fate). record t { fate = f }) (final fate))
    where
      final : (fate : FinalFate) → fate_then (ended fate) (as_told (first_about (key_of_row t) es)) ≡ ended fate
      final accepted = refl
      final noted = refl
      final rejected = refl
  settled_row es key fate t false row same pending = rw (row, same) refl

  -- a set that has a fate keeps it
  kept_row : (es : List Evidence) (key : TransactionSetKey) (fate : FinalFate) (t : StoredSet) (b : Bool) → is_same_key key (key_of_row t) ≡ b → (b ≡ true → (t.fate ≡ Pending) → ⊥)
      → row_told es t ≡ row_told (tells key fate ∷ es) t
  kept_row es key fate t true same final = ap (λ (f : Fate). record t { fate = f }) (by t.fate refl ∙ rw same refl)
    where
      by : (f : Fate) → t.fate ≡ f → fate_then t.fate (as_told (first_about (key_of_row t) es)) ≡ fate_then t.fate (ended fate)
      by Pending is = absurd (final refl is)
      by Accepted is = rw is refl
      by Noted is = rw is refl
      by Rejected is = rw is refl
  kept_row es key fate t false same final = rw same refl

  some_same : (f g : Fate) (o : Option Fate) → o ≡ Some f → o ≡ Some g → f ≡ g
  some_same f g o is was = let both : Some f ≡ Some g = sym is ∙ was in cc

  -- what the test tells of the set's fate
  same_fate : (fates : Fates) (key : TransactionSetKey) (t : StoredSet) (f : Fate) → fates (key_of_row t) ≡ Some t.fate → fates key ≡ Some f → is_same_key key (key_of_row t) ≡ true → t.fate ≡ f
  same_fate fates key t f fare is same = some_same t.fate f (fates key) (ap fates (same_key key (key_of_row t) same) ∙ fare) is

  pub rows_told : (fates : Fates) (es : List Evidence) (sets : List StoredSet) → IsOurs fates → FareSo fates sets → rows_settled (targets_by fates es) sets ≡ map (row_told es) sets
  unfolding rows_settled targets_by finding with_fate
  rows_told fates [] sets ours fare = none sets
    where
      keeps : (f : Fate) → fate_then f Pending ≡ f
      keeps Pending = refl
      keeps Accepted = refl
      keeps Noted = refl
      keeps Rejected = refl

      none : (ts : List StoredSet) → ts ≡ map (row_told []) ts
      none [] = refl
      none (t ∷ ts) = ap₂ (λ (f : Fate) (l : List StoredSet). record t { fate = f } ∷ l) (sym (keeps t.fate)) (none ts)
  rows_told fates (unmatched ∷ es) sets ours fare = rows_told fates es sets ours fare
  rows_told fates (tells key fate ∷ es) sets ours fare = by (fates key) refl fate (rows_told fates es sets ours fare) (λ more_fare. rows_told (with_fate fates key fate) es (map (row_settled key (ended fate)) sets) (later fate) more_fare)
    where
      later : (fate : FinalFate) → IsOurs (with_fate fates key fate)
      later fate k is = test (is_same_key key k) fate is
        where
          test : (b : Bool) (fate : FinalFate) → (if b then Some (ended fate) else fates k) ≡ Some Pending → k.sender ≡ me
          test true accepted is = absurd (let no : ⊥ = cc in no)
          test true noted is = absurd (let no : ⊥ = cc in no)
          test true rejected is = absurd (let no : ⊥ = cc in no)
          test false fate is = ours k is

      now_fare : fates key ≡ Some Pending → (fate : FinalFate) → FareSo (with_fate fates key fate) (map (row_settled key (ended fate)) sets)
      now_fare pending fate t at =
          let from = contains_map (row_settled key (ended fate)) sets t at in
          subst (λ (u : StoredSet). with_fate fates key fate (key_of_row u) ≡ Some u.fate) from.2 (test from.0 (fare from.0 from.1) (is_row_of key from.0) refl)
        where
          test : (u : StoredSet) → fates (key_of_row u) ≡ Some u.fate → (b : Bool) → is_row_of key u ≡ b → with_fate fates key fate (key_of_row (row_settled key (ended fate) u)) ≡ Some (row_settled key (ended fate) u).fate
          test u was true row = rw (row, sym (row_is key u (ours key pending)) ∙ row) refl
          test u was false row = rw (row, sym (row_is key u (ours key pending)) ∙ row) was

      stay : (fate : FinalFate) → (fates key ≡ Some Pending → ⊥) → map (row_told es) sets ≡ map (row_told (tells key fate ∷ es)) sets
      stay fate final = map_same_at (row_told es) (row_told (tells key fate ∷ es)) sets (λ t at. kept_row es key fate t (is_same_key key (key_of_row t)) refl (λ same pending. final (ap fates (same_key key (key_of_row t) same) ∙ fare t at ∙ ap Some pending)))

      by : (o : Option Fate) → fates key ≡ o → (fate : FinalFate) → rows_settled (targets_by fates es) sets ≡ map (row_told es) sets
          → (FareSo (with_fate fates key fate) (map (row_settled key (ended fate)) sets) → rows_settled (targets_by (with_fate fates key fate) es) (map (row_settled key (ended fate)) sets) ≡ map (row_told es) (map (row_settled key (ended fate)) sets))
          → rows_settled (cons_option (target_by (finding_by_fate (fates key) fate) (tells key fate)) (targets_by (fates_by (finding_by_fate (fates key) fate) fates (tells key fate)) es)) sets ≡ map (row_told (tells key fate ∷ es)) sets
      by (Some Pending) is fate same changed =
          rw is (changed (now_fare is fate) ∙ map_twice (row_told es) (row_settled key (ended fate)) sets
          ∙ map_same_at (λ t. row_told es (row_settled key (ended fate) t)) (row_told (tells key fate ∷ es)) sets
          (λ t at. settled_row es key fate t (is_row_of key t) refl (sym (row_is key t (ours key is))) (λ row. same_fate fates key t Pending (fare t at) is (sym (row_is key t (ours key is)) ∙ row))))
      by None is fate same changed = rw is (same ∙ stay fate (λ pending. let no : ⊥ = cc in no))
      by (Some Accepted) is accepted same changed = rw is (same ∙ stay accepted (λ pending. let no : ⊥ = cc in no))
      by (Some Accepted) is noted same changed = rw is (same ∙ stay noted (λ pending. let no : ⊥ = cc in no))
      by (Some Noted) is accepted same changed = rw is (same ∙ stay accepted (λ pending. let no : ⊥ = cc in no))
      by (Some Noted) is noted same changed = rw is (same ∙ stay noted (λ pending. let no : ⊥ = cc in no))
      by (Some Accepted) is rejected same changed = rw is (same ∙ stay rejected (λ pending. let no : ⊥ = cc in no))
      by (Some Noted) is rejected same changed = rw is (same ∙ stay rejected (λ pending. let no : ⊥ = cc in no))
      by (Some Rejected) is accepted same changed = rw is (same ∙ stay accepted (λ pending. let no : ⊥ = cc in no))
      by (Some Rejected) is noted same changed = rw is (same ∙ stay noted (λ pending. let no : ⊥ = cc in no))
      by (Some Rejected) is rejected same changed = rw is (same ∙ stay rejected (λ pending. let no : ⊥ = cc in no))

-- the fate that a set is told first is the one that the evidence settles
pub told_is_settled : (fates : Fates) (es : List Evidence) (k : TransactionSetKey) (old new : Fate) → fates k ≡ Some old → settled_fates fates es k ≡ Some new → fate_then old (as_told (first_about k es)) ≡ new
told_is_settled fates es k old new was is =
    let both : Some (fate_then old (as_told (first_about k es))) ≡ Some new = sym (settled_then (first_about k es) old) ∙ sym (ap (fate_by_first (first_about k es)) was) ∙ sym (first_evidence_settles fates es k) ∙ is in cc
