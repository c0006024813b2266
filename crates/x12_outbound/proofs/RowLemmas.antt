-- The rows of the ledger, found and changed by their numbers.
use Rattle.std.proofs.Common.{ℕ, ◌≡◌, ◌<◌, ◌==◌, ◌∙◌, ap, sym, inl, inr, List, [], ◌∷◌, map, length, get_or, set, Some, None, find, arith, refl}
use Rattle.std.proofs.lemmas.Bool.{cases_Bool}
use Rattle.std.proofs.lemmas.List.{get_or_default}
use Rattle.std.proofs.lemmas.Bool.Decides.{nat_tests}
use Rattle.x12_acks.specs.Submission.{TransactionSetKey}
use Rattle.x12_outbound.specs.Entry.{SetRow, with_set_at}
use Rattle.x12_outbound.specs.Ledger.{LedgerRow, with_set_of, IcnsRise}
use Rattle.x12_outbound.proofs.PlaceLemmas.{map_only}

-- an interchange of another number is kept, and that of the number is changed
pub kept : (f : SetRow → SetRow) (key : TransactionSetKey) (r : LedgerRow) → (r.interchange.icn ≡ key.icn → ⊥)
    → with_set_of f key r ≡ r
kept f key r other = elim (cases_Bool (r.interchange.icn == key.icn)) [
  | inl is ↦ absurd (other (grind (arith, nat_tests)))
  | inr not ↦ rw not refl
]

pub here : (f : SetRow → SetRow) (key : TransactionSetKey) (r : LedgerRow) → r.interchange.icn ≡ key.icn
    → with_set_of f key r ≡ record r { interchange = with_set_at f key.group key.set r.interchange }
here f key r named = elim (cases_Bool (r.interchange.icn == key.icn)) [
  | inl is ↦ rw is refl
  | inr not ↦ absurd (grind (arith, nat_tests))
]

-- two rows have two numbers
other_number : (rows : List LedgerRow) (i k : ℕ) (r d : LedgerRow) → IcnsRise rows → i < length rows → k < length rows
    → r ≡ get_or rows i r → (k ≡ i → ⊥) → (get_or rows k d).interchange.icn ≡ r.interchange.icn → ⊥
other_number rows i k r d rise within at is other same =
    let icn = λ (q : LedgerRow). q.interchange.icn in
    let read : (get_or rows i d).interchange.icn ≡ r.interchange.icn = ap icn (sym (is ∙ get_or_default rows i r d within)) in
    let below : k < i → (get_or rows k d).interchange.icn < (get_or rows i d).interchange.icn = λ lt. rise k i d lt within in
    let above : i < k → (get_or rows i d).interchange.icn < (get_or rows k d).interchange.icn = λ lt. rise i k d lt at in
    grind (arith, below, above)

-- a change of a set changes the interchange of that number alone
pub changed_row : (f : SetRow → SetRow) (key : TransactionSetKey) (rows : List LedgerRow) (i : ℕ) (r : LedgerRow)
    → IcnsRise rows → i < length rows → r ≡ get_or rows i r → r.interchange.icn ≡ key.icn
    → map (with_set_of f key) rows ≡ set rows i (record r { interchange = with_set_at f key.group key.set r.interchange })
changed_row f key rows i r rise within is named =
    map_only (with_set_of f key) rows i r within is (λ k d at other. kept f key (get_or rows k d) (λ same. other_number rows i k r d rise within at is other (same ∙ sym named)))
    ∙ ap (set rows i) (here f key r named)

some_none : {r : LedgerRow} → None ≡ Some r → ⊥
some_none same = cc

-- and none where there is no such interchange
pub changed_none : (f : SetRow → SetRow) (key : TransactionSetKey) (rows : List LedgerRow)
    → find (λ r. r.interchange.icn == key.icn) rows ≡ None → map (with_set_of f key) rows ≡ rows
changed_none f key [] none = refl
changed_none f key (r ∷ rows) none = elim (cases_Bool (r.interchange.icn == key.icn)) [
  | inl is ↦ absurd (some_none (sym (rw is at none)))
  | inr not ↦ rw not (ap (λ rest. r ∷ rest) (changed_none f key rows (rw not at none)))
]
