-- The test on parties tells whether they are one.
use Rattle.std.specs.Prelude.{◌≡◌, ◌≢◌, ℕ, zero, suc, List, [], ◌∷◌, Bool, true, false, ◌||◌, Some, refl, ◌⊎◌, slice_get}
use Rattle.std.specs.List.{list_any}
use mathlib.Core.Path.{subst}
use mathlib.Core.Logic.{inl, inr}
use Rattle.std.proofs.lemmas.Bool.Decides.{not_from_Decides}
use Rattle.x12_envelopes.specs.declared.party.Party.{Party}
use Rattle.x12_judge.specs.Agreement.{is_same_party}
use Rattle.x12_acks.proofs.ReplyGroupLemmas.{same_party_itself}
use Rattle.x12_judge.proofs.Shelf.{same_party}

pub is_same_party-Decides : (p q : Party) → (is_same_party p q ≡ true → p ≡ q) × (p ≡ q → is_same_party p q ≡ true)
is_same_party-Decides p q = (same_party p q, λ e. subst (λ z. is_same_party p z ≡ true) e (same_party_itself p))

pub party_tells : (p q : Party) → ((is_same_party p q ≡ true) × (p ≡ q)) ⊎ ((is_same_party p q ≡ false) × (p ≢ q))
party_tells p q = by (is_same_party p q) refl
  where
    by : (t : Bool) → is_same_party p q ≡ t → ((is_same_party p q ≡ true) × (p ≡ q)) ⊎ ((is_same_party p q ≡ false) × (p ≡ q → ⊥))
    by true e = inl (e, same_party p q e)
    by false e = inr (e, not_from_Decides (is_same_party p q) (is_same_party-Decides p q) e)

-- a party that is none of these stands in no place
pub no_party : (p : Party) (names : List Party) (i : ℕ) → list_any (is_same_party p) names ≡ false → ¬ (slice_get names i ≡ Some p)
no_party p [] i e is = absurd cc
no_party p (n ∷ names) zero e is = let same : n ≡ p = cc in let found : is_same_party p n ≡ true = rw same (same_party_itself p) in absurd (clash (is_same_party p n) (list_any (is_same_party p) names) found e)
  where
    clash : (x y : Bool) → x ≡ true → (x || y) ≡ false → ⊥
    clash true y t f = cc
    clash false y t f = cc
no_party p (n ∷ names) (suc i) e is = no_party p names i (or_false (is_same_party p n) (list_any (is_same_party p) names) e) is
  where
    or_false : (x y : Bool) → (x || y) ≡ false → y ≡ false
    or_false true y f = absurd cc
    or_false false y f = f
