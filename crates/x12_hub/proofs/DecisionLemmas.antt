-- What a list of decisions says of bytes, once a decision joins it at its end.
use Rattle.std.specs.Prelude.{◌≡◌, ℕ, List, [], ◌∷◌, ◌++◌, true, false, Some, None, bytes_eq, refl}
use mathlib.Core.Path.{sym, subst, ◌∙◌}
use mathlib.Core.Logic.{inl, inr}
use Rattle.x12_profile.specs.Interchange.{Bytes}
use Rattle.x12_hub.specs.Hub.{Decision, HubOutcome, decided}
use Rattle.x12_hub.specs.DecidesOnce.{AreOnce}
use Rattle.x12_numbers.proofs.Shelf.{bytes_eq_itself, bytes_eq_tells}

-- a test that fails is asked the other way round
pub other_way : (a b : List ℕ) → bytes_eq a b ≡ false → bytes_eq b a ≡ false
other_way a b e = elim (bytes_eq_tells b a) [
  | inl same ↦ absurd (flips (bytes_eq_itself a) (subst (λ z. bytes_eq a z ≡ false) (same.1) e))
  | inr apart ↦ apart.0
]
  where
    flips : bytes_eq a a ≡ true → bytes_eq a a ≡ false → ⊥
    flips t f = let both : true ≡ false = sym t ∙ f in absurd cc

-- a decision joins: it is found under its bytes where these weren't decided
pub decided_pushed : (ds : List Decision) (b : Bytes) (o : HubOutcome) → decided ds b ≡ None → decided (ds ++ record { body = b; outcome = o } ∷ []) b ≡ Some o
decided_pushed [] b o e = rw (bytes_eq_itself b) refl
decided_pushed (d ∷ ds) b o e = elim (bytes_eq_tells d.body b) [
  | inl same ↦ let is : Some d.outcome ≡ None = rw (same.0) at e in absurd cc
  | inr apart ↦ rw (apart.0) (decided_pushed ds b o (rw (apart.0) at e))
]

-- what is found stays found
pub decided_stays : (ds : List Decision) (b : Bytes) (o : HubOutcome) (c : Bytes) (was : HubOutcome) → decided ds c ≡ Some was → decided (ds ++ record { body = b; outcome = o } ∷ []) c ≡ Some was
decided_stays [] b o c was e = absurd cc
decided_stays (d ∷ ds) b o c was e = elim (bytes_eq_tells d.body c) [
  | inl same ↦ rw (same.0) (rw (same.0) at e)
  | inr apart ↦ rw (apart.0) (decided_stays ds b o c was (rw (apart.0) at e))
]

-- what isn't found isn't found behind a decision on other bytes either
pub undecided_pushed : (ds : List Decision) (b : Bytes) (o : HubOutcome) (c : Bytes) → decided ds c ≡ None → bytes_eq b c ≡ false → decided (ds ++ record { body = b; outcome = o } ∷ []) c ≡ None
undecided_pushed [] b o c e other = rw other refl
undecided_pushed (d ∷ ds) b o c e other = elim (bytes_eq_tells d.body c) [
  | inl same ↦ let is : Some d.outcome ≡ None = rw (same.0) at e in absurd cc
  | inr apart ↦ rw (apart.0) (undecided_pushed ds b o c (rw (apart.0) at e) other)
]

-- a first decision on bytes keeps each once
pub once_pushed : (ds : List Decision) (b : Bytes) (o : HubOutcome) → AreOnce ds → decided ds b ≡ None → AreOnce (ds ++ record { body = b; outcome = o } ∷ [])
once_pushed [] b o once e = (refl, tt)
once_pushed (d ∷ ds) b o once e = elim (bytes_eq_tells d.body b) [
  | inl same ↦ let is : Some d.outcome ≡ None = rw (same.0) at e in absurd cc
  | inr apart ↦ (undecided_pushed ds b o d.body once.0 (other_way d.body b apart.0), once_pushed ds b o once.1 (rw (apart.0) at e))
]

-- a decision that joined a list in which none stands twice is on new bytes
pub new_from_once : (ds : List Decision) (b : Bytes) (o : HubOutcome) → AreOnce (ds ++ record { body = b; outcome = o } ∷ []) → decided ds b ≡ None
new_from_once [] b o once = refl
new_from_once (d ∷ ds) b o once = elim (bytes_eq_tells d.body b) [
  | inl same ↦ absurd (clash (subst (λ z. decided (ds ++ record { body = b; outcome = o } ∷ []) z ≡ None) same.1 once.0))
  | inr apart ↦ rw (apart.0) (new_from_once ds b o once.1)
]
  where
    found : (ds : List Decision) → (x : HubOutcome) × (decided (ds ++ record { body = b; outcome = o } ∷ []) b ≡ Some x)
    found [] = (o, rw (bytes_eq_itself b) refl)
    found (d ∷ ds) = elim (bytes_eq_tells d.body b) [
      | inl same ↦ (d.outcome, rw (same.0) refl)
      | inr apart ↦ (let more = found ds in (more.0, rw (apart.0) more.1))
    ]

    clash : decided (ds ++ record { body = b; outcome = o } ∷ []) b ≡ None → ⊥
    clash e = let f = found ds in let both : Some f.0 ≡ None = sym f.1 ∙ e in absurd cc
