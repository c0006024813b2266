-- The agreements after one more: one for a partner, each with pairs, and each pair once.
use Rattle.std.specs.Prelude.{◌≡◌, ℕ, List, [], ◌∷◌, Bool, true, false, cond, not, ◌&&◌, filter, bytes_eq, All, refl}
use Rattle.std.specs.List.{AllByRecursion, IsDistinct, list_any}
use Rattle.std.specs.Cmp.{IsEquivalence}
use mathlib.Core.Path.{sym, ap, ◌∙◌}
use mathlib.Core.Logic.{inl, inr}
use Rattle.std.proofs.lemmas.List.Elements.{All-filter, All-push}
use Rattle.std.proofs.lemmas.Map.Keys.{IsDistinct-push}
use Rattle.x12_envelopes.specs.declared.party.Party.{Party}
use Rattle.x12_judge.specs.Agreement.{TradingAgreement, is_same_party}
use Rattle.x12_profile.proofs.PartyLemmas.{party_tells}
use Rattle.x12_acks.proofs.ReplyGroupLemmas.{same_party_itself}
use Rattle.x12_station.specs.Station.{agreed, each_once, of_others}
use Rattle.x12_station.specs.Stored.{IsKeptAgreement}
use Rattle.x12_numbers.proofs.Shelf.{all_filtered}

module _ {X : Type 0} where
  pub filter_distinct : (same : X → X → Bool) (p : X → Bool) (xs : List X) → IsDistinct same xs → IsDistinct same (filter p xs)
  unfolding IsDistinct
  filter_distinct same p [] once = tt
  filter_distinct same p (x ∷ xs) once = by (p x) (filter_distinct same p xs once.1)
    where
      by : (t : Bool) → IsDistinct same (filter p xs) → IsDistinct same (cond t (x ∷ filter p xs) (filter p xs))
      by true rest = (all_filtered (λ y. same x y ≡ false) p xs once.0, rest)
      by false rest = rest

  -- what isn't the same as x
  others : (same : X → X → Bool) (x : X) (xs : List X) → AllByRecursion (λ y. same x y ≡ false) (filter (λ y. not (same x y)) xs)
  others same x [] = tt
  others same x (y ∷ ys) = by (same x y) refl (others same x ys)
    where
      by : (t : Bool) → same x y ≡ t → AllByRecursion (λ z. same x z ≡ false) (filter (λ z. not (same x z)) ys)
          → AllByRecursion (λ z. same x z ≡ false) (cond (not t) (y ∷ filter (λ z. not (same x z)) ys) (filter (λ z. not (same x z)) ys))
      by true is rest = rest
      by false is rest = (is, rest)

abbrev same_pair : List ℕ × List ℕ → List ℕ × List ℕ → Bool
same_pair q r = bytes_eq q.0 r.0 && bytes_eq q.1 r.1

once_each : (qs : List (List ℕ × List ℕ)) → IsDistinct same_pair (each_once qs)
unfolding IsDistinct
once_each [] = tt
once_each (q ∷ qs) = (others same_pair q (each_once qs), filter_distinct same_pair (λ r. not (same_pair q r)) (each_once qs) (once_each qs))

abbrev same_partner : TradingAgreement → TradingAgreement → Bool
same_partner a b = is_same_party a.partner b.partner

turned : (p q : Party) → is_same_party p q ≡ is_same_party q p
turned p q = elim (party_tells p q) [
  | inl same ↦ elim (party_tells q p) [ inl back ↦ same.0 ∙ sym back.0 | inr apart ↦ absurd (apart.1 (sym same.1)) ]
  | inr apart ↦ elim (party_tells q p) [ inl back ↦ absurd (apart.1 (sym back.1)) | inr back ↦ apart.0 ∙ sym back.0 ]
]

same_like : (p q r : Party) → is_same_party p q ≡ true → is_same_party p r ≡ is_same_party q r
same_like p q r is = elim (party_tells p q) [
  | inl same ↦ ap (λ z. is_same_party z r) same.1
  | inr apart ↦ absurd (let no : true ≡ false = sym is ∙ apart.0 in cc)
]

partners_alike : IsEquivalence same_partner
partners_alike = record {
  refl = λ a. same_party_itself a.partner;
  symm = λ a b. turned a.partner b.partner;
  congr = λ a b c is. same_like a.partner b.partner c.partner is;
}

none_of_others : (a : TradingAgreement) (old : List TradingAgreement) → list_any (same_partner a) (of_others a.partner old) ≡ false
none_of_others a [] = refl
none_of_others a (b ∷ old) = by (is_same_party b.partner a.partner) refl (none_of_others a old)
  where
    by : (t : Bool) → is_same_party b.partner a.partner ≡ t → list_any (same_partner a) (of_others a.partner old) ≡ false
        → list_any (same_partner a) (cond (not t) (b ∷ of_others a.partner old) (of_others a.partner old)) ≡ false
    by true is rest = rest
    by false is rest = rw (turned a.partner b.partner, is) rest

module _ (partner : Party) (lenient : Bool) (old : List TradingAgreement) where
  once_by : (pairs : List (List ℕ × List ℕ)) → IsDistinct same_partner old → IsDistinct same_partner (agreed (record { partner = partner; lenient = lenient; pairs = pairs }) old)
  once_by [] once = filter_distinct same_partner (λ a. not (is_same_party a.partner partner)) old once
  once_by (q ∷ qs) once =
      let a : TradingAgreement = record { partner = partner; lenient = lenient; pairs = each_once (q ∷ qs) } in
      IsDistinct-push partners_alike (of_others partner old) a (filter_distinct same_partner (λ a. not (is_same_party a.partner partner)) old once) (none_of_others a old)

  kept_by : (pairs : List (List ℕ × List ℕ)) → All IsKeptAgreement old → All IsKeptAgreement (agreed (record { partner = partner; lenient = lenient; pairs = pairs }) old)
  kept_by [] kept = All-filter (λ a. not (is_same_party a.partner partner)) IsKeptAgreement old kept
  kept_by (q ∷ qs) kept =
      All-push IsKeptAgreement (of_others partner old) (record { partner = partner; lenient = lenient; pairs = each_once (q ∷ qs) })
      (All-filter (λ a. not (is_same_party a.partner partner)) IsKeptAgreement old kept)
      (record { pairs = λ none. cc; once = once_each (q ∷ qs) })

pub agreed_once : (a : TradingAgreement) (old : List TradingAgreement) → IsDistinct (λ b c. is_same_party b.partner c.partner) old
    → IsDistinct (λ b c. is_same_party b.partner c.partner) (agreed a old)
agreed_once a old once = once_by a.partner a.lenient old a.pairs once

pub agreed_kept : (a : TradingAgreement) (old : List TradingAgreement) → All IsKeptAgreement old → All IsKeptAgreement (agreed a old)
agreed_kept a old kept = kept_by a.partner a.lenient old a.pairs kept
