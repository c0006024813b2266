-- What records in memory hold of first arrivals: one more, and one by its partner and number.
use Rattle.std.proofs.Common.{ℕ, ◌≡◌, ◌≢◌, ◌==◌, ◌&&◌, ◌⊎◌, ◌∙◌, ap, sym, subst, inl, inr, Bool, true, false, List, [], ◌∷◌, ◌++◌, map, Option, Some, None, option_map, bytes_eq, refl}
use Rattle.std.specs.Map.{lookup}
use Rattle.indexmap.specs.IndexMap.{insert_entry}
use Rattle.std.proofs.lemmas.Bool.Decides.{eqb_tells}
use Rattle.x12_envelopes.specs.declared.party.Party.{Party}
use Rattle.x12_inbound.specs.Filing.{FiledInterchange, filed_under}
use Rattle.x12_inbound.specs.Order.{interchange}
use Rattle.x12_inbound.specs.Register.{found_in}
use Rattle.x12_station.specs.declared.arrivals.NumberedArrival.{NumberedArrival}
use Rattle.x12_station.specs.Memory.{ArrivalKey, arrival_view, filed_of}
use Rattle.x12_numbers.proofs.Shelf.{bytes_eq_tells}

abbrev same_key : ArrivalKey → ArrivalKey → Bool
same_key a b = bytes_eq a.0 b.0 && bytes_eq a.1 b.1 && a.2 == b.2

-- the test on keys, with what it tells
key_tells : (a b : ArrivalKey) → ((same_key a b ≡ true) × (a ≡ b)) ⊎ ((same_key a b ≡ false) × (a ≢ b))
key_tells a b = elim (bytes_eq_tells a.0 b.0) [
  | inl q ↦ elim (bytes_eq_tells a.1 b.1) [
    | inl i ↦ elim (eqb_tells a.2 b.2) [
      | inl n ↦ inl (rw (q.0, i.0, n.0) refl, joined a.0 b.0 a.1 b.1 a.2 b.2 q.1 i.1 n.1)
      | inr n ↦ inr (rw (q.0, i.0, n.0) refl, λ same. n.1 (ap (λ (k : ArrivalKey). k.2) same))
    ]
    | inr i ↦ inr (rw (q.0, i.0) refl, λ same. i.1 (ap (λ (k : ArrivalKey). k.1) same))
  ]
  | inr q ↦ inr (rw (q.0) refl, λ same. q.1 (ap (λ (k : ArrivalKey). k.0) same))
]
  where
    joined : (q r i j : List ℕ) (n m : ℕ) → q ≡ r → i ≡ j → n ≡ m → (let k : ArrivalKey = (q, i, n) in k) ≡ (r, j, m)
    joined q r i j n m e f g = cc

turned : (a b : ArrivalKey) (t : Bool) → a ≡ b → same_key a b ≡ t → same_key b a ≡ t
turned a b t same is = subst (λ z. same_key b z ≡ t) (sym same) (subst (λ z. same_key z z ≡ t) same (subst (λ z. same_key a z ≡ t) (sym same) is))

other_way : (a b : ArrivalKey) → a ≢ b → same_key b a ≡ false
other_way a b differ = elim (key_tells b a) [ inl same ↦ absurd (differ (sym same.1)) | inr other ↦ other.0 ]

abbrev pub party_in : ArrivalKey → Party
party_in k = record { qualifier = k.0; id = k.1 }

module _ (eq : ArrivalKey → ArrivalKey → Bool) (is : (a b : ArrivalKey) → eq a b ≡ same_key a b) where
  -- an arrival under a new key joins at the end
  pub pushed_is : (es : List (ArrivalKey × NumberedArrival)) (k : ArrivalKey) (v : NumberedArrival) → found_in (filed_of es) (interchange (party_in k) k.2) ≡ None
      → map arrival_view (insert_entry eq es k v) ≡ map arrival_view es ++ arrival_view (k, v) ∷ []
  pushed_is [] k v none = refl
  pushed_is (e ∷ es) k v none = elim (key_tells e.0 k) [
    | inl same ↦ let found : Some (arrival_view e).filed ≡ None = rw (same.0) at none in absurd (cc)
    | inr apart ↦ rw (is k e.0, other_way e.0 k apart.1) (ap (λ xs. arrival_view e ∷ xs) (pushed_is es k v (rw (apart.0) at none)))
  ]

  -- an arrival is found under its key
  pub found_is : (es : List (ArrivalKey × NumberedArrival)) (q : ArrivalKey)
      → option_map (λ (a : NumberedArrival). filed_under (party_in q) q.2 a.filed) (lookup (λ k. eq q k) es) ≡ found_in (filed_of es) (interchange (party_in q) q.2)
  found_is [] q = refl
  found_is (e ∷ es) q = elim (key_tells e.0 q) [
    | inl same ↦ rw (is q e.0, turned e.0 q true same.1 same.0, same.0) (ap (λ (k : ArrivalKey). Some (filed_under (party_in k) k.2 e.1.filed)) (sym same.1))
    | inr apart ↦ rw (is q e.0, other_way e.0 q apart.1, apart.0) (found_is es q)
  ]

-- what the map finds, or doesn't
looked_up : (es : List (ArrivalKey × NumberedArrival)) (p : Party) (icn : ℕ) (q : ArrivalKey) (o : Option NumberedArrival) → q ≡ (p.qualifier, p.id, icn) → lookup (λ k. same_key q k) es ≡ o
    → option_map (λ (a : NumberedArrival). filed_under p icn a.filed) o ≡ found_in (filed_of es) (interchange p icn)
looked_up es p icn q o is found =
    ap (option_map (λ (a : NumberedArrival). filed_under p icn a.filed)) (sym found ∙ ap (λ (z : ArrivalKey). lookup (λ k. same_key z k) es) is)
    ∙ found_is same_key (λ a b. refl) es (p.qualifier, p.id, icn)

pub some_found : (es : List (ArrivalKey × NumberedArrival)) (p : Party) (icn : ℕ) (q : ArrivalKey) (a : NumberedArrival) (f : FiledInterchange) → q ≡ (p.qualifier, p.id, icn) → lookup (λ k. same_key q k) es ≡ Some a
    → f ≡ filed_under p icn a.filed → Some f ≡ found_in (filed_of es) (interchange p icn)
some_found es p icn q a f is found same = ap Some same ∙ looked_up es p icn q (Some a) is found

pub none_found : (es : List (ArrivalKey × NumberedArrival)) (p : Party) (icn : ℕ) (q : ArrivalKey) → q ≡ (p.qualifier, p.id, icn) → lookup (λ k. same_key q k) es ≡ None → None ≡ found_in (filed_of es) (interchange p icn)
none_found es p icn q is found = looked_up es p icn q None is found

-- what is filed, in the order of arrival
pub filed_are : (es : List (ArrivalKey × NumberedArrival)) → filed_of es ≡ map (λ r. r.filed) (map arrival_view es)
filed_are [] = refl
filed_are (e ∷ es) = ap (λ l. (arrival_view e).filed ∷ l) (filed_are es)
