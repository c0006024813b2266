-- Agreements: those with others, and pairs of which each stands once.
use Rattle.std.proofs.Common.{◌≡◌, ◌≢◌, ◌∙◌, ◌+◌, ◌<◌, length, take, get_or, ap, sym, refl, inl, inr, Bool, true, false, cond, List, [], ◌∷◌, ◌++◌, map, filter}
use Rattle.std.specs.Prelude.{not, ◌&&◌, ◌||◌, ◌⊎◌, bytes_eq, if◌then◌else◌, ℕ}
use Rattle.std.specs.List.{list_any}
use Rattle.std.proofs.lemmas.List.{append-nil, take_more}
use Rattle.std.proofs.lemmas.List.Elements.{filter-append}
use Rattle.indexmap.specs.IndexSet.{insert_key}
use Rattle.x12_envelopes.specs.declared.party.Party.{Party}
use Rattle.x12_judge.specs.Agreement.{agreement_view, is_same_party}
use Rattle.x12_judge.specs.declared.agreement.Agreement.{Agreement}
use Rattle.x12_station.specs.Station.{each_once, of_others}
use Rattle.x12_numbers.proofs.Shelf.{bytes_eq_tells}

-- the agreements with others, by what they stand for
pub others_are : (party : Party) (bs : List Agreement) → map agreement_view (filter (λ a. not (is_same_party a.partner party)) bs) ≡ of_others party (map agreement_view bs)
others_are party [] = refl
others_are party (a ∷ bs) = by (is_same_party a.partner party) (others_are party bs)
  where
    by : (t : Bool) → map agreement_view (filter (λ b. not (is_same_party b.partner party)) bs) ≡ of_others party (map agreement_view bs) → map agreement_view (cond (not t) (a ∷ filter (λ b. not (is_same_party b.partner party)) bs) (filter (λ b. not (is_same_party b.partner party)) bs)) ≡ cond (not t) (agreement_view a ∷ of_others party (map agreement_view bs)) (of_others party (map agreement_view bs))
    by true rest = rest
    by false rest = ap (λ cs. agreement_view a ∷ cs) rest

-- A pair, and the test on it.
abbrev pub Pair : Type 0
Pair = List ℕ × List ℕ

abbrev pub same : Pair → Pair → Bool
same p q = bytes_eq p.0 q.0 && bytes_eq p.1 q.1

pair_tells : (p q : Pair) → ((same p q ≡ true) × (p ≡ q)) ⊎ ((same p q ≡ false) × (p ≢ q))
pair_tells p q = elim (bytes_eq_tells p.0 q.0) [
  | inl a ↦ elim (bytes_eq_tells p.1 q.1) [
    | inl b ↦ inl (rw (a.0, b.0) (refl, both a.1 b.1))
    | inr b ↦ inr (rw (a.0, b.0) (refl, λ e. b.1 (ap (λ (z : Pair). z.1) e)))
  ]
  | inr a ↦ inr (rw (a.0) (refl, λ e. a.1 (ap (λ (z : Pair). z.0) e)))
]
  where
    both : p.0 ≡ q.0 → p.1 ≡ q.1 → p ≡ q
    both a b = rw (a, b) refl

same_itself : (p : Pair) → same p p ≡ true
same_itself p = elim (pair_tells p p) [ inl e ↦ e.0 | inr e ↦ absurd (e.1 refl) ]

-- what isn't the same as another is kept, where only that is taken out
kept_any : (k x : Pair) → k ≢ x → (ps : List Pair) → list_any (same k) (filter (λ r. not (same x r)) ps) ≡ list_any (same k) ps
kept_any k x apart [] = refl
kept_any k x apart (p ∷ ps) = elim (pair_tells x p) [
  | inl e ↦ elim (pair_tells k p) [
    | inl f ↦ absurd (apart (f.1 ∙ sym e.1))
    | inr f ↦ rw (e.0, f.0) (kept_any k x apart ps)
  ]
  | inr e ↦ rw (e.0) (ap (λ (b : Bool). same k p || b) (kept_any k x apart ps))
]

-- one pair more joins at the end, unless it stands there
pub once_pushed : (ps : List Pair) (k : Pair) → each_once (ps ++ k ∷ []) ≡ insert_key same (each_once ps) k
once_pushed [] k = refl
once_pushed (x ∷ ps) k = ap (λ qs. x ∷ filter (λ r. not (same x r)) qs) (once_pushed ps k) ∙ elim (pair_tells k x) [
  | inl e ↦ rw (e.0) (there e.1 (list_any (same k) (each_once ps)))
  | inr e ↦ rw (e.0, kept_any k x e.1 (each_once ps)) (apart e.1 (list_any (same k) (each_once ps)))
]
  where
    there : k ≡ x → (t : Bool) → x ∷ filter (λ r. not (same x r)) (if t then each_once ps else each_once ps ++ k ∷ []) ≡ x ∷ filter (λ r. not (same x r)) (each_once ps)
    there e true = refl
    there e false = ap (λ qs. x ∷ qs) (filter-append (λ r. not (same x r)) (each_once ps) (k ∷ []) ∙ rw (e, same_itself x) (append-nil _))

    apart : k ≢ x → (t : Bool) → x ∷ filter (λ r. not (same x r)) (if t then each_once ps else each_once ps ++ k ∷ []) ≡ (if t then x ∷ filter (λ r. not (same x r)) (each_once ps) else x ∷ filter (λ r. not (same x r)) (each_once ps) ++ k ∷ [])
    apart e true = refl
    apart e false = ap (λ qs. x ∷ qs) (filter-append (λ r. not (same x r)) (each_once ps) (k ∷ []) ∙ elim (pair_tells x k) [ inl f ↦ absurd (e (sym f.1)) | inr f ↦ rw (f.0) refl ])

-- those of a list up to a place, and the one there
pub first_pushed : (ps : List Pair) (n : ℕ) (d k : Pair) (first new : List Pair) → n < length ps → get_or ps n d ≡ k → first ≡ each_once (take n ps) → new ≡ insert_key same first k → new ≡ each_once (take (n + 1) ps)
first_pushed ps n d k first new within is was put = put ∙ rw (was, take_more ps n d within, is) (sym (once_pushed (take n ps) k))
