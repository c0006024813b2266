-- Where an arrival stands in the history: under its own number, which gives its edition.
use Rattle.std.specs.Prelude.{◌≡◌, ℕ, zero, suc, ◌+◌, ◌<◌, ◌≤◌, List, [], ◌∷◌, Some, None, option_map, option_to_list, All, AllPairs, Contains, refl}
use Rattle.std.specs.List.{range_with_len}
use Rattle.std.specs.Option.{option_or}
use mathlib.Core.Logic.{inl, inr}
use mathlib.Core.Path.{sym, ap₂, subst, ◌∙◌}
use native.Mathlib.Omega.{arith}
use Rattle.std.proofs.lemmas.Bool.Decides.{eqb_tells}
use Rattle.std.proofs.lemmas.List.Elements.{All-contains}
use Rattle.x12_numbers.proofs.Shelf.{contains_cons, contains_head, contains_tail, eq_itself, none_in_nil}
use Rattle.x12_station.specs.Durable.{item_at, item_of_arrival, items_of}
use Rattle.x12_station.specs.History.{Submitted}
use Rattle.x12_station.specs.Stored.{AreNumbered, Stored, StoredArrival, StoredSubmission, marks_of}
use Rattle.x12_station.proofs.ItemLemmas.{IsWithin, apart, arrived_within}
use Rattle.x12_station.proofs.ListLemmas.{contains_some, flat_map_contains}
use Rattle.x12_station.proofs.SeqLemmas.{pairs_head, pairs_tail, under}

in_range : (len from n : ℕ) → from ≤ n → n < from + len → Contains (range_with_len from len) n
in_range zero from n low high = absurd (omega (arith, low, high))
in_range (suc len) from n low high = elim (eqb_tells from n) [
  | inl is ↦ subst (λ m. Contains (range_with_len from (suc len)) m) is.1 (contains_head from (range_with_len (from + 1) len))
  | inr not ↦ let apart = not.1 in contains_tail n from (range_with_len (from + 1) len) (in_range len (from + 1) n (omega (arith, low, apart)) (omega (arith, high)))
]

-- a row is the one of its number, where numbers rise
under_itself : {R : Type 0} (key : R → ℕ) (rs : List R) → AllPairs (λ r q. key r < key q) rs → (r : R) → Contains rs r → under key (key r) rs ≡ Some r
under_itself key [] rise r at = none_in_nil r at
under_itself {R} key (q ∷ rs) rise r at = elim (contains_cons r q rs at) [
  | inl is ↦ subst (λ (x : R). under key (key x) (q ∷ rs) ≡ Some x) is (rw (eq_itself (key q)) refl)
  | inr later ↦
      let less : key q < key r = All-contains (λ (x : R). key q < key x) rs r (pairs_head (λ r q. key r < key q) q rs rise) later in
      elim (eqb_tells (key q) (key r)) [
        | inl same ↦ absurd (let is = same.1 in omega (arith, less, is))
        | inr not ↦ rw not.0 (under_itself key rs (pairs_tail (λ r q. key r < key q) q rs rise) r later)
      ]
]

module _ (s : Stored) (numbered : AreNumbered s) (r : StoredArrival) (at : Contains s.arrived r) where
  abbrev found : under (λ (q : StoredArrival). q.seq) r.seq s.arrived ≡ Some r
  found = under_itself (λ (q : StoredArrival). q.seq) s.arrived numbered.arrived r at

  item_there : item_at s r.seq ≡ Some (item_of_arrival (marks_of s.origin) r.seq r)
  item_there = elim (apart s numbered r.seq) [
    | inl none ↦ ap₂ (λ a b. option_or (option_map (λ (q : StoredSubmission). Submitted q.bytes) a) (option_map (item_of_arrival (marks_of s.origin) r.seq) b)) none found
    | inr none ↦ absurd (let clash : None ≡ Some r = sym none ∙ found in let no : ⊥ = cc in no)
  ]

  -- it stands in the history, with the edition of its number
  pub in_history : Contains (items_of s) (item_of_arrival (marks_of s.origin) r.seq r)
  unfolding items_of
  in_history =
      let within = All-contains (λ (q : StoredArrival). IsWithin s.seq q.seq) s.arrived r (arrived_within s numbered) at in
      let low = within.low in
      let high = within.high in
      flat_map_contains (λ n. option_to_list (item_at s n)) (range_with_len 1 s.seq) r.seq (item_of_arrival (marks_of s.origin) r.seq r)
      (in_range s.seq 1 r.seq low (omega (arith, high))) (contains_some (item_at s r.seq) (item_of_arrival (marks_of s.origin) r.seq r) item_there)
