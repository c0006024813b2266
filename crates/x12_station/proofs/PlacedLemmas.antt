-- The item of a number stands at its place in the history.
use Rattle.std.specs.Prelude.{◌≡◌, ℕ, zero, suc, ◌+◌, ◌-◌, ◌<◌, ◌≤◌, ◌==◌, ◌++◌, length, Option, Some, None, find, flat_map, option_to_list, slice_get, refl}
use Rattle.std.specs.List.{range_with_len}
use mathlib.Core.Path.{sym, ap, ◌∙◌}
use mathlib.Core.Logic.{inl, inr}
use native.Mathlib.Omega.{arith}
use Rattle.std.proofs.lemmas.Bool.Decides.{eqb_tells, leb_tells}
use Rattle.std.proofs.lemmas.Option.{slice_get_past}
use Rattle.x12_outbound.specs.Entry.{at_place}
use Rattle.x12_station.specs.Durable.{item_at, items_of}
use Rattle.x12_station.specs.Stored.{Stored, StoredSubmission, StoredArrival, AreNumbered}
use Rattle.x12_station.proofs.ItemLemmas.{submitted_within, arrived_within, length_items}
use Rattle.x12_station.proofs.SeqLemmas.{none_above, none_below}

-- what a function tells of the numbers of a range, where it tells something of each
module _ {X : Type 0} (f : ℕ → Option X) where
  at_most : (len from : ℕ) → length (flat_map (λ n. option_to_list (f n)) (range_with_len from len)) ≤ len
  at_most zero from = omega arith
  at_most (suc len) from = by (f from) (at_most len (from + 1))
    where
      by : (o : Option X) → length (flat_map (λ n. option_to_list (f n)) (range_with_len (from + 1) len)) ≤ len
          → length (option_to_list o ++ flat_map (λ n. option_to_list (f n)) (range_with_len (from + 1) len)) ≤ suc len
      by None rest = omega arith
      by (Some x) rest = omega arith

  told_at : (len from i : ℕ) → length (flat_map (λ n. option_to_list (f n)) (range_with_len from len)) ≡ len → i < len
      → slice_get (flat_map (λ n. option_to_list (f n)) (range_with_len from len)) i ≡ f (from + i)
  told_at zero from i whole within = absurd (omega arith)
  told_at (suc len) from i whole within = by (told_at len (from + 1)) (f from) refl whole i within
    where
      by : ((i : ℕ) → length (flat_map (λ n. option_to_list (f n)) (range_with_len (from + 1) len)) ≡ len → i < len → slice_get (flat_map (λ n. option_to_list (f n)) (range_with_len (from + 1) len)) i ≡ f (from + 1 + i))
          → (o : Option X) → f from ≡ o → length (option_to_list o ++ flat_map (λ n. option_to_list (f n)) (range_with_len (from + 1) len)) ≡ suc len → (i : ℕ) → i < suc len
          → slice_get (option_to_list o ++ flat_map (λ n. option_to_list (f n)) (range_with_len (from + 1) len)) i ≡ f (from + i)
      by rest None is whole i within = let most = at_most len (from + 1) in absurd (omega arith)
      by rest (Some x) is whole zero within = sym is ∙ ap f (omega arith)
      by rest (Some x) is whole (suc i) within = rest i (omega arith) (omega arith) ∙ ap f (omega arith)

module _ (s : Stored) (numbered : AreNumbered s) where
  -- no row, where neither table has one
  none_told : (n : ℕ) → find (λ (r : StoredSubmission). r.seq == n) s.submitted ≡ None → find (λ (r : StoredArrival). r.seq == n) s.arrived ≡ None → item_at s n ≡ None
  none_told n sent came = rw (sent, came) refl

  at_none : item_at s 0 ≡ None
  at_none = none_told 0
      (none_above (λ (r : StoredSubmission). r.seq) s.submitted 0 (λ k d within. let low = (submitted_within s numbered k d within).low in omega arith))
      (none_above (λ (r : StoredArrival). r.seq) s.arrived 0 (λ k d within. let low = (arrived_within s numbered k d within).low in omega arith))

  past_all : (n : ℕ) → s.seq < n → item_at s n ≡ None
  past_all n past = none_told n
      (none_below (λ (r : StoredSubmission). r.seq) s.submitted n (λ k d within. let high = (submitted_within s numbered k d within).high in omega arith))
      (none_below (λ (r : StoredArrival). r.seq) s.arrived n (λ k d within. let high = (arrived_within s numbered k d within).high in omega arith))

  -- the item at an index is that of the number behind it
  at_index : (i : ℕ) → i < s.seq → slice_get (items_of s) i ≡ item_at s (1 + i)
  unfolding items_of
  at_index i within = told_at (item_at s) s.seq 1 i (length_items s numbered) within

  placed : (i : ℕ) → at_place (suc i) (items_of s) ≡ slice_get (items_of s) i
  placed i = elim (eqb_tells (suc i) 0) [
    | inl is ↦ absurd (omega arith)
    | inr not ↦ let e : suc i - 1 ≡ i = omega arith in rw (not.0, e) refl
  ]

  pub item_placed : (n : ℕ) → item_at s n ≡ at_place n (items_of s)
  item_placed zero = at_none
  item_placed (suc i) = elim (leb_tells (suc i) s.seq) [
    | inl low ↦
        let within = low.1 in
        let up : suc i ≡ 1 + i = omega arith in
        ap (item_at s) up ∙ sym (at_index i (omega arith)) ∙ sym (placed i)
    | inr high ↦
        let past = high.1 in
        let long = length_items s numbered in
        past_all (suc i) past ∙ sym (placed i ∙ slice_get_past (items_of s) i (omega arith))
  ]
