-- In sound records of a station no place is that of two transaction sets, and no partner's number is
-- filed twice.
use Rattle.std.proofs.Common.{◌≡◌, ◌≤◌, ◌<◌, ◌==◌, ◌&&◌, ◌++◌, ℕ, List, [], ◌∷◌, length, map, filter, flat_map, Bool, true, false, All, AllPairs, refl, sym, ap, ap₂, subst, ◌∙◌, inl, inr, arith}
use Rattle.std.specs.List.{AllByRecursion, enumerate_from, IsDistinct}
use Rattle.std.proofs.lemmas.Bool.{cases_Bool}
use Rattle.std.proofs.lemmas.Bool.Decides.{nat_tests}
use Rattle.std.proofs.lemmas.List.Elements.{filter-append}
use Rattle.x12_acks.specs.Submission.{TransactionSetKey, IsBefore}
use Rattle.x12_inbound.proofs.OrderLemmas.{same_interchange, interchange_flips}
use Rattle.x12_inbound.specs.Filing.{filed_key}
use Rattle.x12_inbound.specs.Order.{InterchangeKey, interchange, is_same_interchange}
use Rattle.x12_inbound.specs.Register.{is_under}
use Rattle.x12_numbers.proofs.Shelf.{pairs_from_map, all_append, differs_from_less, places_rise}
use Rattle.x12_outbound.specs.Entry.{InterchangeRow, GroupRow, SetRow, submission_of_entry}
use Rattle.x12_station.proofs.SeqLemmas.{all_behind, pairs_head, pairs_tail}
use Rattle.x12_station.specs.Plan.{Commit, Change, Submits, Files, Agrees, TakesNumbers, stored_after}
use Rattle.x12_station.specs.Stored.{Stored, StoredSet, StoredArrival, IsSound, entries, is_row_of, rows_of_group, rows_of_entry}
use Rattle.x12_station_records.proofs.StationSoundLemmas.{icns_rise, seqs_rise}
use Rattle.x12_station_records.specs.StationChange.{set_of, SetsOnce}
use Rattle.x12_station_records.specs.StationFinds.{FiledOnce}
use Rattle.x12_station_records.specs.StationPlan.{FitsIn}
use Rattle.x12_envelopes.specs.declared.party.Party.{Party}

-- parts by rising number, whose rows have the number of their part
module _ {X Y : Type 0} (rows : Y → List X) (tag : X → ℕ) (num : Y → ℕ) (p : X → Bool) (n : ℕ) (told : (x : X) → p x ≡ true → (tag x == n) ≡ true) (tagged : (y : Y) → AllByRecursion (λ x. tag x ≡ num y) (rows y)) where
  none_in : (m : ℕ) (xs : List X) → AllByRecursion (λ x. tag x ≡ m) xs → (m == n) ≡ false → filter p xs ≡ []
  none_in m [] h other = refl
  none_in m (x ∷ xs) h other = elim (cases_Bool (p x)) [
    | inl yes1 ↦ absurd (let e = rw (h.0, other) at (told x yes1) in cc)
    | inr no1 ↦ rw (no1, none_in m xs h.1 other) refl
  ]

  none_behind : (ys : List Y) → All (λ y. n < num y) ys → filter p (flat_map rows ys) ≡ []
  none_behind [] h = refl
  none_behind (y ∷ ys) h =
      let first : filter p (rows y) ≡ [] = none_in (num y) (rows y) (tagged y) (differs_from_less (num y) n (h 0 y (omega arith))) in
      filter-append p (rows y) (flat_map rows ys) ∙ rw (first, none_behind ys (all_behind (λ y. n < num y) (y ∷ []) ys h)) refl

  one_of_parts : ((y : Y) → length (filter p (rows y)) ≤ 1) → (ys : List Y) → AllPairs (λ a b. num a < num b) ys → length (filter p (flat_map rows ys)) ≤ 1
  one_of_parts low [] h = omega arith
  one_of_parts low (y ∷ ys) h =
      let parts = filter-append p (rows y) (flat_map rows ys) in
      elim (cases_Bool (num y == n)) [
        | inl yes1 ↦ (let same : num y ≡ n = grind (arith, nat_tests, yes1) in
            let none : filter p (flat_map rows ys) ≡ [] = none_behind ys (subst (λ k. All (λ z. k < num z) ys) same (pairs_head (λ a b. num a < num b) y ys h)) in
            subst (λ xs. length xs ≤ 1) (sym (parts ∙ rw none (append_none (filter p (rows y))))) (low y))
        | inr no1 ↦ subst (λ xs. length xs ≤ 1) (sym (parts ∙ rw (none_in (num y) (rows y) (tagged y) no1) refl)) (one_of_parts low ys (pairs_tail (λ a b. num a < num b) y ys h))
      ]
    where
      append_none : (xs : List X) → xs ++ [] ≡ xs
      append_none [] = refl
      append_none (x ∷ xs) = ap (λ more. x ∷ more) (append_none xs)

singles : {X Y : Type 0} (f : Y → X) (ys : List Y) → flat_map (λ y. f y ∷ []) ys ≡ map f ys
singles f [] = refl
singles f (y ∷ ys) = ap (λ more. f y ∷ more) (singles f ys)

one_at_most : {X : Type 0} (p : X → Bool) (x : X) → length (filter p (x ∷ [])) ≤ 1
one_at_most p x = elim (cases_Bool (p x)) [ inl yes1 ↦ rw yes1 (omega arith) | inr no1 ↦ rw no1 (omega arith) ]

all_three : (a b c : Bool) → a && b && c ≡ true → (a ≡ true) × (b ≡ true) × (c ≡ true)
all_three true true true h = (refl, refl, refl)
all_three true true false h = absurd cc
all_three true false c h = absurd cc
all_three false b c h = absurd cc

module _ (k : TransactionSetKey) where
  parts_of : (t : StoredSet) → is_row_of k t ≡ true → ((t.icn == k.icn) ≡ true) × ((t.group == k.group) ≡ true) × ((t.set == k.set) ≡ true)
  parts_of t h = all_three (t.icn == k.icn) (t.group == k.group) (t.set == k.set) h

  one_of_group : (icn : ℕ) (g : ℕ × GroupRow) → length (filter (is_row_of k) (rows_of_group icn g)) ≤ 1
  one_of_group icn g =
      let f = set_of icn g in
      subst (λ ts. length (filter (is_row_of k) ts) ≤ 1) (singles f (enumerate_from 1 g.1.sets))
      (one_of_parts (λ y. f y ∷ []) (λ (t : StoredSet). t.set) (λ (y : ℕ × SetRow). y.0) (is_row_of k) k.set (λ t h. (parts_of t h).2) (λ y. (refl, tt)) (λ y. one_at_most (is_row_of k) (f y)) (enumerate_from 1 g.1.sets) (places_rise 1 g.1.sets))

  of_group : (icn : ℕ) (g : ℕ × GroupRow) (ys : List (ℕ × SetRow)) → AllByRecursion (λ (t : StoredSet). t.group ≡ g.0) (map (set_of icn g) ys)
  of_group icn g [] = tt
  of_group icn g (y ∷ ys) = (refl, of_group icn g ys)

  one_of_groups : (icn : ℕ) (groups : List GroupRow) → length (filter (is_row_of k) (flat_map (rows_of_group icn) (enumerate_from 1 groups))) ≤ 1
  one_of_groups icn groups =
      one_of_parts (rows_of_group icn) (λ (t : StoredSet). t.group) (λ (g : ℕ × GroupRow). g.0) (is_row_of k) k.group (λ t h. (parts_of t h).1) (λ g. of_group icn g (enumerate_from 1 g.1.sets)) (one_of_group icn) (enumerate_from 1 groups) (places_rise 1 groups)

  in_group : (icn : ℕ) (g : ℕ × GroupRow) (ys : List (ℕ × SetRow)) → AllByRecursion (λ (t : StoredSet). t.icn ≡ icn) (map (set_of icn g) ys)
  in_group icn g [] = tt
  in_group icn g (y ∷ ys) = (refl, in_group icn g ys)

  in_groups : (icn : ℕ) (gs : List (ℕ × GroupRow)) → AllByRecursion (λ (t : StoredSet). t.icn ≡ icn) (flat_map (rows_of_group icn) gs)
  in_groups icn [] = tt
  in_groups icn (g ∷ gs) = all_append (λ (t : StoredSet). t.icn ≡ icn) (rows_of_group icn g) (flat_map (rows_of_group icn) gs) (in_group icn g (enumerate_from 1 g.1.sets)) (in_groups icn gs)

  one_of_entries : (es : List InterchangeRow) → AllPairs (λ (d e : InterchangeRow). d.icn < e.icn) es → length (filter (is_row_of k) (flat_map rows_of_entry es)) ≤ 1
  unfolding rows_of_entry
  one_of_entries es rise =
      one_of_parts rows_of_entry (λ (t : StoredSet). t.icn) (λ (e : InterchangeRow). e.icn) (is_row_of k) k.icn (λ t h. (parts_of t h).0) (λ e. in_groups e.icn (enumerate_from 1 e.groups)) (λ e. one_of_groups e.icn e.groups) es rise

pub sets_once : (s : Stored) → IsSound s → SetsOnce s
sets_once s h k =
    let nobody : Party = record { qualifier = []; id = [] } in
    let all = pairs_from_map (submission_of_entry nobody) IsBefore (entries s) (h.in_order nobody).before in
    subst (λ ts. length (filter (is_row_of k) ts) ≤ 1) (sym h.rows) (one_of_entries k (entries s) (λ i j d before within. (all i j d before within).interchange))

-- a plan that turns sound records into sound ones fits them
pub fits : (plan : Commit) (s : Stored) → IsSound s → IsSound (stored_after plan s) → FitsIn plan.seq plan.change s
fits plan s sound after = by plan.change refl
  where
    by : (change : Change) → plan.change ≡ change → FitsIn plan.seq change s
    by (Submits e) is = icns_rise _ (rw is at after)
    by (Files k ts) is = (seqs_rise _ (rw is at after), sets_once s sound)
    by (Agrees a) is = tt
    by TakesNumbers is = tt

-- another one is not under the number
not_under : (j key : InterchangeKey) → j ≡ key → (rs : List StoredArrival) → AllByRecursion (λ (q : StoredArrival). is_same_interchange j (filed_key q.filed) ≡ false) rs → filter (is_under key) (map (λ (r : StoredArrival). r.filed) rs) ≡ []
not_under j key same [] h = refl
not_under j key same (q ∷ rs) h =
    let other : is_under key q.filed ≡ false = interchange_flips (filed_key q.filed) key ∙ subst (λ i. is_same_interchange i (filed_key q.filed) ≡ false) same h.0 in
    rw (other, not_under j key same rs h.1) refl

one_under : (key : InterchangeKey) (rs : List StoredArrival) → IsDistinct (λ (r q : StoredArrival). is_same_interchange (filed_key r.filed) (filed_key q.filed)) rs → length (filter (is_under key) (map (λ (r : StoredArrival). r.filed) rs)) ≤ 1
unfolding IsDistinct
one_under key [] h = omega arith
one_under key (r ∷ rs) h = elim (cases_Bool (is_under key r.filed)) [
  | inl yes1 ↦ (let parts = same_interchange (filed_key r.filed) key yes1 in
      let same : filed_key r.filed ≡ key = ap₂ interchange parts.0 parts.1 in
      rw (yes1, not_under (filed_key r.filed) key same rs h.0) (omega arith))
  | inr no1 ↦ rw no1 (one_under key rs h.1)
]

pub filed_once : (s : Stored) → IsSound s → FiledOnce s
filed_once s h key = one_under key s.arrived h.filed_once
