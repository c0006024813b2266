-- One step after the other through a station's rows.
use Rattle.std.proofs.Common.{◌≡◌, ◌<◌, ◌+◌, ◌-◌, ◌++◌, ◌∙◌, ℕ, zero, suc, true, max, List, [], ◌∷◌, length, get_or, map, take, drop, refl, sym, ap, ap₂, subst, arith, IsPermutation}
use Rattle.std.specs.List.{AllByRecursion, range_with_len}
use Rattle.std.proofs.lemmas.List.Sorted.{IsPermutation-sym, IsPermutation-trans, IsPermutation-cons, IsPermutation-middle}
use Rattle.sqlite.specs.Order.{Row, column}
use Rattle.sql_rows.specs.Keyed.{number_in}
use Rattle.x12_numbers.specs.Book.{Numbers}
use Rattle.x12_station.specs.Closed.{above_groups}
use Rattle.x12_outbound.specs.Entry.{GroupRow}
use Rattle.x12_station_records.specs.StationAdopt.{set_read, AreOfOne, AreOfAll}
use Rattle.x12_station_records.specs.StationGroups.{set_shown, AreWhole, AreSendable, rows_of_groups}
use Rattle.x12_station_records.specs.StationOpen.{are_between}

module _ {X : Type 0} where
  pub left_next : (i : ℕ) (xs : List X) (d : X) → i < length xs → drop i xs ≡ get_or xs i d ∷ drop (i + 1) xs
  left_next i [] d low = absurd (omega (arith, low))
  left_next zero (x ∷ xs) d low = refl
  left_next (suc i) (x ∷ xs) d low = let e : suc i + 1 ≡ suc (i + 1) = omega arith in rw e (left_next i xs d (omega (arith, low)))

module _ {X Y : Type 0} (f : X → Y) where
  pub taken : (n : ℕ) (xs : List X) → map f (take n xs) ≡ take n (map f xs)
  taken zero [] = refl
  taken zero (x ∷ xs) = refl
  taken (suc n) [] = refl
  taken (suc n) (x ∷ xs) = ap (λ ys. f x ∷ ys) (taken n xs)

  pub dropped : (n : ℕ) (xs : List X) → map f (drop n xs) ≡ drop n (map f xs)
  dropped zero [] = refl
  dropped zero (x ∷ xs) = refl
  dropped (suc n) [] = refl
  dropped (suc n) (x ∷ xs) = dropped n xs

-- rows of one submission
pub own_sets : (icn : ℕ) (rows : List Row) → AllByRecursion (λ r. number_in (column r 6) ≡ icn) rows → map (set_shown icn) rows ≡ map set_read rows
own_sets icn [] own = refl
own_sets icn (r ∷ rows) own = ap₂ (λ t ts. t ∷ ts) (ap (λ n. set_shown n r) (sym own.0)) (own_sets icn rows own.1)

pub one_sent : (book : Numbers) (icn least next : ℕ) (rows : List Row) (groups : List GroupRow) → AllByRecursion (λ r. number_in (column r 6) ≡ icn) rows → ((n : ℕ) → rows_of_groups n groups ≡ map (set_shown n) rows) → AreWhole groups
    → AreSendable groups → are_between least book.group groups ≡ true → next ≡ max least (above_groups groups) → AreOfOne book icn least next (map set_read rows)
one_sent book icn least next rows groups own put whole can used is = record {
  groups = groups;
  rows_are = put icn ∙ own_sets icn rows own;
  whole = whole;
  sendable = can;
  used = used;
  next_is = is;
}

abbrev icns_of : List (ℕ × ℕ) → List ℕ
icns_of xs = map (λ (x : ℕ × ℕ). x.0) xs

-- one submission more
pub sent_next : (book : Numbers) (least next n i : ℕ) (sent : List (ℕ × ℕ)) (d : ℕ × ℕ) (rest behind : List Row) (Goal : Type 0) → i < length sent → behind ≡ drop n rest → AreOfOne book (get_or sent i d).0 least next (map set_read (take n rest))
    → (AreOfAll book least (icns_of (drop i sent)) (map set_read rest) → Goal) → AreOfAll book next (icns_of (drop (i + 1) sent)) (map set_read behind) → Goal
sent_next book least next n i sent d rest behind Goal low is one so_far left =
    let all : AreOfAll book least ((get_or sent i d).0 ∷ icns_of (drop (i + 1) sent)) (map set_read rest) = (
      n,
      next,
      subst (AreOfOne book (get_or sent i d).0 least next) (taken set_read n rest) one,
      subst (AreOfAll book next (icns_of (drop (i + 1) sent))) (ap (map set_read) is ∙ dropped set_read n rest) left,
    ) in
    so_far (subst (λ xs. AreOfAll book least (icns_of xs) (map set_read rest)) (sym (left_next i sent d low)) all)

-- one number more
abbrev seqs_of : List (ℕ × ℕ) → List ℕ
seqs_of xs = map (λ (x : ℕ × ℕ). x.1) xs

pub first_arrived : (number : ℕ) (sent : List (ℕ × ℕ)) (arrived rest : List ℕ) → arrived ≡ number ∷ rest → IsPermutation (number ∷ (seqs_of sent ++ rest)) (seqs_of sent ++ arrived)
first_arrived number sent arrived rest is = subst (λ xs. IsPermutation (number ∷ (seqs_of sent ++ rest)) (seqs_of sent ++ xs)) (sym is) (IsPermutation-sym _ _ (IsPermutation-middle (seqs_of sent) number rest))

pub order_next : (last count : ℕ) (xs ys : List ℕ) (Goal : Type 0) → count < last → IsPermutation ((count + 1) ∷ ys) xs → (IsPermutation (range_with_len (count + 1) (last - count)) xs → Goal)
    → IsPermutation (range_with_len (count + 1 + 1) (last - (count + 1))) ys → Goal
order_next last count xs ys Goal low moved so_far left =
    let more : last - count ≡ suc (last - (count + 1)) = omega (arith, low) in
    let all : IsPermutation (range_with_len (count + 1) (suc (last - (count + 1)))) xs = IsPermutation-trans _ _ _ (IsPermutation-cons (count + 1) _ _ left) moved in
    so_far (subst (λ n. IsPermutation (range_with_len (count + 1) n) xs) (sym more) all)
