-- A station's last numbers and its agreements, once their rows are tested.
use Rattle.std.proofs.Common.{◌≡◌, ◌<◌, ◌+◌, ◌++◌, ◌∙◌, ◌&&◌, ℕ, List, [], ◌∷◌, length, map, not, false, refl, sym, ap, ap₂, subst, inl, inr, arith, IsPermutation}
use Rattle.std.specs.Bool.{beq}
use Rattle.std.specs.List.{AllByRecursion}
use Rattle.std.proofs.lemmas.Bool.{cases_Bool, not-true}
use Rattle.sqlite.specs.Order.{Row, column}
use Rattle.sqlite_sql.specs.Ops.{is_null}
use Rattle.sql_rows.specs.Keyed.{with_id, RisesFrom, AreRows, by_key}
use Rattle.x12_judge.specs.Agreement.{TradingAgreement, is_same_party}
use Rattle.x12_numbers.proofs.Shelf.{all_weaker}
use Rattle.x12_tables.proofs.OneRowLemmas.{one_holds}
use Rattle.x12_tables.proofs.RowLemmas.{IsStored, each_passed, row_is, typed_is, long_is, blob, party, wide_party_in, kept}
use Rattle.x12_tables.proofs.StoredLemmas.{null_is}
use Rattle.x12_tables.specs.OneRow.{AreColumns, whole, IsOneRow}
use Rattle.x12_tables.specs.Party.{IsWideParty}
use Rattle.x12_station_records.proofs.StationContentLemmas.{both_same}
use Rattle.x12_station_records.specs.StationAdopt.{ArePairs, AreAgreed}
use Rattle.x12_station_records.specs.StationAgreed.{pair_shown, AreKept}
use Rattle.x12_station_records.specs.StationContent.{pair_in, pair_joined, agreements_of}
use Rattle.x12_station_records.specs.StationSchema.{numbers, agreement}
use Rattle.x12_station_records.specs.StationTables.{numbers_row, AgreedPair, IsWidePair, pair_row, agreed_pairs, pair_of, HoldsAgreements}
use Rattle.x12_station_records.specs.declared.station_numbers.NumbersRow.{NumbersRow}

-- The last numbers.
-- what is read of a row
abbrev pub show_numbers : Row → Row
show_numbers r = column r 0 ∷ column r 2 ∷ column r 3 ∷ column r 4 ∷ column r 5 ∷ column r 6 ∷ column r 7 ∷ column r 8 ∷ column r 9 ∷ column r 10 ∷ column r 11 ∷ []

-- the last column of the row isn't NULL
era_stands : (r : Row) → IsStored (numbers 0) r → is_null (column r 11) ≡ false
era_stands r h =
    let some = each_passed (not (is_null (column r 2)) ∷ not (is_null (column r 3)) ∷ not (is_null (column r 4)) ∷ not (is_null (column r 6)) ∷ not (is_null (column r 7)) ∷ not (is_null (column r 8)) ∷ not (is_null (column r 9)) ∷ not (is_null (column r 10)) ∷ not (is_null (column r 11)) ∷ []) h.1 in
    not-true (is_null (column r 11)) some.1.1.1.1.1.1.1.1.0

numbers_is : (n : NumbersRow) (r : Row) → IsStored (numbers 0) r → AreColumns (show_numbers r) 0 (whole (with_id numbers_row (1, n))) → r ≡ with_id numbers_row (1, n)
numbers_is n r h are =
    let long : length r ≡ 12 = long_is (numbers 0) 11 r h refl (era_stands r h) in
    let typed = typed_is (numbers 0) r h long in
    row_is r (with_id numbers_row (1, n)) long (are.0, (null_is (column r 1) typed.0, are.1))

pub numbers_hold : (n : NumbersRow) (tree all : List Row) → AllByRecursion (IsStored (numbers 0)) all → IsPermutation tree all → IsOneRow (whole (with_id numbers_row (1, n))) (map show_numbers all) → AreRows numbers_row ((1, n) ∷ []) tree
numbers_hold n = one_holds numbers_row n show_numbers (IsStored (numbers 0)) (numbers_is n)

-- The agreements.
abbrev pub show_pair : Row → Row
show_pair r = column r 2 ∷ column r 3 ∷ column r 5 ∷ column r 4 ∷ column r 0 ∷ []

record Pairs (last end : ℕ) (rs : List Row) : Type 0 where
  at : List (ℕ × AgreedPair)
  rows_are : rs ≡ map (with_id pair_row) at
  pairs_are : map (λ (x : ℕ × AgreedPair). x.1) at ≡ map pair_in rs
  rise : RisesFrom last at
  low : last < end + 1
  within : AllByRecursion (λ x. x.0 < end + 1) at
  wide : AllByRecursion IsWidePair (map pair_in rs)

all_pairs : (last end : ℕ) (rs : List Row) → AllByRecursion (IsStored (agreement 1)) rs → ArePairs last end (map show_pair rs) → Pairs last end rs
all_pairs last end [] stored are = record { at = []; rows_are = refl; pairs_are = refl; rise = tt; low = omega (arith, are); within = tt; wide = tt }
all_pairs last end (r ∷ rs) stored are =
    let rest = all_pairs are.0 end rs stored.1 are.2 in
    let it = are.1 in
    let h = stored.0 in
    let some = each_passed (not (is_null (column r 2)) ∷ not (is_null (column r 3)) ∷ not (is_null (column r 4)) ∷ not (is_null (column r 5)) ∷ []) h.1 in
    let long : length r ≡ 6 = long_is (agreement 1) 5 r h refl (not-true (is_null (column r 5)) some.1.1.1.0) in
    let typed = typed_is (agreement 1) r h long in
    let row : r ≡ with_id pair_row (are.0, pair_in r) =
    row_is r (with_id pair_row (are.0, pair_in r)) long (it.at_is, (null_is (column r 1) typed.0, (party (column r 2) typed.1.0 some.0, (blob (column r 3) typed.1.1.0 some.1.0, (it.lenient, (blob (column r 5) typed.1.1.1.1.0 some.1.1.1.0, tt)))))) in
    record {
      at = (are.0, pair_in r) ∷ rest.at;
      rows_are = ap₂ (λ x xs. x ∷ xs) row rest.rows_are;
      pairs_are = ap (λ ps. pair_in r ∷ ps) rest.pairs_are;
      rise = (it.above, rest.rise);
      low = omega (arith, it.above, rest.low);
      within = (rest.low, rest.within);
      wide = ((wide_party_in (column r 2) it.partner, it.functional, it.set), rest.wide);
    }

-- pairs of agreements are those that these were put together from
joined_back : (p : AgreedPair) (agreements : List TradingAgreement) → agreed_pairs (pair_joined p agreements) ≡ p ∷ agreed_pairs agreements
joined_back p [] = refl
joined_back p (a ∷ more) = elim (cases_Bool (is_same_party p.partner a.partner && beq p.lenient a.lenient)) [
  | inl yes1 ↦ (let same = both_same p.partner a.partner p.lenient a.lenient yes1 in
      rw yes1 (ap₂ (λ q l. pair_of q l (p.functional, p.set) ∷ (map (pair_of a.partner a.lenient) a.pairs ++ agreed_pairs more)) (sym same.0) (sym same.1)))
  | inr no1 ↦ rw no1 refl
]

pairs_of : (ps : List AgreedPair) → agreed_pairs (agreements_of ps) ≡ ps
pairs_of [] = refl
pairs_of (p ∷ ps) = joined_back p (agreements_of ps) ∙ ap (λ qs. p ∷ qs) (pairs_of ps)

joined_parties : (p : AgreedPair) (agreements : List TradingAgreement) → IsWideParty p.partner → AllByRecursion (λ a. IsWideParty a.partner) agreements → AllByRecursion (λ a. IsWideParty a.partner) (pair_joined p agreements)
joined_parties p [] h all = (h, tt)
joined_parties p (a ∷ more) h all = elim (cases_Bool (is_same_party p.partner a.partner && beq p.lenient a.lenient)) [
  | inl yes1 ↦ rw yes1 all
  | inr no1 ↦ rw no1 (h, all)
]

parties_of : (ps : List AgreedPair) → AllByRecursion (λ p. IsWideParty p.partner) ps → AllByRecursion (λ a. IsWideParty a.partner) (agreements_of ps)
parties_of [] h = tt
parties_of (p ∷ ps) h = joined_parties p (agreements_of ps) h.0 (parties_of ps h.1)

shown_alike : (rs : List Row) → map pair_shown (map show_pair rs) ≡ map pair_in rs
shown_alike [] = refl
shown_alike (r ∷ rs) = ap (λ ps. pair_in r ∷ ps) (shown_alike rs)

-- tested rows are those of the agreements that the table stands for
pub agreements_hold : (next : ℕ) (tree all rows : List Row) → AllByRecursion (IsStored (agreement 1)) all → IsPermutation tree all → rows ≡ map show_pair all → AreAgreed next rows
    → HoldsAgreements next (agreements_of (map pair_in (by_key tree))) tree × AreKept (agreements_of (map pair_in (by_key tree)))
agreements_hold next tree all rows stored moved is are =
    let p = all_pairs 0 are.last all stored (subst (ArePairs 0 are.last) is are.pairs) in
    let held = kept pair_row p.at tree all moved p.rows_are p.rise in
    let same : map pair_in (by_key tree) ≡ map pair_in all = ap (map pair_in) held.1 in
    let wide : AllByRecursion IsWidePair (map pair_in (by_key tree)) = subst (AllByRecursion IsWidePair) (sym same) p.wide in
    let high : are.last + 1 ≡ next = sym are.next_is in (
      record {
        at = p.at;
        are = held.0;
        counted = omega (arith, are.next_is);
        few = are.few;
        within = subst (λ n. AllByRecursion (λ x. x.0 < n) p.at) high p.within;
        pairs_are = p.pairs_are ∙ sym same ∙ sym (pairs_of (map pair_in (by_key tree)));
        parties = parties_of (map pair_in (by_key tree)) (all_weaker IsWidePair (λ q. IsWideParty q.partner) (map pair_in (by_key tree)) (λ q h. h.0) wide);
        wide = subst (AllByRecursion IsWidePair) (sym (pairs_of (map pair_in (by_key tree)))) wide;
      },
      subst (λ ps. AreKept (agreements_of ps)) (ap (map pair_shown) is ∙ shown_alike all ∙ sym same) are.kept,
    )
