-- A station's submissions and their transaction sets, once their rows are tested.
use Rattle.std.proofs.Common.{◌≡◌, ◌<◌, ◌≤◌, ◌+◌, ◌∙◌, ℕ, pos, List, [], ◌∷◌, length, map, not, All, AllPairs, refl, sym, ap, ap₂, subst, arith, IsPermutation}
use Rattle.std.specs.List.{AllByRecursion, enumerate_from}
use Rattle.std.proofs.lemmas.List.Elements.{All-cons, All-nil}
use Rattle.sqlite.specs.declared.types.Value.TheVariants.{Int}
use Rattle.sqlite.specs.Order.{Row, column}
use Rattle.sqlite_sql.specs.Ops.{is_null}
use Rattle.sql_rows.specs.Keyed.{with_id, number_in, key_in, RisesFrom, AreRows, by_key}
use Rattle.sql_rows.proofs.Sorted.{Rises}
use Rattle.x12_numbers.specs.Book.{Numbers}
use Rattle.x12_station.specs.Stored.{StoredSubmission, StoredSet}
use Rattle.std.proofs.lemmas.Bool.{not-true}
use Rattle.x12_tables.proofs.RowLemmas.{row_is, blob, IsStored, typed_is, party, long_is, each_passed, wide_party_in, pairs_rise, kept, places}
use Rattle.x12_tables.proofs.StoredLemmas.{null_is}
use Rattle.x12_tables.specs.Party.{IsWideParty}
use Rattle.x12_station_records.specs.StationAdopt.{AreSubmissions, IsSetRow, AreSetRows, set_read, AreOfAll}
use Rattle.x12_station_records.specs.StationContent.{submission_in, set_in}
use Rattle.x12_station_records.specs.StationSchema.{outbound, outset}
use Rattle.x12_station_records.specs.StationTables.{by_icn, submission_row, HoldsSubmissions, row_of_set, IsWideSet}

-- The submissions.
-- what is read of a row
abbrev pub show_submission : Row → Row
show_submission r = column r 0 ∷ column r 2 ∷ column r 3 ∷ []

abbrev pub both_numbers : StoredSubmission → ℕ × ℕ
both_numbers r = (r.icn, r.seq)

record Submissions (book : Numbers) (last : ℕ × ℕ) (xs : List (ℕ × ℕ)) (rs : List Row) : Type 0 where
  rows_are : rs ≡ map (with_id submission_row) (map by_icn (map submission_in rs))
  numbers : map both_numbers (map submission_in rs) ≡ xs
  keys : RisesFrom last.0 (map by_icn (map submission_in rs))
  icns : Rises (λ (r : StoredSubmission). r.icn) last.0 (map submission_in rs)
  seqs : Rises (λ (r : StoredSubmission). r.seq) last.1 (map submission_in rs)
  used : All (λ (r : StoredSubmission). r.icn ≤ book.interchange) (map submission_in rs)
  parties : AllByRecursion (λ (r : StoredSubmission). IsWideParty r.receiver) (map submission_in rs)
  numbered : AllByRecursion (λ (r : StoredSubmission). 0 < r.icn) (map submission_in rs)

all_sent : (book : Numbers) (last : ℕ × ℕ) (xs : List (ℕ × ℕ)) (rs : List Row) → AllByRecursion (IsStored (outbound 3)) rs → AreSubmissions book last xs (map show_submission rs) → Submissions book last xs rs
all_sent book last [] [] stored are = record { rows_are = refl; numbers = refl; keys = tt; icns = tt; seqs = tt; used = All-nil (λ (r : StoredSubmission). r.icn ≤ book.interchange); parties = tt; numbered = tt }
all_sent book last (x ∷ xs) [] stored are = absurd are
all_sent book last [] (r ∷ rs) stored are = absurd are
all_sent book last (x ∷ xs) (r ∷ rs) stored are =
    let rest = all_sent book x xs rs stored.1 are.1 in
    let it = are.0 in
    let h = stored.0 in
    let some = each_passed (not (is_null (column r 2)) ∷ not (is_null (column r 3)) ∷ not (is_null (column r 4)) ∷ []) h.1 in
    let long : length r ≡ 5 = long_is (outbound 3) 4 r h refl (not-true (is_null (column r 4)) some.1.1.0) in
    let typed = typed_is (outbound 3) r h long in
    let icn : key_in r ≡ x.0 = ap number_in it.icn_is in
    let seq : number_in (column r 2) ≡ x.1 = ap number_in it.seq_is in
    let row : r ≡ with_id submission_row (by_icn (submission_in r)) =
    row_is r (with_id submission_row (by_icn (submission_in r))) long
    (it.icn_is ∙ ap (λ n. Int (pos n)) (sym icn), (null_is (column r 1) typed.0, (it.seq_is ∙ ap (λ n. Int (pos n)) (sym seq), (party (column r 3) typed.1.1.0 some.1.0, (blob (column r 4) typed.1.1.1.0 some.1.1.0, tt))))) in
    record {
      rows_are = ap₂ (λ y ys. y ∷ ys) row rest.rows_are;
      numbers = ap₂ (λ y ys. y ∷ ys) (pair (key_in r) (number_in (column r 2)) x icn seq) rest.numbers;
      keys = (omega (arith, icn, it.icn_above), subst (λ n. RisesFrom n (map by_icn (map submission_in rs))) (sym icn) rest.keys);
      icns = (omega (arith, icn, it.icn_above), subst (λ n. Rises (λ (r : StoredSubmission). r.icn) n (map submission_in rs)) (sym icn) rest.icns);
      seqs = (omega (arith, seq, it.seq_above), subst (λ n. Rises (λ (r : StoredSubmission). r.seq) n (map submission_in rs)) (sym seq) rest.seqs);
      used = All-cons (λ (r : StoredSubmission). r.icn ≤ book.interchange) (submission_in r) (map submission_in rs) (omega (arith, icn, it.used)) rest.used;
      parties = (wide_party_in (column r 3) it.receiver, rest.parties);
      numbered = (omega (arith, icn, it.icn_above), rest.numbered);
    }
  where
    pair : (a b : ℕ) (x : ℕ × ℕ) → a ≡ x.0 → b ≡ x.1 → ◌≡◌ {A = ℕ × ℕ} (a, b) x
    pair a b x is_a is_b = rw (is_a, is_b) refl

-- what the table stands for, and what it has
pub record Sent (book : Numbers) (xs : List (ℕ × ℕ)) (tree : List Row) (rs : List StoredSubmission) : Type 0 where
  pub holds : HoldsSubmissions rs tree
  pub rise : AllPairs (λ r q. r.seq < q.seq) rs
  pub used : All (λ r. r.icn ≤ book.interchange) rs
  pub numbers : map both_numbers rs ≡ xs

-- tested rows are those of the submissions that the table stands for
pub submissions_hold : (book : Numbers) (xs : List (ℕ × ℕ)) (tree all rows : List Row) → AllByRecursion (IsStored (outbound 3)) all → IsPermutation tree all → rows ≡ map show_submission all
    → AreSubmissions book (0, 0) xs rows → Sent book xs tree (map submission_in (by_key tree))
submissions_hold book xs tree all rows stored moved is are =
    let s = all_sent book (0, 0) xs all stored (subst (AreSubmissions book (0, 0) xs) is are) in
    let rs = map submission_in all in
    let held = kept submission_row (map by_icn rs) tree all moved s.rows_are s.keys in
    subst (Sent book xs tree) (sym (ap (map submission_in) held.1)) (record {
      holds = record { same = held.0.same; rise = pairs_rise (λ (r : StoredSubmission). r.icn) 0 rs s.icns; numbered = s.numbered; parties = s.parties };
      rise = pairs_rise (λ (r : StoredSubmission). r.seq) 0 rs s.seqs;
      used = s.used;
      numbers = s.numbers;
    })

-- The transaction sets.
abbrev pub show_set : Row → Row
show_set r = column r 3 ∷ column r 4 ∷ column r 6 ∷ column r 5 ∷ column r 7 ∷ column r 8 ∷ column r 2 ∷ column r 0 ∷ []

set_is : (n : ℕ) (r : Row) → IsStored (outset 4) r → IsSetRow n (show_set r) → r ≡ with_id row_of_set (n, set_in r)
set_is n r h it =
    let some = each_passed (not (is_null (column r 2)) ∷ not (is_null (column r 3)) ∷ not (is_null (column r 4)) ∷ not (is_null (column r 5)) ∷ not (is_null (column r 6)) ∷ not (is_null (column r 7)) ∷ not (is_null (column r 8)) ∷ []) h.1 in
    let long : length r ≡ 9 = long_is (outset 4) 8 r h refl (not-true (is_null (column r 8)) some.1.1.1.1.1.1.0) in
    let typed = typed_is (outset 4) r h long in
    row_is r (with_id row_of_set (n, set_in r)) long
    (it.at_is, (null_is (column r 1) typed.0, (it.icn.0, (it.group.0, (it.place.0, (it.gcn.0, (blob (column r 6) typed.1.1.1.1.1.0 some.1.1.1.1.0, (blob (column r 7) typed.1.1.1.1.1.1.0 some.1.1.1.1.1.0, (it.fate, tt)))))))))

record Sets (n next : ℕ) (rs : List Row) : Type 0 where
  rows_are : rs ≡ map (with_id row_of_set) (enumerate_from n (map set_in rs))
  next_is : next ≡ n + length (map set_in rs)
  wide : AllByRecursion IsWideSet (map set_in rs)

all_sets : (n next : ℕ) (rs : List Row) → AllByRecursion (IsStored (outset 4)) rs → AreSetRows n next (map show_set rs) → Sets n next rs
all_sets n next [] stored are = record { rows_are = refl; next_is = omega (arith, are); wide = tt }
all_sets n next (r ∷ rs) stored are =
    let rest = all_sets (n + 1) next rs stored.1 are.1 in
    record { rows_are = ap₂ (λ x xs. x ∷ xs) (set_is n r stored.0 are.0) rest.rows_are; next_is = omega (arith, rest.next_is); wide = (record { functional = are.0.functional; number = are.0.number }, rest.wide) }

read_alike : (rs : List Row) → map set_read (map show_set rs) ≡ map set_in rs
read_alike [] = refl
read_alike (r ∷ rs) = ap (λ ts. set_in r ∷ ts) (read_alike rs)

pub record Entered (book : Numbers) (icns : List ℕ) (next : ℕ) (tree : List Row) (ts : List StoredSet) : Type 0 where
  pub rows : AreRows row_of_set (enumerate_from 1 ts) tree
  pub next_is : next ≡ 1 + length ts
  pub wide : AllByRecursion IsWideSet ts
  pub are : AreOfAll book 0 icns ts

-- tested rows are those of the transaction sets that the table stands for
pub sets_hold : (book : Numbers) (icns : List ℕ) (next : ℕ) (tree all rows : List Row) → AllByRecursion (IsStored (outset 4)) all → IsPermutation tree all → rows ≡ map show_set all
    → AreSetRows 1 next rows → AreOfAll book 0 icns (map set_read rows) → Entered book icns next tree (map set_in (by_key tree))
sets_hold book icns next tree all rows stored moved is are of_all =
    let s = all_sets 1 next all stored (subst (AreSetRows 1 next) is are) in
    let ts = map set_in all in
    let held = kept row_of_set (enumerate_from 1 ts) tree all moved s.rows_are (places ts) in
    subst (Entered book icns next tree) (sym (ap (map set_in) held.1)) (record {
      rows = held.0;
      next_is = s.next_is;
      wide = s.wide;
      are = subst (AreOfAll book 0 icns) (ap (map set_read) is ∙ read_alike all) of_all;
    })
