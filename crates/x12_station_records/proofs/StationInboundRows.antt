-- A station's first arrivals and postings, once their rows are tested.
use Rattle.std.proofs.Common.{◌≡◌, ◌<◌, ◌≤◌, ◌+◌, ◌^◌, ◌∙◌, ℕ, pos, true, List, [], ◌∷◌, length, map, not, AllPairs, refl, sym, ap, ap₂, subst, arith, IsPermutation}
use Rattle.std.specs.List.{AllByRecursion, enumerate_from}
use Rattle.sqlite.specs.declared.types.Value.{Value}
use Rattle.sqlite.specs.declared.types.Value.TheVariants.{Null, Int, Real, Text, Blob}
use Rattle.sqlite.specs.Order.{Row, column}
use Rattle.sqlite_schema.specs.Rules.{is_of}
use Rattle.sqlite_sql.specs.Ops.{is_null}
use Rattle.sql_rows.specs.Keyed.{with_id, number_in, key_in, RisesFrom, by_key}
use Rattle.sql_rows.proofs.Sorted.{Rises}
use Rattle.x12_acks.specs.Accepted.{AcceptedSet}
use Rattle.x12_station.specs.Stored.{StoredArrival}
use Rattle.std.proofs.lemmas.Bool.{not-true}
use Rattle.sqlite.specs.Kind.TheVariants as kind
use Rattle.x12_tables.proofs.RowLemmas.{row_is, blob, IsStored, typed_is, party, long_is, each_passed, wide_party_in, pairs_rise, kept, places}
use Rattle.x12_tables.proofs.StoredLemmas.{null_is}
use Rattle.x12_tables.specs.Party.{IsWideParty}
use Rattle.x12_station_records.specs.StationAdopt.{AreArrivals, IsPosting, ArePostings}
use Rattle.x12_station_records.specs.StationContent.{reply_in, arrival_in, posting_in}
use Rattle.x12_station_records.specs.StationSchema.{inbound, posting}
use Rattle.x12_station_records.specs.StationTables.{reply_value, arrival_row, by_seq, HoldsArrivals, posting_row, IsWidePosting, HoldsPostings}

-- The first arrivals.
-- what is read of a row
abbrev pub show_arrival : Row → Row
show_arrival r = column r 0 ∷ column r 2 ∷ column r 3 ∷ []

-- a reply is there, or none was due
reply_is : (v : Value) → is_of kind.Blob v ≡ true → v ≡ reply_value (reply_in v)
reply_is Null typed = refl
reply_is (Int n) typed = absurd cc
reply_is (Real x) typed = absurd cc
reply_is (Text t) typed = absurd cc
reply_is (Blob b) typed = refl

record Arrivals (last : ℕ) (seqs : List ℕ) (rs : List Row) : Type 0 where
  rows_are : rs ≡ map (with_id arrival_row) (map by_seq (map arrival_in rs))
  numbers : map (λ (r : StoredArrival). r.seq) (map arrival_in rs) ≡ seqs
  keys : RisesFrom last (map by_seq (map arrival_in rs))
  rise : Rises (λ (r : StoredArrival). r.seq) last (map arrival_in rs)
  parties : AllByRecursion (λ (r : StoredArrival). IsWideParty r.filed.partner) (map arrival_in rs)
  narrow : AllByRecursion (λ (r : StoredArrival). r.filed.icn < 2 ^ 32) (map arrival_in rs)

all_arrived : (last : ℕ) (seqs : List ℕ) (rs : List Row) → AllByRecursion (IsStored (inbound 6)) rs → AreArrivals last seqs (map show_arrival rs) → Arrivals last seqs rs
all_arrived last [] [] stored are = record { rows_are = refl; numbers = refl; keys = tt; rise = tt; parties = tt; narrow = tt }
all_arrived last (x ∷ xs) [] stored are = absurd are
all_arrived last [] (r ∷ rs) stored are = absurd are
all_arrived last (x ∷ xs) (r ∷ rs) stored are =
    let rest = all_arrived x xs rs stored.1 are.1 in
    let it = are.0 in
    let h = stored.0 in
    let some = each_passed (not (is_null (column r 2)) ∷ not (is_null (column r 3)) ∷ not (is_null (column r 5)) ∷ []) h.1 in
    let long : length r ≡ 6 = long_is (inbound 6) 5 r h refl (not-true (is_null (column r 5)) some.1.1.0) in
    let typed = typed_is (inbound 6) r h long in
    let seq : key_in r ≡ x = ap number_in it.seq_is in
    let row : r ≡ with_id arrival_row (by_seq (arrival_in r)) =
    row_is r (with_id arrival_row (by_seq (arrival_in r))) long
    (it.seq_is ∙ ap (λ n. Int (pos n)) (sym seq), (null_is (column r 1) typed.0, (party (column r 2) typed.1.0 some.0, (it.icn.0, (reply_is (column r 4) typed.1.1.1.0, (blob (column r 5) typed.1.1.1.1.0 some.1.1.0, tt)))))) in
    record {
      rows_are = ap₂ (λ y ys. y ∷ ys) row rest.rows_are;
      numbers = ap₂ (λ y ys. y ∷ ys) seq rest.numbers;
      keys = (omega (arith, seq, it.above), subst (λ n. RisesFrom n (map by_seq (map arrival_in rs))) (sym seq) rest.keys);
      rise = (omega (arith, seq, it.above), subst (λ n. Rises (λ (r : StoredArrival). r.seq) n (map arrival_in rs)) (sym seq) rest.rise);
      parties = (wide_party_in (column r 2) it.partner, rest.parties);
      narrow = (it.icn.1, rest.narrow);
    }

pub record Arrived (seqs : List ℕ) (tree : List Row) (rs : List StoredArrival) : Type 0 where
  pub holds : HoldsArrivals rs tree
  pub rise : AllPairs (λ r q. r.seq < q.seq) rs
  pub seqs_are : map (λ (r : StoredArrival). r.seq) rs ≡ seqs

-- tested rows are those of the first arrivals that the table stands for
pub arrivals_hold : (seqs : List ℕ) (tree all rows : List Row) → AllByRecursion (IsStored (inbound 6)) all → IsPermutation tree all → rows ≡ map show_arrival all → AreArrivals 0 seqs rows
    → Arrived seqs tree (map arrival_in (by_key tree))
arrivals_hold seqs tree all rows stored moved is are =
    let a = all_arrived 0 seqs all stored (subst (AreArrivals 0 seqs) is are) in
    let rs = map arrival_in all in
    let held = kept arrival_row (map by_seq rs) tree all moved a.rows_are a.keys in
    subst (Arrived seqs tree) (sym (ap (map arrival_in) held.1)) (record {
      holds = record { are = held.0; parties = a.parties; narrow = a.narrow };
      rise = pairs_rise (λ (r : StoredArrival). r.seq) 0 rs a.rise;
      seqs_are = a.numbers;
    })

-- The postings.
abbrev pub show_posting : Row → Row
show_posting r = column r 2 ∷ column r 3 ∷ column r 4 ∷ column r 5 ∷ column r 6 ∷ column r 7 ∷ column r 8 ∷ column r 0 ∷ []

posting_is : (n : ℕ) (r : Row) → IsStored (posting 8) r → IsPosting n (show_posting r) → r ≡ with_id posting_row (n, posting_in r)
posting_is n r h it =
    let some = each_passed (not (is_null (column r 2)) ∷ not (is_null (column r 3)) ∷ not (is_null (column r 4)) ∷ not (is_null (column r 5)) ∷ not (is_null (column r 6)) ∷ not (is_null (column r 7)) ∷ not (is_null (column r 8)) ∷ not (is_null (column r 9)) ∷ []) h.1 in
    let long : length r ≡ 10 = long_is (posting 8) 9 r h refl (not-true (is_null (column r 9)) some.1.1.1.1.1.1.1.0) in
    let typed = typed_is (posting 8) r h long in
    row_is r (with_id posting_row (n, posting_in r)) long
    (it.at_is, (null_is (column r 1) typed.0, (party (column r 2) typed.1.0 some.0, (it.icn.0, (it.group.0, (it.place.0, (blob (column r 6) typed.1.1.1.1.1.0 some.1.1.1.1.0, (blob (column r 7) typed.1.1.1.1.1.1.0 some.1.1.1.1.1.0, (blob (column r 8) typed.1.1.1.1.1.1.1.0 some.1.1.1.1.1.1.0, (blob (column r 9) typed.1.1.1.1.1.1.1.1.0 some.1.1.1.1.1.1.1.0, tt))))))))))

record Postings (n next : ℕ) (rs : List Row) : Type 0 where
  rows_are : rs ≡ map (with_id posting_row) (enumerate_from n (map posting_in rs))
  next_is : next ≡ n + length (map posting_in rs)
  parties : AllByRecursion (λ (p : AcceptedSet). IsWideParty p.key.sender) (map posting_in rs)
  wide : AllByRecursion IsWidePosting (map posting_in rs)

all_posted : (n next : ℕ) (rs : List Row) → AllByRecursion (IsStored (posting 8)) rs → ArePostings n next (map show_posting rs) → Postings n next rs
all_posted n next [] stored are = record { rows_are = refl; next_is = omega (arith, are); parties = tt; wide = tt }
all_posted n next (r ∷ rs) stored are =
    let rest = all_posted (n + 1) next rs stored.1 are.1 in
    record {
      rows_are = ap₂ (λ x xs. x ∷ xs) (posting_is n r stored.0 are.0) rest.rows_are;
      next_is = omega (arith, rest.next_is);
      parties = (wide_party_in (column r 2) are.0.partner, rest.parties);
      wide = (record { icn = are.0.icn.1; places = (are.0.group.1, are.0.place.1); codes = (are.0.functional, are.0.set); number = are.0.number }, rest.wide);
    }

pub record Posted (next : ℕ) (tree : List Row) (ps : List AcceptedSet) : Type 0 where
  pub holds : HoldsPostings ps tree
  pub next_is : next ≡ 1 + length ps

-- tested rows are those of the postings that the table stands for
pub postings_hold : (next : ℕ) (tree all rows : List Row) → AllByRecursion (IsStored (posting 8)) all → IsPermutation tree all → rows ≡ map show_posting all → ArePostings 1 next rows → next ≤ 2 ^ 63
    → Posted next tree (map posting_in (by_key tree))
postings_hold next tree all rows stored moved is are few =
    let p = all_posted 1 next all stored (subst (ArePostings 1 next) is are) in
    let ps = map posting_in all in
    let held = kept posting_row (enumerate_from 1 ps) tree all moved p.rows_are (places ps) in
    subst (Posted next tree) (sym (ap (map posting_in) held.1)) (record { holds = record { are = held.0; few = omega (arith, few, p.next_is); parties = p.parties; wide = p.wide }; next_is = p.next_is })
