-- The rows of transaction sets are taken submission by submission.
use Rattle.std.proofs.Common.{◌≡◌, ◌≢◌, ◌<◌, ◌+◌, ◌++◌, ◌∙◌, All, ℕ, zero, suc, max, List, [], ◌∷◌, length, map, take, drop, flat_map, refl, sym, ap, subst, arith}
use Rattle.std.specs.List.{AllByRecursion, enumerate_from}
use Rattle.std.proofs.lemmas.List.Elements.{All-head}
use Rattle.sqlite.specs.Order.{Row, column}
use Rattle.sql_rows.specs.Keyed.{number_in}
use Rattle.x12_numbers.specs.Book.{Numbers}
use Rattle.x12_outbound.specs.Entry.{GroupRow, SetRow, InterchangeRow}
use Rattle.x12_station.specs.Closed.{above_groups}
use Rattle.x12_station.specs.Stored.{StoredSet, rows_of_group, rows_of_entry, groups_of_rows}
use Rattle.x12_station.proofs.EntryLemmas.{groups_back}
use Rattle.x12_station_records.proofs.StationGroupLemmas.{row_in}
use Rattle.x12_station_records.proofs.StationGroupsTaken.{whole_stand, stand_shown}
use Rattle.x12_station_records.proofs.StationStepLemmas.{own_sets, dropped, taken}
use Rattle.x12_station_records.specs.StationAdopt.{set_read, AreOfOne, AreOfAll}
use Rattle.x12_station_records.specs.StationGroups.{AreWhole, rows_of_groups, StandBehind, no_set, set_shown}
use Rattle.x12_station_records.specs.StationTaken.{AreRowsOfOne, AreGroupRows, IsOther, BeginWithOne, HasSetRow, AreAbove, AreRowsOfAll}

-- groups of the same rows are the same
only_groups : (icn : ℕ) (gs hs : List GroupRow) → AreWhole gs → AreWhole hs → rows_of_groups icn gs ≡ rows_of_groups icn hs → gs ≡ hs
unfolding rows_of_entry
only_groups icn gs hs one two same =
    let entry : List GroupRow → InterchangeRow = λ groups. record { icn = icn; receiver = record { qualifier = []; id = [] }; bytes = []; groups = groups } in
    sym (groups_back (entry gs) (record { laid = one.laid; sets = one.sets })) ∙ ap groups_of_rows same ∙ groups_back (entry hs) (record { laid = two.laid; sets = two.sets })

-- the rows of one submission are those of groups
pub one_stands : (book : Numbers) (icn least : ℕ) (rows : List Row) → AllByRecursion (λ r. number_in (column r 6) ≡ icn) rows → AreRowsOfOne book icn least rows → AreGroupRows rows
one_stands book icn least rows own h = record {
  wide = h.wide;
  stand = stand_shown icn rows no_set no_set refl (subst (StandBehind no_set) (h.one.rows_are ∙ sym (own_sets icn rows own)) (whole_stand icn h.one.groups h.one.whole));
}

-- the groups that were put together are those of the rows
pub put_groups : (book : Numbers) (icn least : ℕ) (rows : List Row) (gs : List GroupRow) → AllByRecursion (λ r. number_in (column r 6) ≡ icn) rows → ((n : ℕ) → rows_of_groups n gs ≡ map (set_shown n) rows) → AreWhole gs → (h : AreRowsOfOne book icn least rows)
    → h.one.groups ≡ gs
put_groups book icn least rows gs own put whole h = only_groups icn h.one.groups gs h.one.whole whole (h.one.rows_are ∙ sym (own_sets icn rows own) ∙ sym (put icn))

-- Where the rows of one submission end.
sets_own : (icn n : ℕ) (g : GroupRow) (at : ℕ) (ts : List SetRow) (more : List StoredSet) → AllByRecursion (λ t. t.icn ≡ icn) more → AllByRecursion (λ (t : StoredSet). t.icn ≡ icn) (map (row_in icn n g) (enumerate_from at ts) ++ more)
sets_own icn n g at [] more own = own
sets_own icn n g at (t ∷ ts) more own = (refl, sets_own icn n g (at + 1) ts more own)

groups_own : (icn n : ℕ) (gs : List GroupRow) → AllByRecursion (λ (t : StoredSet). t.icn ≡ icn) (flat_map (rows_of_group icn) (enumerate_from n gs))
groups_own icn n [] = tt
groups_own icn n (g ∷ gs) = sets_own icn n g 1 g.sets (flat_map (rows_of_group icn) (enumerate_from (n + 1) gs)) (groups_own icn (n + 1) gs)

read_own : (icn : ℕ) (rows : List Row) → AllByRecursion (λ (t : StoredSet). t.icn ≡ icn) (map set_read rows) → AllByRecursion (λ r. number_in (column r 6) ≡ icn) rows
read_own icn [] own = tt
read_own icn (r ∷ rows) own = (own.0, read_own icn rows own.1)

one_own : (book : Numbers) (icn least next : ℕ) (rows : List Row) → AreOfOne book icn least next (map set_read rows) → AllByRecursion (λ r. number_in (column r 6) ≡ icn) rows
one_own book icn least next rows one = read_own icn rows (subst (AllByRecursion (λ (t : StoredSet). t.icn ≡ icn)) one.rows_are (groups_own icn 1 one.groups))

same_front : (icn : ℕ) (rows : List Row) (n m : ℕ) → AllByRecursion (λ r. number_in (column r 6) ≡ icn) (take n rows) → IsOther icn (drop n rows) → AllByRecursion (λ r. number_in (column r 6) ≡ icn) (take m rows) → IsOther icn (drop m rows)
    → (take n rows ≡ take m rows) × (drop n rows ≡ drop m rows)
same_front icn [] zero zero a b c d = (refl, refl)
same_front icn [] zero (suc m) a b c d = (refl, refl)
same_front icn [] (suc n) zero a b c d = (refl, refl)
same_front icn [] (suc n) (suc m) a b c d = (refl, refl)
same_front icn (r ∷ rows) zero zero a b c d = (refl, refl)
same_front icn (r ∷ rows) zero (suc m) a b c d = absurd (b c.0)
same_front icn (r ∷ rows) (suc n) zero a b c d = absurd (d a.0)
same_front icn (r ∷ rows) (suc n) (suc m) a b c d = let rest = same_front icn rows n m a.1 b c.1 d in (ap (λ rs. r ∷ rs) rest.0, rest.1)

-- two counts of the rows of one submission cut them alike
begins_alike : (book : Numbers) (icn least n next : ℕ) (rows : List Row) (m : ℕ) → BeginWithOne book icn least n next rows → AllByRecursion (λ r. number_in (column r 6) ≡ icn) (take m rows) → IsOther icn (drop m rows)
    → (take n rows ≡ take m rows) × (drop n rows ≡ drop m rows)
begins_alike book icn least n next rows m begins own other = same_front icn rows n m (one_own book icn least next (take n rows) begins.one) begins.other own other

front_of : {X : Type 0} (P : X → Type 0) (n : ℕ) (xs : List X) → AllByRecursion P xs → AllByRecursion P (take n xs) × AllByRecursion P (drop n xs)
front_of P zero [] all = (tt, tt)
front_of P (suc n) [] all = (tt, tt)
front_of P zero (x ∷ xs) all = (tt, all)
front_of P (suc n) (x ∷ xs) all = let rest = front_of P n xs all.1 in ((all.0, rest.0), rest.1)

-- the rows that were counted are those of one submission
pub counted_one : (book : Numbers) (icn least m : ℕ) (rows own : List Row) → own ≡ take m rows → AllByRecursion (λ r. number_in (column r 6) ≡ icn) (take m rows) → IsOther icn (drop m rows)
    → ((n : ℕ) × (next : ℕ) × BeginWithOne book icn least n next rows × AllByRecursion HasSetRow rows) → AreRowsOfOne book icn least own
counted_one book icn least m rows own is here other h =
    let cut = begins_alike book icn least h.0 h.1 rows m h.2 here other in
    subst (AreRowsOfOne book icn least) (cut.0 ∙ sym is) (record { wide = (front_of HasSetRow h.0 rows h.3).0; next = h.1; one = h.2.one })

only_next : (book : Numbers) (icn least a b : ℕ) (ts : List StoredSet) → AreOfOne book icn least a ts → AreOfOne book icn least b ts → a ≡ b
only_next book icn least a b ts one two =
    one.next_is ∙ ap (λ gs. max least (above_groups gs)) (only_groups icn one.groups two.groups one.whole two.whole (one.rows_are ∙ sym two.rows_are)) ∙ sym two.next_is

-- what is left of the rows, once those of some submissions are taken
pub record AreLeftOf (book : Numbers) (least : ℕ) (icns : List ℕ) (rows : List Row) : Type 0 where
  pub wide : AllByRecursion HasSetRow rows
  pub last : ℕ
  pub above : AreAbove last icns
  pub all : AreOfAll book least icns (map set_read rows)

pub all_left : (book : Numbers) (icns : List ℕ) (rows : List Row) → AreRowsOfAll book icns rows → AreLeftOf book 0 icns rows
all_left book icns rows h = record { wide = h.wide; last = 0; above = h.above; all = h.all }

-- a group's first row
some_row : (icn n : ℕ) (gs : List GroupRow) → 0 < length gs → All (λ g. 0 < length g.sets) gs → flat_map (rows_of_group icn) (enumerate_from n gs) ≢ []
some_row icn n [] some filled none = absurd (omega (arith, some))
some_row icn n (g ∷ gs) some filled none = first g.sets refl (All-head (λ (x : GroupRow). 0 < length x.sets) g gs filled)
  where
    first : (ts : List SetRow) → g.sets ≡ ts → 0 < length g.sets → ⊥
    first [] is long = absurd (omega (arith, long, ap length is))
    first (t ∷ ts) is long = let cons = subst (λ sets. map (row_in icn n g) (enumerate_from 1 sets) ++ flat_map (rows_of_group icn) (enumerate_from (n + 1) gs) ≡ []) is none in absurd cc

others_behind : (book : Numbers) (icn least : ℕ) (icns : List ℕ) (rows : List Row) → AreAbove icn icns → AreOfAll book least icns (map set_read rows) → IsOther icn rows
others_behind book icn least [] [] above all = tt
others_behind book icn least [] (r ∷ rows) above all = absurd cc
others_behind book icn least (k ∷ icns) [] above all = tt
others_behind book icn least (k ∷ icns) (r ∷ rows) above all = λ same. behind all.0 same all.2
  where
    behind : (n : ℕ) → number_in (column r 6) ≡ icn → AreOfOne book k least all.1 (take n (map set_read (r ∷ rows))) → ⊥
    behind zero same one = some_row k 1 one.groups one.sendable.has_group one.whole.sets one.rows_are
    behind (suc n) same one =
        let own = subst (AllByRecursion (λ (t : StoredSet). t.icn ≡ k)) one.rows_are (groups_own k 1 one.groups) in
        omega (arith, above.0, own.0, same)

-- the first submission's rows begin what is left
pub left_begins : (book : Numbers) (least icn : ℕ) (icns : List ℕ) (rows : List Row) → AreLeftOf book least (icn ∷ icns) rows → (n : ℕ) × (next : ℕ) × BeginWithOne book icn least n next rows × AllByRecursion HasSetRow rows
left_begins book least icn icns rows left =
    let all = left.all in
    let n = all.0 in
    let next = all.1 in (
      n,
      next,
      record {
        one = subst (AreOfOne book icn least next) (sym (taken set_read n rows)) all.2;
        other = others_behind book icn next icns (drop n rows) left.above.1 (subst (AreOfAll book next icns) (sym (dropped set_read n rows)) all.3);
      },
      left.wide,
    )

-- and the others are left behind them
pub less_left : (book : Numbers) (least icn m next : ℕ) (icns : List ℕ) (rows behind : List Row) → behind ≡ drop m rows → BeginWithOne book icn least m next rows → AreLeftOf book least (icn ∷ icns) rows → AreLeftOf book next icns behind
unfolding left_begins
less_left book least icn m next icns rows behind is begins left =
    let first = left_begins book least icn icns rows left in
    let own = one_own book icn least next (take m rows) begins.one in
    let cut = begins_alike book icn least first.0 first.1 rows m first.2 own begins.other in
    let same : first.1 ≡ next = only_next book icn least first.1 next (map set_read (take m rows)) (subst (λ rs. AreOfOne book icn least first.1 (map set_read rs)) cut.0 first.2.one) begins.one in
    let rest : AreOfAll book first.1 icns (map set_read (drop first.0 rows)) = subst (AreOfAll book first.1 icns) (sym (dropped set_read first.0 rows)) left.all.3 in
    record {
      wide = subst (AllByRecursion HasSetRow) (sym is) (front_of HasSetRow m rows left.wide).1;
      last = icn;
      above = left.above.1;
      all = subst (λ rs. AreOfAll book next icns (map set_read rs)) (cut.1 ∙ sym is) (subst (λ k. AreOfAll book k icns (map set_read (drop first.0 rows))) same rest);
    }

pub none_left : (book : Numbers) (least : ℕ) (rows : List Row) → AreLeftOf book least [] rows → rows ≡ []
none_left book least [] left = refl
none_left book least (r ∷ rows) left = absurd (let none = left.all in cc)
