-- A submission's rows once transaction sets of it are settled.
use Rattle.std.proofs.Common.{ℕ, zero, suc, ◌≡◌, ◌≢◌, ◌+◌, ◌-◌, ◌<◌, ◌≤◌, ◌==◌, ◌&&◌, ◌∙◌, ap, sym, subst, ap₂, refl, arith, inl, inr, Bool, true, false, if◌then◌else◌, List, [], ◌∷◌, ◌++◌, map, length, get_or, flat_map, set, slice_get, Option, Some, None, option_map, unwrap_or, All, ne_eqb}
use Rattle.std.specs.List.{enumerate_from}
use Rattle.std.proofs.lemmas.Bool.Decides.{eqb_tells}
use Rattle.std.proofs.lemmas.List.{map-append, get_or-map, length-map}
use Rattle.std.proofs.lemmas.List.Elements.{All-map, All-cons, All-head, All-tail}
use Rattle.x12_numbers.specs.Book.{Numbers}
use Rattle.x12_envelopes.specs.declared.party.Party.{Party}
use Rattle.x12_acks.specs.Submission.{TransactionSetKey}
use Rattle.x12_outbound.specs.declared.fate.Fate.{Fate}
use Rattle.x12_outbound.specs.Entry.{InterchangeRow, GroupRow, SetRow, with_place, with_set_at, submission_of_entry, submitted_group_of_row, submitted_set_of_row}
use Rattle.x12_inbound.specs.Arrival.{Filing}
use Rattle.x12_station.specs.Stored.{Stored, entries, StoredSet, StoredSubmission, rows_of_group, rows_of_entry, row_of_entry, IsSound, IsNumberedBy}
use Rattle.x12_station.specs.Plan.{Files, stored_after, row_settled, rows_settled}
pub use Rattle.x12_station.specs.Plan.{entry_settled, entry_settled_by}
use Rattle.x12_station.specs.Record.{IsWholeEntry}
use Rattle.x12_station.proofs.EntryLemmas.{entries_back, same_heads, entries_whole, entries_rise, NumbersRise, rows_from, row_at, SetLaid, GroupLaid, Filled}
use Rattle.x12_numbers.proofs.Shelf.{eq_itself}

-- Fates that are settled.

-- a list whose element at a place is changed, where the first place is n
module _ {X : Type 0} (f : X → X) (place : ℕ) where
  abbrev changed_from : ℕ → List X → List X
  changed_from n [] = []
  changed_from n (x ∷ xs) = (if n == place then f x else x) ∷ changed_from (n + 1) xs

  changed_past : (n : ℕ) (xs : List X) → place < n → changed_from n xs ≡ xs
  changed_past n [] past = refl
  changed_past n (x ∷ xs) past = rw (ne_eqb n place (omega arith), changed_past (n + 1) xs (omega arith)) refl

  written : (i : ℕ) (x : X) (xs : List X) (o : Option X) → x ∷ unwrap_or (option_map (λ y. set xs i (f y)) o) xs ≡ unwrap_or (option_map (λ y. set (x ∷ xs) (suc i) (f y)) o) (x ∷ xs)
  written i x xs None = refl
  written i x xs (Some y) = refl

  changed_within : (i n : ℕ) (xs : List X) → n + i ≡ place → changed_from n xs ≡ unwrap_or (option_map (λ y. set xs i (f y)) (slice_get xs i)) xs
  changed_within i n [] at = refl
  changed_within zero n (x ∷ xs) at = let here : n ≡ place = omega arith in rw (here, eq_itself place, changed_past (place + 1) xs (omega arith)) refl
  changed_within (suc i) n (x ∷ xs) at = rw (ne_eqb n place (omega arith), changed_within i (n + 1) xs (omega arith)) (written i x xs (slice_get xs i))

  changed_is : (xs : List X) → changed_from 1 xs ≡ with_place f place xs
  changed_is xs = elim (eqb_tells place 0) [
    | inl none ↦ rw none.0 (changed_past 1 xs (omega arith))
    | inr some ↦ rw some.0 (changed_within (place - 1) 1 xs (omega arith))
  ]

-- one set's row, as it is settled
row_of_place : (icn n : ℕ) (g : GroupRow) (k : TransactionSetKey) (fate : Fate) (from : ℕ) (ss : List SetRow) → icn ≡ k.icn → n ≡ k.group
    → map (row_settled k fate) (map (row_at icn n g) (enumerate_from from ss)) ≡ map (row_at icn n g) (enumerate_from from (changed_from (λ s. record s { fate = fate }) k.set from ss))
unfolding row_at
row_of_place icn n g k fate from [] named here = refl
row_of_place icn n g k fate from (s ∷ ss) named here =
    ap₂ (λ t ts. t ∷ ts) (rw (named, here, eq_itself k.icn, eq_itself k.group) (by (from == k.set))) (row_of_place icn n g k fate (from + 1) ss named here)
  where
    by : (t : Bool) → (if t then record { icn = k.icn; group = k.group; set = from; functional = g.functional; gcn = g.number; number = s.number; fate = fate } else record { icn = k.icn; group = k.group; set = from; functional = g.functional; gcn = g.number; number = s.number; fate = s.fate })
        ≡ row_at k.icn k.group g (from, if t then record s { fate = fate } else s)
    by true = refl
    by false = refl

module _ {X Y : Type 0} (f : X → X) (h : Y → X) (same : (y : Y) → f (h y) ≡ h y) where
  map_keeps : (ys : List Y) → map f (map h ys) ≡ map h ys
  map_keeps [] = refl
  map_keeps (y ∷ ys) = ap₂ (λ x xs. x ∷ xs) (same y) (map_keeps ys)

-- rows of another group, and of another submission
other_place : (icn n : ℕ) (g : GroupRow) (k : TransactionSetKey) (fate : Fate) → n ≢ k.group → map (row_settled k fate) (rows_of_group icn (n, g)) ≡ rows_of_group icn (n, g)
unfolding row_at
other_place icn n g k fate differ = map_keeps (row_settled k fate) (row_at icn n g) (λ s. rw (ne_eqb n k.group differ) (by (icn == k.icn) (row_at icn n g s))) (enumerate_from 1 g.sets)
  where
    by : (t : Bool) (r : StoredSet) → (if t && false && r.set == k.set then record r { fate = fate } else r) ≡ r
    by true r = refl
    by false r = refl

other_number : (icn n : ℕ) (k : TransactionSetKey) (fate : Fate) (gs : List GroupRow) → icn ≢ k.icn → map (row_settled k fate) (rows_from icn n gs) ≡ rows_from icn n gs
unfolding row_at
other_number icn n k fate [] differ = refl
other_number icn n k fate (g ∷ gs) differ =
    map-append (row_settled k fate) (rows_of_group icn (n, g)) (rows_from icn (n + 1) gs)
    ∙ ap₂ (λ a b. a ++ b) (map_keeps (row_settled k fate) (row_at icn n g) (λ s. rw (ne_eqb icn k.icn differ) refl) (enumerate_from 1 g.sets)) (other_number icn (n + 1) k fate gs differ)

-- the groups with the transaction set at this place settled
abbrev pub group_settled : TransactionSetKey × Fate → GroupRow → GroupRow
group_settled t g = record g { sets = with_place (λ s. record s { fate = t.1 }) t.0.set g.sets }

same_place : (icn n : ℕ) (g : GroupRow) (k : TransactionSetKey) (fate : Fate) → icn ≡ k.icn → n ≡ k.group → map (row_settled k fate) (rows_of_group icn (n, g)) ≡ rows_of_group icn (n, group_settled (k, fate) g)
unfolding row_at
same_place icn n g k fate named here =
    row_of_place icn n g k fate 1 g.sets named here
    ∙ ap (λ ss. map (row_at icn n g) (enumerate_from 1 ss)) (changed_is (λ (s : SetRow). record s { fate = fate }) k.set g.sets)

same_number : (icn n : ℕ) (k : TransactionSetKey) (fate : Fate) (gs : List GroupRow) → icn ≡ k.icn → map (row_settled k fate) (rows_from icn n gs) ≡ rows_from icn n (changed_from (group_settled (k, fate)) k.group n gs)
same_number icn n k fate [] named = refl
same_number icn n k fate (g ∷ gs) named =
    map-append (row_settled k fate) (rows_of_group icn (n, g)) (rows_from icn (n + 1) gs)
    ∙ ap₂ (λ a b. a ++ b) (elim (eqb_tells n k.group) [
      | inl here ↦ rw here.0 (same_place icn n g k fate named here.1)
      | inr away ↦ rw away.0 (other_place icn n g k fate away.1)
    ]) (same_number icn (n + 1) k fate gs named)

-- An entry's rows once a set is settled are those of the entry once it is.
pub rows_of_settled : (t : TransactionSetKey × Fate) (e : InterchangeRow) → map (row_settled t.0 t.1) (rows_of_entry e) ≡ rows_of_entry (entry_settled t e)
unfolding rows_of_entry with_set_at
rows_of_settled t e = elim (eqb_tells e.icn t.0.icn) [
  | inl same ↦ rw same.0 (same_number e.icn 1 t.0 t.1 e.groups same.1 ∙ ap (rows_from e.icn 1) (changed_is (group_settled t) t.0.group e.groups))
  | inr other ↦ rw other.0 (other_number e.icn 1 t.0 t.1 e.groups other.1)
]

rows_of_one : (t : TransactionSetKey × Fate) (es : List InterchangeRow) → map (row_settled t.0 t.1) (flat_map rows_of_entry es) ≡ flat_map rows_of_entry (map (entry_settled t) es)
rows_of_one t [] = refl
rows_of_one t (e ∷ es) = map-append (row_settled t.0 t.1) (rows_of_entry e) (flat_map rows_of_entry es) ∙ ap₂ (λ a b. a ++ b) (rows_of_settled t e) (rows_of_one t es)

entries_of_none : (es : List InterchangeRow) → map (entry_settled_by []) es ≡ es
entries_of_none [] = refl
entries_of_none (e ∷ es) = ap (λ l. e ∷ l) (entries_of_none es)

entries_of_more : (t : TransactionSetKey × Fate) (ts : List (TransactionSetKey × Fate)) (es : List InterchangeRow) → map (entry_settled_by ts) (map (entry_settled t) es) ≡ map (entry_settled_by (t ∷ ts)) es
entries_of_more t ts [] = refl
entries_of_more t ts (e ∷ es) = ap (λ l. entry_settled_by ts (entry_settled t e) ∷ l) (entries_of_more t ts es)

-- The rows once sets are settled are those of the entries once they are.
pub rows_settled_are : (ts : List (TransactionSetKey × Fate)) (es : List InterchangeRow) → rows_settled ts (flat_map rows_of_entry es) ≡ flat_map rows_of_entry (map (entry_settled_by ts) es)
unfolding rows_settled
rows_settled_are [] es = ap (flat_map rows_of_entry) (sym (entries_of_none es))
rows_settled_are (t ∷ ts) es =
    ap (rows_settled ts) (rows_of_one t es) ∙ rows_settled_are ts (map (entry_settled t) es)
    ∙ ap (flat_map rows_of_entry) (entries_of_more t ts es)

-- What settling keeps.
module _ {X : Type 0} (f : X → X) (place : ℕ) where
  length_changed : (n : ℕ) (xs : List X) → length (changed_from f place n xs) ≡ length xs
  length_changed n [] = refl
  length_changed n (x ∷ xs) = ap suc (length_changed (n + 1) xs)

  all_changed : (P : X → Type 0) → ((x : X) → P x → P (f x)) → (n : ℕ) (xs : List X) → All P xs → All P (changed_from f place n xs)
  all_changed P keeps n [] all = all
  all_changed P keeps n (x ∷ xs) all = All-cons P _ (changed_from f place (n + 1) xs) (by (n == place) (All-head P x xs all)) (all_changed P keeps (n + 1) xs (All-tail P x xs all))
    where
      by : (t : Bool) → P x → P (if t then f x else x)
      by true is = keeps x is
      by false is = is

  map_changed : {Y : Type 0} (v : X → Y) → ((x : X) → v (f x) ≡ v x) → (n : ℕ) (xs : List X) → map v (changed_from f place n xs) ≡ map v xs
  map_changed v same n [] = refl
  map_changed v same n (x ∷ xs) = ap₂ (λ y ys. y ∷ ys) (by (n == place)) (map_changed v same (n + 1) xs)
    where
      by : (t : Bool) → v (if t then f x else x) ≡ v x
      by true = same x
      by false = refl

  all_with_place : (P : X → Type 0) → ((x : X) → P x → P (f x)) → (xs : List X) → All P xs → All P (with_place f place xs)
  all_with_place P keeps xs all = subst (All P) (changed_is f place xs) (all_changed P keeps 1 xs all)

  map_with_place : {Y : Type 0} (v : X → Y) → ((x : X) → v (f x) ≡ v x) → (xs : List X) → map v (with_place f place xs) ≡ map v xs
  map_with_place v same xs = ap (map v) (sym (changed_is f place xs)) ∙ map_changed v same 1 xs

  length_with_place : (xs : List X) → length (with_place f place xs) ≡ length xs
  length_with_place xs = ap length (sym (changed_is f place xs)) ∙ length_changed 1 xs

-- what settling one set keeps, where it keeps it of each group
module _ (P : InterchangeRow → Type 0) (t : TransactionSetKey × Fate) (keeps : (e : InterchangeRow) → P e → P (with_set_at (λ s. record s { fate = t.1 }) t.0.group t.0.set e)) where
  kept_by_one : (e : InterchangeRow) → P e → P (entry_settled t e)
  kept_by_one e is = by (e.icn == t.0.icn)
    where
      by : (b : Bool) → P (if b then with_set_at (λ s. record s { fate = t.1 }) t.0.group t.0.set e else e)
      by true = keeps e is
      by false = is

kept_by_all : (P : InterchangeRow → Type 0) → ((t : TransactionSetKey × Fate) (e : InterchangeRow) → P e → P (with_set_at (λ s. record s { fate = t.1 }) t.0.group t.0.set e)) → (ts : List (TransactionSetKey × Fate)) (e : InterchangeRow) → P e → P (entry_settled_by ts e)
kept_by_all P keeps [] e is = is
kept_by_all P keeps (t ∷ ts) e is = kept_by_all P keeps ts (entry_settled t e) (kept_by_one P t (keeps t) e is)

-- its head
pub head_settled : (seq : ℕ) (ts : List (TransactionSetKey × Fate)) (e : InterchangeRow) → row_of_entry seq (entry_settled_by ts e) ≡ row_of_entry seq e
unfolding with_set_at
head_settled seq ts e = kept_by_all (λ x. row_of_entry seq x ≡ row_of_entry seq e) (λ t x is. is) ts e refl

-- what was submitted
pub submission_settled : (me : Party) (ts : List (TransactionSetKey × Fate)) (e : InterchangeRow) → submission_of_entry me (entry_settled_by ts e) ≡ submission_of_entry me e
unfolding with_set_at
submission_settled me ts e = kept_by_all (λ x. submission_of_entry me x ≡ submission_of_entry me e) one ts e refl
  where
    one : (t : TransactionSetKey × Fate) (x : InterchangeRow) → submission_of_entry me x ≡ submission_of_entry me e → submission_of_entry me (with_set_at (λ s. record s { fate = t.1 }) t.0.group t.0.set x) ≡ submission_of_entry me e
    one t x is =
        ap (λ gs. record (submission_of_entry me x) { groups = gs })
        (map_with_place (group_settled t) t.0.group submitted_group_of_row (λ g. ap (λ ss. record { functional = g.functional; number = g.number; sets = ss }) (map_with_place (λ (s : SetRow). record s { fate = t.1 }) t.0.set submitted_set_of_row (λ s. refl) g.sets)) x.groups)
        ∙ is

-- that it is whole, and that its numbers were used
pub whole_settled : (ts : List (TransactionSetKey × Fate)) (e : InterchangeRow) → IsWholeEntry e → IsWholeEntry (entry_settled_by ts e)
unfolding with_set_at
whole_settled ts e is = kept_by_all IsWholeEntry one ts e is
  where
    one : (t : TransactionSetKey × Fate) (x : InterchangeRow) → IsWholeEntry x → IsWholeEntry (with_set_at (λ s. record s { fate = t.1 }) t.0.group t.0.set x)
    one t x whole = record {
      laid = all_with_place (group_settled t) t.0.group GroupLaid (λ g laid. all_with_place (λ (s : SetRow). record s { fate = t.1 }) t.0.set SetLaid (λ s is. is) g.sets laid) x.groups whole.laid;
      sets = all_with_place (group_settled t) t.0.group Filled (λ g some. let same = length_with_place (λ (s : SetRow). record s { fate = t.1 }) t.0.set g.sets in omega arith) x.groups whole.sets;
    }

pub numbered_settled : (book : Numbers) (ts : List (TransactionSetKey × Fate)) (e : InterchangeRow) → IsNumberedBy book e → IsNumberedBy book (entry_settled_by ts e)
unfolding with_set_at
numbered_settled book ts e is = kept_by_all (IsNumberedBy book) one ts e is
  where
    one : (t : TransactionSetKey × Fate) (x : InterchangeRow) → IsNumberedBy book x → IsNumberedBy book (with_set_at (λ s. record s { fate = t.1 }) t.0.group t.0.set x)
    one t x used = record {
      interchange = used.interchange;
      groups = all_with_place (group_settled t) t.0.group (λ g. g.number ≤ book.group) (λ g at. at) x.groups used.groups;
    }

pub rise_settled : (ts : List (TransactionSetKey × Fate)) (es : List InterchangeRow) → NumbersRise es → NumbersRise (map (entry_settled_by ts) es)
rise_settled ts es rise i j d before at =
    let inside : j < length es = omega (arith, length-map es (entry_settled_by ts)) in
    let first = get_or-map (entry_settled_by ts) es i d d (omega arith) in
    let second = get_or-map (entry_settled_by ts) es j d d inside in
    let lower = rise i j d before inside in
    let icn = λ (x : InterchangeRow). x.icn in
    let head = λ (x : InterchangeRow). ap (λ (r : StoredSubmission). r.icn) (head_settled 0 ts x) in
    omega (arith, ap icn first, ap icn second, head (get_or es i d), head (get_or es j d), lower)

-- A file's settling, in the entries.
pub entries_filed : (book : Numbers) (seq : ℕ) (k : Filing) (ts : List (TransactionSetKey × Fate)) (s : Stored) → IsSound s
    → entries (stored_after (record { book = book; seq = seq; change = Files k ts }) s) ≡ map (entry_settled_by ts) (entries s)
unfolding entries
entries_filed book seq k ts s sound =
    entries_back (rows_settled ts s.sets) s.submitted (map (entry_settled_by ts) (entries s))
    (same_heads s.sets s.submitted ∙ heads (entries s))
    (All-map IsWholeEntry (entry_settled_by ts) (entries s) (λ n d at. whole_settled ts (get_or (entries s) n d) (entries_whole s sound n d at)))
    (rise_settled ts (entries s) (entries_rise s sound))
    (ap (rows_settled ts) sound.rows ∙ rows_settled_are ts (entries s))
  where
    heads : (es : List InterchangeRow) → map (row_of_entry 0) es ≡ map (row_of_entry 0) (map (entry_settled_by ts) es)
    heads [] = refl
    heads (e ∷ es) = ap₂ (λ r rs. r ∷ rs) (sym (head_settled 0 ts e)) (heads es)

-- the rows are those of the entries then
pub rows_filed : (book : Numbers) (seq : ℕ) (k : Filing) (ts : List (TransactionSetKey × Fate)) (s : Stored) → IsSound s
    → rows_settled ts s.sets ≡ flat_map rows_of_entry (entries (stored_after (record { book = book; seq = seq; change = Files k ts }) s))
rows_filed book seq k ts s sound = ap (rows_settled ts) sound.rows ∙ rows_settled_are ts (entries s) ∙ ap (flat_map rows_of_entry) (sym (entries_filed book seq k ts s sound))
