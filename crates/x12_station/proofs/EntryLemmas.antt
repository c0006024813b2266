-- A submission's rows, taken apart and put together.
use Rattle.std.proofs.Common.{ℕ, suc, ◌≡◌, ◌≢◌, ◌+◌, ◌<◌, ◌≤◌, ◌==◌, ◌∙◌, max, ap, sym, ap₂, refl, arith, Bool, true, false, cond, List, [], ◌∷◌, ◌++◌, map, length, get_or, filter, flat_map, All, AllPairs, append-nil, append_assoc, ne_eqb}
use Rattle.std.specs.List.{enumerate_from, range_with_len}
use Rattle.std.proofs.lemmas.List.{map-append, get_or-map, length-map}
use Rattle.std.proofs.lemmas.List.Elements.{filter-append, All-nil, All-map, All-cons, All-head, All-tail}
use Rattle.std.proofs.lemmas.Grind.{flat_map-append}
use Rattle.x12_numbers.specs.Book.{Numbers}
use Rattle.x12_envelopes.specs.declared.party.Party.{Party}
use Rattle.x12_acks.specs.Submission.{Submission}
use Rattle.x12_outbound.specs.Entry.{InterchangeRow, GroupRow, SetRow, submission_of_entry}
use Rattle.x12_outbound.specs.Ledger.{AreInOrder}
use Rattle.x12_station.specs.Stored.{Stored, entries, StoredSet, StoredSubmission, rows_of_group, rows_of_entry, row_of_entry, set_of_row, group_of_rows, last_group, groups_of_rows, sets_under, entry_of_row, IsSound}
use Rattle.x12_station.specs.Plan.{Submits, stored_after}
use Rattle.x12_station.specs.Record.{HasNoneOut, IsWholeEntry}
use Rattle.x12_numbers.proofs.Shelf.{eq_itself}

-- a filter whose answer is the same at each element
module _ {X : Type 0} (p : X → Bool) where
  nothing_kept : (t : Bool) → filter p [] ≡ cond t (filter p []) []
  nothing_kept true = refl
  nothing_kept false = refl

module _ {X Y : Type 0} (p : X → Bool) (b : Bool) where
  filter_map_same : (f : Y → X) → ((y : Y) → p (f y) ≡ b) → (ys : List Y) → filter p (map f ys) ≡ cond b (map f ys) []
  filter_map_same f same [] = nothing_kept p b
  filter_map_same f same (y ∷ ys) = rw (same y) (by b (filter_map_same f same ys))
    where
      by : (t : Bool) → filter p (map f ys) ≡ cond t (map f ys) [] → cond t (f y ∷ filter p (map f ys)) (filter p (map f ys)) ≡ cond t (f y ∷ map f ys) []
      by true rest = ap (λ l. f y ∷ l) rest
      by false rest = rest

  filter_flat_same : (f : Y → List X) → ((y : Y) → filter p (f y) ≡ cond b (f y) []) → (ys : List Y) → filter p (flat_map f ys) ≡ cond b (flat_map f ys) []
  filter_flat_same f same [] = nothing_kept p b
  filter_flat_same f same (y ∷ ys) = filter-append p (f y) (flat_map f ys) ∙ by b (same y) (filter_flat_same f same ys)
    where
      by : (t : Bool) → filter p (f y) ≡ cond t (f y) [] → filter p (flat_map f ys) ≡ cond t (flat_map f ys) [] → filter p (f y) ++ filter p (flat_map f ys) ≡ cond t (f y ++ flat_map f ys) []
      by true one rest = rw (one, rest) refl
      by false one rest = rw (one, rest) refl

-- The rows of one submission.

-- the rows of groups whose first place is n
abbrev pub rows_from : ℕ → ℕ → List GroupRow → List StoredSet
rows_from icn n gs = flat_map (rows_of_group icn) (enumerate_from n gs)

-- a group's rows have its place, and the submission's number
of_group : (icn n k : ℕ) (g : GroupRow) → filter (λ t. t.group == k) (rows_of_group icn (n, g)) ≡ cond (n == k) (rows_of_group icn (n, g)) []
of_group icn n k g = filter_map_same (λ (t : StoredSet). t.group == k) (n == k) _ (λ s. refl) (enumerate_from 1 g.sets)

of_entry : (icn n k : ℕ) (gs : List GroupRow) → filter (λ t. t.icn == k) (rows_from icn n gs) ≡ cond (icn == k) (rows_from icn n gs) []
of_entry icn n k gs = filter_flat_same (λ (t : StoredSet). t.icn == k) (icn == k) (rows_of_group icn) (λ g. filter_map_same (λ (t : StoredSet). t.icn == k) (icn == k) _ (λ s. refl) (enumerate_from 1 g.1.sets)) (enumerate_from n gs)

-- a place in front of all groups has no rows
of_earlier : (icn n k : ℕ) (gs : List GroupRow) → k < n → filter (λ t. t.group == k) (rows_from icn n gs) ≡ []
of_earlier icn n k [] before = refl
of_earlier icn n k (g ∷ gs) before =
    filter-append (λ (t : StoredSet). t.group == k) (rows_of_group icn (n, g)) (rows_from icn (n + 1) gs)
    ∙ rw (of_group icn n k g, ne_eqb n k (omega arith), of_earlier icn (n + 1) k gs (omega arith)) refl

-- the transaction sets of a group come back
abbrev pub SetLaid : SetRow → Type 0
SetLaid s = s.is_out ≡ false

abbrev pub GroupLaid : GroupRow → Type 0
GroupLaid g = All SetLaid g.sets

abbrev pub Filled : GroupRow → Type 0
Filled g = 0 < length g.sets

set_back : (s : SetRow) → s.is_out ≡ false → record { number = s.number; fate = s.fate; is_out = false } ≡ s
set_back s laid = ap (λ o. record s { is_out = o }) (sym laid)

unfoldable pub row_at : ℕ → ℕ → GroupRow → ℕ × SetRow → StoredSet
row_at icn n g s = record { icn = icn; group = n; set = s.0; functional = g.functional; gcn = g.number; number = s.1.number; fate = s.1.fate }

sets_back : (icn n : ℕ) (g : GroupRow) (from : ℕ) (ss : List SetRow) → All (λ s. s.is_out ≡ false) ss → map set_of_row (map (row_at icn n g) (enumerate_from from ss)) ≡ ss
unfolding row_at
sets_back icn n g from [] laid = refl
sets_back icn n g from (s ∷ ss) laid = ap₂ (λ t ts. t ∷ ts) (set_back s (All-head SetLaid s ss laid)) (sets_back icn n g (from + 1) ss (All-tail SetLaid s ss laid))

-- a group comes back
group_back : (icn n : ℕ) (g : GroupRow) (ss : List SetRow) → 0 < length ss → All (λ s. s.is_out ≡ false) ss → group_of_rows (map (row_at icn n g) (enumerate_from 1 ss)) ≡ record g { sets = ss }
unfolding row_at
group_back icn n g [] none laid = absurd (omega arith)
group_back icn n g (s ∷ ss) some laid = ap (λ l. record g { sets = l }) (sets_back icn n g 1 (s ∷ ss) laid)

one_group_back : (icn n : ℕ) (g : GroupRow) → 0 < length g.sets → All (λ s. s.is_out ≡ false) g.sets → group_of_rows (rows_of_group icn (n, g)) ≡ g
unfolding row_at
one_group_back icn n g some laid = group_back icn n g g.sets some laid

-- the greatest place
last-append : (xs ys : List StoredSet) → last_group (xs ++ ys) ≡ max (last_group xs) (last_group ys)
last-append [] ys = omega arith
last-append (x ∷ xs) ys = rw (last-append xs ys) (greater x.group (last_group xs) (last_group ys))
  where
    greater : (a b c : ℕ) → max a (max b c) ≡ max (max a b) c
    greater a b c = omega arith

last_of_group : (icn n : ℕ) (g : GroupRow) (from : ℕ) (ss : List SetRow) → 0 < length ss → last_group (map (row_at icn n g) (enumerate_from from ss)) ≡ n
unfolding row_at
last_of_group icn n g from [] none = absurd (omega arith)
last_of_group icn n g from (s ∷ []) some = omega arith
last_of_group icn n g from (s ∷ q ∷ ss) some = rw (last_of_group icn n g (from + 1) (q ∷ ss) (omega arith)) (omega arith)

last_of_rows : (icn n : ℕ) (gs : List GroupRow) → All (λ g. 0 < length g.sets) gs → max n (last_group (rows_from icn (n + 1) gs)) ≡ n + length gs
unfolding row_at
last_of_rows icn n [] some = omega arith
last_of_rows icn n (g ∷ gs) some =
    let rest = last_of_rows icn (n + 1) gs (All-tail Filled g gs some) in
    let one = last_of_group icn (n + 1) g 1 g.sets (All-head Filled g gs some) in
    let all = last-append (rows_of_group icn (n + 1, g)) (rows_from icn (n + 1 + 1) gs) in
    omega (arith, rest, one, all)

-- the groups come back, where the rows at each place are those of this list
groups_from : (icn n : ℕ) (gs : List GroupRow) (ts : List StoredSet) → All (λ g. 0 < length g.sets) gs → All (λ g. All (λ s. s.is_out ≡ false) g.sets) gs
    → ((k : ℕ) → n ≤ k → filter (λ t. t.group == k) ts ≡ filter (λ t. t.group == k) (rows_from icn n gs))
    → map (λ k. group_of_rows (filter (λ t. t.group == k) ts)) (range_with_len n (length gs)) ≡ gs
groups_from icn n [] ts some laid same = refl
groups_from icn n (g ∷ gs) ts some laid same =
    ap₂ (λ h hs. h ∷ hs)
    (ap group_of_rows (same n (omega arith) ∙ here) ∙ one_group_back icn n g (All-head Filled g gs some) (All-head GroupLaid g gs laid))
    (groups_from icn (n + 1) gs ts (All-tail Filled g gs some) (All-tail GroupLaid g gs laid) (λ k from. same k (omega arith) ∙ later k from))
  where
    here : filter (λ t. t.group == n) (rows_from icn n (g ∷ gs)) ≡ rows_of_group icn (n, g)
    here =
        filter-append (λ (t : StoredSet). t.group == n) (rows_of_group icn (n, g)) (rows_from icn (n + 1) gs)
        ∙ rw (of_group icn n n g, eq_itself n, of_earlier icn (n + 1) n gs (omega arith)) (append-nil (rows_of_group icn (n, g)))

    later : (k : ℕ) → n + 1 ≤ k → filter (λ t. t.group == k) (rows_from icn n (g ∷ gs)) ≡ filter (λ t. t.group == k) (rows_from icn (n + 1) gs)
    later k from =
        filter-append (λ (t : StoredSet). t.group == k) (rows_of_group icn (n, g)) (rows_from icn (n + 1) gs)
        ∙ rw (of_group icn n k g, ne_eqb n k (omega arith)) refl

-- an entry's groups come back
pub groups_back : (e : InterchangeRow) → IsWholeEntry e → groups_of_rows (rows_of_entry e) ≡ e.groups
unfolding rows_of_entry
groups_back e whole =
    let last : last_group (rows_from e.icn 1 e.groups) ≡ length e.groups = omega (arith, last_of_rows e.icn 0 e.groups whole.sets) in
    ap (λ n. map (λ g. group_of_rows (filter (λ t. t.group == g) (rows_from e.icn 1 e.groups))) (range_with_len 1 n)) last
    ∙ groups_from e.icn 1 e.groups (rows_from e.icn 1 e.groups) whole.sets whole.laid (λ k from. refl)

-- The rows of many submissions.

-- the rows under a number are those of the entry of this number
pub own_rows : (n : ℕ) (e : InterchangeRow) → e.icn ≡ n → sets_under n (rows_of_entry e) ≡ rows_of_entry e
unfolding rows_of_entry
own_rows n e is = of_entry e.icn 1 n e.groups ∙ rw (is, eq_itself n) refl

pub no_rows : (n : ℕ) (e : InterchangeRow) → e.icn ≢ n → sets_under n (rows_of_entry e) ≡ []
unfolding rows_of_entry
no_rows n e differ = of_entry e.icn 1 n e.groups ∙ rw (ne_eqb e.icn n differ) refl

pub rows_of_none : (n : ℕ) (es : List InterchangeRow) → All (λ e. e.icn ≢ n) es → sets_under n (flat_map rows_of_entry es) ≡ []
rows_of_none n [] other = refl
rows_of_none n (e ∷ es) other =
    filter-append (λ (t : StoredSet). t.icn == n) (rows_of_entry e) (flat_map rows_of_entry es)
    ∙ rw (no_rows n e (All-head (λ x. x.icn ≢ n) e es other), rows_of_none n es (All-tail (λ x. x.icn ≢ n) e es other)) refl

-- The submissions.

-- the head of an entry: all but its groups
abbrev pub unnumbered : StoredSubmission → StoredSubmission
unnumbered r = record r { seq = 0 }

-- rows and entries have the same heads
abbrev pub SameHeads : List StoredSubmission → List InterchangeRow → Type 0
SameHeads rs es = map unnumbered rs ≡ map (row_of_entry 0) es

abbrev pub NumbersRise : List InterchangeRow → Type 0
NumbersRise es = AllPairs (λ e f. e.icn < f.icn) es

pub same_heads : (sets : List StoredSet) (rs : List StoredSubmission) → SameHeads rs (map (entry_of_row sets) rs)
same_heads sets [] = refl
same_heads sets (r ∷ rs) = ap (λ l. unnumbered r ∷ l) (same_heads sets rs)

pub rise_head : (e : InterchangeRow) (es : List InterchangeRow) → NumbersRise (e ∷ es) → All (λ f. e.icn < f.icn) es
rise_head e es rise k d at = rise 0 (suc k) d (omega arith) (omega arith)

pub rise_tail : (e : InterchangeRow) (es : List InterchangeRow) → NumbersRise (e ∷ es) → NumbersRise es
rise_tail e es rise i j d before at = rise (suc i) (suc j) d (omega arith) (omega arith)

-- one entry comes back from a list of rows that has its own under its number
entry_back : (sets : List StoredSet) (r : StoredSubmission) (e : InterchangeRow) → unnumbered r ≡ row_of_entry 0 e → IsWholeEntry e → sets_under e.icn sets ≡ rows_of_entry e → entry_of_row sets r ≡ e
entry_back sets r e head whole own =
    ap (λ (q : StoredSubmission). record { icn = q.icn; receiver = q.receiver; bytes = q.bytes; groups = groups_of_rows (sets_under q.icn sets) }) head
    ∙ ap (λ ts. record e { groups = groups_of_rows ts }) own
    ∙ ap (λ gs. record e { groups = gs }) (groups_back e whole)

-- entries come back from their rows, behind rows of lower numbers
back_behind : (front sets : List StoredSet) (rs : List StoredSubmission) (es : List InterchangeRow) → SameHeads rs es → All IsWholeEntry es → NumbersRise es
    → All (λ e. sets_under e.icn front ≡ []) es → sets ≡ front ++ flat_map rows_of_entry es → map (entry_of_row sets) rs ≡ es
back_behind front sets [] [] heads whole rise none is = refl
back_behind front sets [] (e ∷ es) heads whole rise none is = absurd (cc)
back_behind front sets (r ∷ rs) [] heads whole rise none is = absurd (cc)
back_behind front sets (r ∷ rs) (e ∷ es) heads whole rise none is =
    let head : unnumbered r ≡ row_of_entry 0 e = cc in
    let rest : SameHeads rs es = cc in
    ap₂ (λ x xs. x ∷ xs)
    (entry_back sets r e head (All-head IsWholeEntry e es whole) own)
    (back_behind (front ++ rows_of_entry e) sets rs es rest (All-tail IsWholeEntry e es whole) (rise_tail e es rise) still (is ∙ sym (append_assoc front (rows_of_entry e) (flat_map rows_of_entry es))))
  where
    own : sets_under e.icn sets ≡ rows_of_entry e
    own =
        ap (sets_under e.icn) is ∙ filter-append (λ (t : StoredSet). t.icn == e.icn) front (rows_of_entry e ++ flat_map rows_of_entry es)
        ∙ ap₂ (λ a b. a ++ b) (All-head (λ f. sets_under f.icn front ≡ []) e es none) (filter-append (λ (t : StoredSet). t.icn == e.icn) (rows_of_entry e) (flat_map rows_of_entry es))
        ∙ ap₂ (λ a b. a ++ b) (own_rows e.icn e refl) (rows_of_none e.icn es (λ k d at. let below = rise_head e es rise k d at in λ same. absurd (omega arith)))
        ∙ append-nil (rows_of_entry e)

    still : All (λ f. sets_under f.icn (front ++ rows_of_entry e) ≡ []) es
    still k d at =
        filter-append (λ (t : StoredSet). t.icn == (get_or es k d).icn) front (rows_of_entry e)
        ∙ ap₂ (λ a b. a ++ b) (All-tail (λ f. sets_under f.icn front ≡ []) e es none k d at)
        (let below = rise_head e es rise k d at in no_rows (get_or es k d).icn e (λ same. absurd (omega arith)))

-- entries come back from their rows
pub entries_back : (sets : List StoredSet) (rs : List StoredSubmission) (es : List InterchangeRow) → SameHeads rs es → All IsWholeEntry es → NumbersRise es
    → sets ≡ flat_map rows_of_entry es → map (entry_of_row sets) rs ≡ es
entries_back sets rs es heads whole rise is = back_behind [] sets rs es heads whole rise (λ k d at. refl) is

-- rows of other numbers change no entry
others_kept : (sets more : List StoredSet) (rs : List StoredSubmission) → All (λ r. sets_under r.icn more ≡ []) rs → map (entry_of_row (sets ++ more)) rs ≡ map (entry_of_row sets) rs
others_kept sets more [] none = refl
others_kept sets more (r ∷ rs) none =
    ap₂ (λ x xs. x ∷ xs)
    (ap (λ ts. record { icn = r.icn; receiver = r.receiver; bytes = r.bytes; groups = groups_of_rows ts })
    (filter-append (λ (t : StoredSet). t.icn == r.icn) sets more ∙ ap (λ ts. sets_under r.icn sets ++ ts) (All-head (λ (q : StoredSubmission). sets_under q.icn more ≡ []) r rs none) ∙ append-nil (sets_under r.icn sets)))
    (others_kept sets more rs (All-tail (λ (q : StoredSubmission). sets_under q.icn more ≡ []) r rs none))

-- what holds of entries by their numbers holds of their rows
numbers_of_rows : (P : ℕ → Type 0) (sets : List StoredSet) (rs : List StoredSubmission) → All (λ e. P e.icn) (map (entry_of_row sets) rs) → All (λ r. P r.icn) rs
numbers_of_rows P sets [] all = All-nil (λ (q : StoredSubmission). P q.icn)
numbers_of_rows P sets (r ∷ rs) all = All-cons (λ (q : StoredSubmission). P q.icn) r rs (All-head (λ (e : InterchangeRow). P e.icn) (entry_of_row sets r) (map (entry_of_row sets) rs) all) (numbers_of_rows P sets rs (All-tail (λ (e : InterchangeRow). P e.icn) (entry_of_row sets r) (map (entry_of_row sets) rs) all))

-- What sound records tell of their entries.

-- what is put together isn't out
group_laid : (ts : List StoredSet) → GroupLaid (group_of_rows ts)
group_laid [] = All-nil SetLaid
group_laid (t ∷ ts) = All-map SetLaid set_of_row (t ∷ ts) (λ k d at. refl)

pub entry_laid : (sets : List StoredSet) (r : StoredSubmission) → HasNoneOut (entry_of_row sets r)
entry_laid sets r =
    let ts = sets_under r.icn sets in
    All-map GroupLaid (λ n. group_of_rows (filter (λ t. t.group == n) ts)) (range_with_len 1 (last_group ts)) (λ k d at. group_laid (filter (λ t. t.group == get_or (range_with_len 1 (last_group ts)) k d) ts))

pub entries_whole : (s : Stored) → IsSound s → All IsWholeEntry (entries s)
unfolding entries
entries_whole s sound k d at = record {
  laid = All-map HasNoneOut (entry_of_row s.sets) s.submitted (λ n q in_list. entry_laid s.sets (get_or s.submitted n q)) k d at;
  sets = sound.whole k d at;
}

-- interchanges that are in order have numbers that rise
pub rise_in_order : (me : Party) (es : List InterchangeRow) → AreInOrder (map (submission_of_entry me) es) → NumbersRise es
rise_in_order me es order i j d before at =
    let first = get_or-map (submission_of_entry me) es i d (submission_of_entry me d) (omega arith) in
    let second = get_or-map (submission_of_entry me) es j d (submission_of_entry me d) at in
    let rise = order.before i j (submission_of_entry me d) before (omega (arith, length-map es (submission_of_entry me))) in
    omega (arith, rise.interchange, ap (λ (x : Submission). x.icn) first, ap (λ (x : Submission). x.icn) second)

pub entries_rise : (s : Stored) → IsSound s → NumbersRise (entries s)
entries_rise s sound = let me : Party = record { qualifier = []; id = [] } in rise_in_order me (entries s) (sound.in_order me)

-- A submission's entry joins the others at the end.
pub entries_submitted : (book : Numbers) (seq : ℕ) (e : InterchangeRow) (s : Stored) → IsWholeEntry e → All (λ x. x.icn < e.icn) (entries s) → s.sets ≡ flat_map rows_of_entry (entries s)
    → entries (stored_after (record { book = book; seq = seq; change = Submits e }) s) ≡ entries s ++ e ∷ []
unfolding entries
entries_submitted book seq e s whole below rows =
    map-append (entry_of_row (s.sets ++ rows_of_entry e)) s.submitted (row_of_entry seq e ∷ [])
    ∙ ap₂ (λ a b. a ++ b)
    (others_kept s.sets (rows_of_entry e) s.submitted (λ k d at. let less = lower k d at in no_rows (get_or s.submitted k d).icn e (λ same. absurd (omega arith))))
    (ap (λ x. x ∷ []) (entry_back (s.sets ++ rows_of_entry e) (row_of_entry seq e) e refl whole own))
  where
    lower : All (λ r. r.icn < e.icn) s.submitted
    lower = numbers_of_rows (λ n. n < e.icn) s.sets s.submitted below

    own : sets_under e.icn (s.sets ++ rows_of_entry e) ≡ rows_of_entry e
    own =
        filter-append (λ (t : StoredSet). t.icn == e.icn) s.sets (rows_of_entry e)
        ∙ ap₂ (λ a b. a ++ b)
        (ap (sets_under e.icn) rows ∙ rows_of_none e.icn (map (entry_of_row s.sets) s.submitted) (λ k d at. let less = below k d at in λ same. absurd (omega arith)))
        (own_rows e.icn e refl)

-- its rows join theirs
pub rows_submitted : (book : Numbers) (seq : ℕ) (e : InterchangeRow) (s : Stored) → IsWholeEntry e → All (λ x. x.icn < e.icn) (entries s) → s.sets ≡ flat_map rows_of_entry (entries s)
    → s.sets ++ rows_of_entry e ≡ flat_map rows_of_entry (entries (stored_after (record { book = book; seq = seq; change = Submits e }) s))
rows_submitted book seq e s whole below rows =
    ap (λ ts. ts ++ rows_of_entry e) rows ∙ ap (λ ts. flat_map rows_of_entry (entries s) ++ ts) (sym (append-nil (rows_of_entry e)))
    ∙ sym (flat_map-append rows_of_entry (entries s) (e ∷ []))
    ∙ ap (flat_map rows_of_entry) (sym (entries_submitted book seq e s whole below rows))
