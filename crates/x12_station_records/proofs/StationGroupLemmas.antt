-- Transaction sets put one behind the other, and what groups of a submission are.
use Rattle.std.proofs.Common.{◌≡◌, ◌<◌, ◌≤◌, ◌+◌, ◌++◌, ◌∙◌, nat_le, zero, suc, ℕ, true, false, List, [], ◌∷◌, length, get_or, drop, map, flat_map, All, AllPairs, refl, sym, subst, ap, ap₂, arith, append-nil, append_assoc}
use Rattle.std.specs.List.{enumerate_from, sum_by}
use Rattle.std.proofs.lemmas.Bool.Decides.{nat_tests}
use Rattle.std.proofs.lemmas.List.{length-map, length-append}
use Rattle.std.proofs.lemmas.List.Elements.{All-cons, All-nil, All-head, All-tail}
use Rattle.std.proofs.lemmas.List.Kept.{AllPairs-cons}
use Rattle.std.proofs.lemmas.List.Sums.{sum_by-cons}
use Rattle.sqlite.specs.Order.{Row}
use Rattle.x12_acks.specs.Submission.{SubmittedGroup}
use Rattle.x12_envelopes.specs.declared.party.Party.{Party}
use Rattle.x12_outbound.specs.declared.entry.EntryGroup.{EntryGroup}
use Rattle.x12_outbound.specs.Entry.{InterchangeRow, GroupRow, SetRow, set_row, group_row, submission_of_entry, submitted_group_of_row, submitted_set_of_row, IsSendable}
use Rattle.x12_station.specs.Stored.{StoredSet, rows_of_group}
use Rattle.x12_numbers.proofs.Shelf.{all_of_one, all_push, enumerate_push, pairs_to_map}
use Rattle.std.proofs.lemmas.Bool.{and_parts}
use Rattle.x12_station_records.proofs.StationOpenLemmas.{map_last}
use Rattle.x12_station_records.specs.StationGroups.{rows_of_groups, placed_set_view, AreWhole, set_shown, are_rising, AreSendable}
use Rattle.x12_station_records.specs.declared.station_groups.PlacedSet.{PlacedSet}

abbrev SetLaid : SetRow → Type 0
SetLaid t = t.is_out ≡ false

abbrev GroupLaid : GroupRow → Type 0
GroupLaid g = All SetLaid g.sets

abbrev Filled : GroupRow → Type 0
Filled g = 0 < length g.sets

flat_last : {X Y : Type 0} (f : X → List Y) (xs : List X) (x : X) → flat_map f (xs ++ x ∷ []) ≡ flat_map f xs ++ f x
flat_last f [] x = append-nil (f x)
flat_last f (y ∷ ys) x = ap (λ more. f y ++ more) (flat_last f ys x) ∙ sym (append_assoc (f y) (flat_map f ys) (f x))

-- the rows of the last group stand behind the others
group_last : (icn : ℕ) (gs : List GroupRow) (g : GroupRow) → rows_of_groups icn (gs ++ g ∷ []) ≡ rows_of_groups icn gs ++ rows_of_group icn (1 + length gs, g)
group_last icn gs g = ap (flat_map (rows_of_group icn)) (enumerate_push 1 gs g) ∙ flat_last (rows_of_group icn) (enumerate_from 1 gs) (1 + length gs, g)

-- the row of a transaction set of a group
abbrev pub row_in : ℕ → ℕ → GroupRow → ℕ × SetRow → StoredSet
row_in icn n g s = record { icn = icn; group = n; set = s.0; functional = g.functional; gcn = g.number; number = s.1.number; fate = s.1.fate }

set_last : (icn n : ℕ) (g : GroupRow) (t : SetRow) → rows_of_group icn (n, record g { sets = g.sets ++ t ∷ [] }) ≡ rows_of_group icn (n, g) ++ row_in icn n g (1 + length g.sets, t) ∷ []
set_last icn n g t = ap (map (row_in icn n g)) (enumerate_push 1 g.sets t) ∙ map_last (row_in icn n g) (enumerate_from 1 g.sets) (1 + length g.sets, t)

pub started : (icn : ℕ) (gs : List GroupRow) (p : PlacedSet) (g : GroupRow) → p.group ≡ length gs + 1 → p.place ≡ 1 → g.functional ≡ p.functional → g.number ≡ p.gcn → g.sets ≡ set_row p.set ∷ []
    → rows_of_groups icn (gs ++ g ∷ []) ≡ rows_of_groups icn gs ++ placed_set_view icn p ∷ []
started icn gs p g place first functional gcn sets =
    let at : 1 + length gs ≡ p.group = omega (arith, place) in
    group_last icn gs g ∙ rw (at, sets, first, functional, gcn) refl

pub joined : (icn : ℕ) (gs : List GroupRow) (p : PlacedSet) (g h : GroupRow) → p.group ≡ length gs + 1 → p.place ≡ length g.sets + 1 → p.functional ≡ g.functional → p.gcn ≡ g.number → h ≡ record g { sets = g.sets ++ set_row p.set ∷ [] }
    → rows_of_groups icn (gs ++ h ∷ []) ≡ rows_of_groups icn (gs ++ g ∷ []) ++ placed_set_view icn p ∷ []
joined icn gs p g h place next functional gcn is =
    let at : 1 + length gs ≡ p.group = omega (arith, place) in
    let last : 1 + length g.sets ≡ p.place = omega (arith, next) in
    let row : row_in icn (1 + length gs) g (1 + length g.sets, set_row p.set) ≡ placed_set_view icn p = rw (at, last, functional, gcn) refl in
    ap (λ x. rows_of_groups icn (gs ++ x ∷ [])) is
    ∙ group_last icn gs (record g { sets = g.sets ++ set_row p.set ∷ [] })
    ∙ ap (λ ts. rows_of_groups icn gs ++ ts) (set_last icn (1 + length gs) g (set_row p.set) ∙ ap (λ t. rows_of_group icn (1 + length gs, g) ++ t ∷ []) row)
    ∙ sym (append_assoc (rows_of_groups icn gs) (rows_of_group icn (1 + length gs, g)) (placed_set_view icn p ∷ []))
    ∙ ap (λ ts. ts ++ placed_set_view icn p ∷ []) (sym (group_last icn gs g))

pub started_whole : (gs : List GroupRow) (p : PlacedSet) (g : GroupRow) → AreWhole gs → (set_row p.set).is_out ≡ false → g.sets ≡ set_row p.set ∷ [] → AreWhole (gs ++ g ∷ [])
started_whole gs p g whole laid sets = record {
  laid = all_push GroupLaid gs g whole.laid (rw sets (all_of_one SetLaid (set_row p.set) laid));
  sets = all_push Filled gs g whole.sets (rw sets (omega arith));
}

but_last : {X : Type 0} (P : X → Type 0) (xs : List X) (x : X) → All P (xs ++ x ∷ []) → All P xs × P x
but_last P [] x h = (All-nil P, All-head P x [] h)
but_last P (y ∷ ys) x h = let rest = but_last P ys x (All-tail P y (ys ++ x ∷ []) h) in (All-cons P y ys (All-head P y (ys ++ x ∷ []) h) rest.0, rest.1)

more : (ts : List SetRow) (t : SetRow) → 0 < length (ts ++ t ∷ [])
more [] t = omega arith
more (x ∷ ts) t = omega arith

pub joined_whole : (gs : List GroupRow) (p : PlacedSet) (g h : GroupRow) → AreWhole (gs ++ g ∷ []) → (set_row p.set).is_out ≡ false → h ≡ record g { sets = g.sets ++ set_row p.set ∷ [] } → AreWhole (gs ++ h ∷ [])
joined_whole gs p g h whole laid is =
    let old_laid = but_last GroupLaid gs g whole.laid in
    let old_sets = but_last Filled gs g whole.sets in
    record {
      laid = all_push GroupLaid gs h old_laid.0 (rw is (all_push SetLaid g.sets (set_row p.set) old_laid.1 laid));
      sets = all_push Filled gs h old_sets.0 (rw is (more g.sets (set_row p.set)));
    }

-- the code's groups
module _ (before popped after : List EntryGroup) (group pushed : EntryGroup) (p : PlacedSet) (was : before ≡ popped ++ group ∷ []) (is : after ≡ popped ++ pushed ∷ [])
    (functional : pushed.functional ≡ group.functional) (gcn : pushed.gcn ≡ group.gcn) (sets : pushed.sets.items ≡ group.sets.items ++ p.set ∷ []) where
  grown : group_row pushed ≡ record (group_row group) { sets = (group_row group).sets ++ set_row p.set ∷ [] }
  grown = rw (functional, gcn, sets, map_last set_row group.sets.items p.set) refl

  old_groups : map group_row before ≡ map group_row popped ++ group_row group ∷ []
  old_groups = ap (map group_row) was ∙ map_last group_row popped group

  new_groups : map group_row after ≡ map group_row popped ++ group_row pushed ∷ []
  new_groups = ap (map group_row) is ∙ map_last group_row popped pushed

  pub join_placed : p.group ≡ length before → p.place ≡ length (group_row group).sets + 1 → p.functional ≡ group.functional → p.gcn ≡ group.gcn → (icn : ℕ)
      → rows_of_groups icn (map group_row after) ≡ rows_of_groups icn (map group_row before) ++ placed_set_view icn p ∷ []
  join_placed at next same_functional same_gcn icn =
      let many : length before ≡ length popped + 1 = ap length was ∙ length-append popped (group ∷ []) in
      let place : p.group ≡ length (map group_row popped) + 1 = omega (arith, at, many, length-map popped group_row) in
      ap (rows_of_groups icn) new_groups
      ∙ joined icn (map group_row popped) p (group_row group) (group_row pushed) place next same_functional same_gcn grown
      ∙ ap (λ gs. rows_of_groups icn gs ++ placed_set_view icn p ∷ []) (sym old_groups)

  pub join_whole : AreWhole (map group_row before) → (set_row p.set).is_out ≡ false → AreWhole (map group_row after)
  join_whole whole laid = subst AreWhole (sym new_groups) (joined_whole (map group_row popped) p (group_row group) (group_row pushed) (subst AreWhole old_groups whole) laid grown)

module _ (before after : List EntryGroup) (pushed : EntryGroup) (p : PlacedSet) (is : after ≡ before ++ pushed ∷ []) (sets : pushed.sets.items ≡ p.set ∷ []) where
  more_groups : map group_row after ≡ map group_row before ++ group_row pushed ∷ []
  more_groups = ap (map group_row) is ∙ map_last group_row before pushed

  pub start_placed : pushed.functional ≡ p.functional → pushed.gcn ≡ p.gcn → p.group ≡ length before + 1 → p.place ≡ 1 → (icn : ℕ)
      → rows_of_groups icn (map group_row after) ≡ rows_of_groups icn (map group_row before) ++ placed_set_view icn p ∷ []
  start_placed functional gcn at first icn =
      let place : p.group ≡ length (map group_row before) + 1 = omega (arith, at, length-map before group_row) in
      ap (rows_of_groups icn) more_groups ∙ started icn (map group_row before) p (group_row pushed) place first functional gcn (ap (map set_row) sets)

  pub start_whole : AreWhole (map group_row before) → (set_row p.set).is_out ≡ false → AreWhole (map group_row after)
  start_whole whole laid = subst AreWhole (sym more_groups) (started_whole (map group_row before) p (group_row pushed) whole laid (ap (map set_row) sets))

-- a row more was put in
pub left_next : {X : Type 0} (i : ℕ) (xs : List X) (d x : X) → i < length xs → get_or xs i d ≡ x → drop i xs ≡ x ∷ drop (suc i) xs
left_next i [] d x low is = absurd (omega (arith, low))
left_next zero (y ∷ ys) d x low is = ap (λ z. z ∷ ys) is
left_next (suc i) (y ∷ ys) d x low is = left_next i ys d x (omega (arith, low)) is

pub put_next : (icn : ℕ) (old new : List GroupRow) (p : PlacedSet) (rows : List Row) (i : ℕ) (d row : Row) → i < length rows → get_or rows i d ≡ row → placed_set_view icn p ≡ set_shown icn row
    → rows_of_groups icn new ≡ rows_of_groups icn old ++ placed_set_view icn p ∷ [] → rows_of_groups icn old ++ map (set_shown icn) (drop i rows) ≡ map (set_shown icn) rows
    → rows_of_groups icn new ++ map (set_shown icn) (drop (i + 1) rows) ≡ map (set_shown icn) rows
put_next icn old new p rows i d row low is shown put so_far =
    let e : i + 1 ≡ suc i = omega arith in
    let f : Row → StoredSet = set_shown icn in
    ap₂ (λ ts k. ts ++ map f (drop k rows)) put e
    ∙ append_assoc (rows_of_groups icn old) (placed_set_view icn p ∷ []) (map f (drop (suc i) rows))
    ∙ ap (λ t. rows_of_groups icn old ++ t ∷ map f (drop (suc i) rows)) shown
    ∙ ap (λ rs. rows_of_groups icn old ++ map f rs) (sym (left_next i rows d row low is))
    ∙ so_far

-- What can be sent.
all_from : (n : ℕ) (gs : List GroupRow) → are_rising n gs ≡ true → All (λ g. n ≤ g.number) gs
all_from n [] h = All-nil (λ g. n ≤ g.number)
all_from n (g ∷ gs) h =
    let parts = and_parts (nat_le n g.number) (are_rising (g.number + 1) gs) h in
    let here : n ≤ g.number = grind (arith, nat_tests, parts.0) in
    let rest = all_from (g.number + 1) gs parts.1 in
    All-cons (λ g. n ≤ g.number) g gs here (λ i d within. omega (arith, here, rest i d within))

pub rising_pairs : (n : ℕ) (gs : List GroupRow) → are_rising n gs ≡ true → AllPairs (λ g h. g.number < h.number) gs
rising_pairs n [] h = λ i j d before within. absurd (omega (arith, within))
rising_pairs n (g ∷ gs) h =
    let parts = and_parts (nat_le n g.number) (are_rising (g.number + 1) gs) h in
    let rest = all_from (g.number + 1) gs parts.1 in
    AllPairs-cons (λ g h. g.number < h.number) g gs (λ i d within. omega (arith, rest i d within)) (rising_pairs (g.number + 1) gs parts.1)

pub sizes : (gs : List GroupRow) → sum_by (λ (g : SubmittedGroup). length g.sets) (map submitted_group_of_row gs) ≡ sum_by (λ (g : GroupRow). length g.sets) gs
sizes [] = refl
sizes (g ∷ gs) =
    sum_by-cons (λ (g : SubmittedGroup). length g.sets) (submitted_group_of_row g) (map submitted_group_of_row gs)
    ∙ ap₂ (λ a b. a + b) (length-map g.sets submitted_set_of_row) (sizes gs)
    ∙ sym (sum_by-cons (λ (g : GroupRow). length g.sets) g gs)

-- a submission with such groups can be sent
pub sendable : (e : InterchangeRow) → AreSendable e.groups → (me : Party) → IsSendable (submission_of_entry me e)
sendable e can me = record {
  has_group = omega (arith, can.has_group, length-map e.groups submitted_group_of_row);
  groups_rise = pairs_to_map submitted_group_of_row (λ g h. g.number < h.number) e.groups can.groups_rise;
  few_groups = omega (arith, can.few_groups, length-map e.groups submitted_group_of_row);
  few_sets = omega (arith, can.few_sets, sizes e.groups);
}

-- each test that was passed
pub are_sendable : (gs : List GroupRow) → 0 < length gs → length gs ≤ 32 → sum_by (λ (g : GroupRow). length g.sets) gs ≤ 400 → are_rising 0 gs ≡ true → AreSendable gs
are_sendable gs some groups sets rise = record {
  has_group = some;
  groups_rise = rising_pairs 0 gs rise;
  few_groups = groups;
  few_sets = sets;
}
