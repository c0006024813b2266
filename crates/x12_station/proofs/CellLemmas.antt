-- A submission's sets with their places: of its rows in the records, of its keys, of its bytes and of its entry with fates.
use Rattle.std.specs.Prelude.{◌≡◌, ℕ, zero, suc, ◌+◌, ◌-◌, List, [], ◌∷◌, ◌++◌, Bool, true, false, ◌||◌, if◌then◌else◌, map, flat_map, Option, Some, None, option_and_then, slice_get, Contains, refl}
use Rattle.std.specs.List.{enumerate_from, list_any}
use mathlib.Core.Path.{sym, ap, ap₂, subst, ◌∙◌}
use mathlib.Core.Logic.{inl, inr}
use native.Mathlib.Omega.{arith}
use Rattle.std.proofs.lemmas.List.{map-append}
use Rattle.std.proofs.lemmas.Bool.Decides.{eqb_tells}
use Rattle.x12_envelopes.specs.declared.header.Header.{Header}
use Rattle.x12_envelopes.specs.declared.party.Party.{Party}
use Rattle.x12_envelopes.specs.Shape.{Interchange, FunctionalGroup, TransactionSet as ReadSet}
use Rattle.x12_acks.specs.Submission.{Submission, SubmittedGroup, SubmittedSet, KeyedSet, keyed_group, keyed_groups, keyed_sets, submitted_set, submitted_group, submission_of}
use Rattle.x12_outbound.specs.declared.fate.Fate.{Fate}
use Rattle.x12_outbound.specs.Fate.{is_pending}
use Rattle.x12_outbound.specs.Entry.{SetRow, GroupRow, InterchangeRow, row_is_open, at_place}
use Rattle.x12_profile.specs.Interchange.{Bytes, PlaceOfSet, PlacedTransactionSet}
use Rattle.x12_profile.specs.X12.{x12, sets_of_group, sets_by_place}
use Rattle.x12_station.specs.History.{Item, fate_in}
use Rattle.x12_station.specs.Stored.{StoredSet, rows_of_group, rows_of_entry}
use Rattle.x12_station.specs.Durable.{fared_entry}
use Rattle.x12_station.proofs.ListLemmas.{contains_map, contains_flat_map, flat_map_contains}
use Rattle.x12_numbers.proofs.Shelf.{none_in_nil, contains_cons, contains_head, contains_tail, contains_mapped, any_append, enumerate_mapped, flat_map_same_at, list_any-map, map_twice}

-- a submitted set with its place and its group
pub record Cell : Type 0 where
  pub group : ℕ
  pub set : ℕ
  pub functional : List ℕ
  pub gcn : ℕ
  pub number : List ℕ

abbrev pub cell_of : ℕ × SubmittedGroup → ℕ × SubmittedSet → Cell
cell_of g s = record { group = g.0; set = s.0; functional = g.1.functional; gcn = g.1.number; number = s.1.number }

abbrev pub cells_in : ℕ × SubmittedGroup → List Cell
cells_in g = map (cell_of g) (enumerate_from 1 g.1.sets)

abbrev pub cells_of : List SubmittedGroup → List Cell
cells_of gs = flat_map cells_in (enumerate_from 1 gs)

-- Lists by place.

module _ {X Y : Type 0} where
  pub enumerate_map : (h : ℕ × X → Y) (n : ℕ) (xs : List X) → enumerate_from n (map h (enumerate_from n xs)) ≡ map (λ p. (p.0, h p)) (enumerate_from n xs)
  enumerate_map h n [] = refl
  enumerate_map h n (x ∷ xs) = ap (λ l. (n, h (n, x)) ∷ l) (enumerate_map h (n + 1) xs)

module _ {X Y Z : Type 0} where
  pub flat_map_map : (f : Y → List Z) (g : X → Y) (xs : List X) → flat_map f (map g xs) ≡ flat_map (λ x. f (g x)) xs
  flat_map_map f g [] = refl
  flat_map_map f g (x ∷ xs) = ap (λ l. f (g x) ++ l) (flat_map_map f g xs)

  pub map_flat_map : (f : Y → Z) (g : X → List Y) (xs : List X) → map f (flat_map g xs) ≡ flat_map (λ x. map f (g x)) xs
  map_flat_map f g [] = refl
  map_flat_map f g (x ∷ xs) = map-append f (g x) (flat_map g xs) ∙ ap (λ l. map f (g x) ++ l) (map_flat_map f g xs)

module _ {X Y : Type 0} where
  -- lists by a function that is the same at each element
  pub map_same_at : (f g : X → Y) (xs : List X) → ((x : X) → Contains xs x → f x ≡ g x) → map f xs ≡ map g xs
  map_same_at f g [] same = refl
  map_same_at f g (x ∷ xs) same = ap₂ (λ y ys. y ∷ ys) (same x (contains_head x xs)) (map_same_at f g xs (λ z at. same z (contains_tail z x xs at)))

or_assoc : (a b c : Bool) → ((a || b) || c) ≡ (a || (b || c))
or_assoc true b c = refl
or_assoc false b c = refl

module _ {X : Type 0} where
  pub any_same_at : (f g : X → Bool) (xs : List X) → ((x : X) → Contains xs x → f x ≡ g x) → list_any f xs ≡ list_any g xs
  any_same_at f g [] same = refl
  any_same_at f g (x ∷ xs) same = ap₂ (λ a b. a || b) (same x (contains_head x xs)) (any_same_at f g xs (λ z at. same z (contains_tail z x xs at)))

module _ {X Y : Type 0} where
  pub any_flat_map : (f : Y → Bool) (g : X → List Y) (xs : List X) → list_any f (flat_map g xs) ≡ list_any (λ x. list_any f (g x)) xs
  any_flat_map f g [] = refl
  any_flat_map f g (x ∷ xs) = any_append f (g x) (flat_map g xs) ∙ ap (λ b. list_any f (g x) || b) (any_flat_map f g xs)

module _ {X : Type 0} where
  numbered_below : (n : ℕ) (xs : List X) (p : ℕ × X) → Contains (enumerate_from n xs) p → (d : ℕ) × (p.0 ≡ n + d) × (slice_get xs d ≡ Some p.1)
  numbered_below n [] p at = none_in_nil p at
  numbered_below n (x ∷ xs) p at = elim (contains_cons p (n, x) (enumerate_from (n + 1) xs) at) [
    | inl here ↦ subst (λ (q : ℕ × X). (d : ℕ) × (q.0 ≡ n + d) × (slice_get (x ∷ xs) d ≡ Some q.1)) here (0, omega arith, refl)
    | inr later ↦ let rest = numbered_below (n + 1) xs p later in let count = rest.1 in (suc rest.0, omega (arith, count), rest.2)
  ]

  below_numbered : (n : ℕ) (xs : List X) (d : ℕ) (x : X) → slice_get xs d ≡ Some x → Contains (enumerate_from n xs) (n + d, x)
  below_numbered n [] d x is = absurd cc
  below_numbered n (y ∷ xs) zero x is =
      let same : y ≡ x = cc in
      let none : n + 0 ≡ n = omega arith in
      subst (λ (q : ℕ × X). Contains ((n, y) ∷ enumerate_from (n + 1) xs) q) (ap₂ (λ (i : ℕ) (z : X). pair i z) (sym none) same) (contains_head (n, y) (enumerate_from (n + 1) xs))
    where
      pair : ℕ → X → ℕ × X
      pair i z = (i, z)
  below_numbered n (y ∷ xs) (suc d) x is =
      let one : (n + 1) + d ≡ n + suc d = omega arith in
      contains_tail (n + suc d, x) (n, y) (enumerate_from (n + 1) xs) (subst (λ (i : ℕ). Contains (enumerate_from (n + 1) xs) (i, x)) one (below_numbered (n + 1) xs d x is))

  -- an element with its number stands at that place, and the other way round
  pub numbered_at : (xs : List X) (p : ℕ × X) → Contains (enumerate_from 1 xs) p → at_place p.0 xs ≡ Some p.1
  numbered_at xs p at =
      let found = numbered_below 1 xs p at in
      let count : p.0 ≡ 1 + found.0 = found.1 in
      let less : 1 + found.0 - 1 ≡ found.0 = omega arith in
      elim (eqb_tells (1 + found.0) 0) [
        | inl none ↦ let zero_is = none.1 in absurd (omega (arith, zero_is))
        | inr some ↦ rw (count, some.0, less) found.2
      ]

  pub at_numbered : (xs : List X) (i : ℕ) (x : X) → at_place i xs ≡ Some x → Contains (enumerate_from 1 xs) (i, x)
  at_numbered xs i x is = elim (eqb_tells i 0) [
    | inl none ↦ let nothing : None ≡ Some x = ap (λ (b : Bool). if b then None else slice_get xs (i - 1)) (sym none.0) ∙ is in absurd (let no : ⊥ = cc in no)
    | inr some ↦
        let apart = some.1 in
        let there : slice_get xs (i - 1) ≡ Some x = ap (λ (b : Bool). if b then None else slice_get xs (i - 1)) (sym some.0) ∙ is in
        let one : 1 + (i - 1) ≡ i = omega (arith, apart) in
        subst (λ n. Contains (enumerate_from 1 xs) (n, x)) one (below_numbered 1 xs (i - 1) x there)
  ]

-- A submission's entry with these fates, by place.

module _ (fate : ℕ → ℕ → Fate) where
  abbrev pub set_by : ℕ → ℕ × SubmittedSet → SetRow
  set_by group s = record { number = s.1.number; fate = fate group s.0; is_out = false }

  abbrev pub group_by : ℕ × SubmittedGroup → GroupRow
  group_by g = record { functional = g.1.functional; number = g.1.number; sets = map (set_by g.0) (enumerate_from 1 g.1.sets) }

  abbrev pub entry_by : Submission → InterchangeRow
  entry_by e = record { icn = e.icn; receiver = e.receiver; bytes = e.bytes; groups = map group_by (enumerate_from 1 e.groups) }

  -- its rows
  abbrev pub row_by : ℕ → Cell → StoredSet
  row_by icn c = record { icn = icn; group = c.group; set = c.set; functional = c.functional; gcn = c.gcn; number = c.number; fate = fate c.group c.set }

  group_rows : (icn : ℕ) (g : ℕ × SubmittedGroup) → rows_of_group icn (g.0, group_by g) ≡ map (row_by icn) (cells_in g)
  group_rows icn g =
      ap (map (λ (s : ℕ × SetRow). row_of s)) (enumerate_map (set_by g.0) 1 g.1.sets)
      ∙ map_twice (λ (s : ℕ × SetRow). row_of s) (λ (p : ℕ × SubmittedSet). (p.0, set_by g.0 p)) (enumerate_from 1 g.1.sets)
      ∙ sym (map_twice (row_by icn) (cell_of g) (enumerate_from 1 g.1.sets))
    where
      row_of : ℕ × SetRow → StoredSet
      row_of s = record { icn = icn; group = g.0; set = s.0; functional = g.1.functional; gcn = g.1.number; number = s.1.number; fate = s.1.fate }

  pub rows_by : (e : Submission) → rows_of_entry (entry_by e) ≡ map (row_by e.icn) (cells_of e.groups)
  unfolding rows_of_entry
  rows_by e =
      ap (flat_map (rows_of_group e.icn)) (enumerate_map group_by 1 e.groups)
      ∙ flat_map_map (rows_of_group e.icn) (λ (p : ℕ × SubmittedGroup). (p.0, group_by p)) (enumerate_from 1 e.groups)
      ∙ flat_map_same_at (λ (p : ℕ × SubmittedGroup). rows_of_group e.icn (p.0, group_by p)) (λ (p : ℕ × SubmittedGroup). map (row_by e.icn) (cells_in p)) (enumerate_from 1 e.groups) (λ g at. group_rows e.icn g)
      ∙ sym (map_flat_map (row_by e.icn) cells_in (enumerate_from 1 e.groups))

  -- open, if a set of it is pending
  abbrev pub cell_is_pending : Cell → Bool
  cell_is_pending c = is_pending (fate c.group c.set)

  group_open : (g : ℕ × SubmittedGroup) → list_any (λ s. is_pending s.fate) (group_by g).sets ≡ list_any cell_is_pending (cells_in g)
  group_open g = list_any-map (λ (s : SetRow). is_pending s.fate) (set_by g.0) (enumerate_from 1 g.1.sets) ∙ sym (list_any-map cell_is_pending (cell_of g) (enumerate_from 1 g.1.sets))

  pub open_by : (e : Submission) → row_is_open (entry_by e) ≡ list_any cell_is_pending (cells_of e.groups)
  open_by e =
      list_any-map (λ (g : GroupRow). list_any (λ s. is_pending s.fate) g.sets) group_by (enumerate_from 1 e.groups)
      ∙ any_same_at (λ (g : ℕ × SubmittedGroup). list_any (λ s. is_pending s.fate) (group_by g).sets) (λ (g : ℕ × SubmittedGroup). list_any cell_is_pending (cells_in g)) (enumerate_from 1 e.groups) (λ g at. group_open g)
      ∙ sym (any_flat_map cell_is_pending cells_in (enumerate_from 1 e.groups))

-- the entry with the fates of the history
pub fared_is : (me : Party) (hubs : List Party) (items : List Item) (e : Submission) → fared_entry me hubs items e ≡ entry_by (λ group set. fate_in x12 me hubs items e.bytes (record { group = group; set = set })) e
unfolding fared_entry
fared_is me hubs items e = refl

-- its keys
abbrev pub keyed_by : Submission → Cell → KeyedSet
keyed_by e c = record { key = record { sender = e.sender; icn = e.icn; group = c.group; set = c.set }; number = c.number }

group_keys : (e : Submission) (g : ℕ × SubmittedGroup) → (keyed_group e g.0 g.1).sets ≡ map (keyed_by e) (cells_in g)
group_keys e g = sym (map_twice (keyed_by e) (cell_of g) (enumerate_from 1 g.1.sets))

pub keys_by : (e : Submission) → keyed_sets e ≡ map (keyed_by e) (cells_of e.groups)
unfolding keyed_sets keyed_groups
keys_by e =
    flat_map_map (λ g. g.sets) (λ (g : ℕ × SubmittedGroup). keyed_group e g.0 g.1) (enumerate_from 1 e.groups)
    ∙ flat_map_same_at (λ (g : ℕ × SubmittedGroup). (keyed_group e g.0 g.1).sets) (λ (g : ℕ × SubmittedGroup). map (keyed_by e) (cells_in g)) (enumerate_from 1 e.groups) (λ g at. group_keys e g)
    ∙ sym (map_flat_map (keyed_by e) cells_in (enumerate_from 1 e.groups))

-- the places of the sets of its bytes
abbrev pub place_by : Cell → PlaceOfSet
place_by c = record { group = c.group; set = c.set }

group_places : (g : ℕ × FunctionalGroup) → map (λ t. t.place) (sets_of_group g) ≡ map place_by (cells_in (g.0, submitted_group g.1))
group_places g =
    map_twice (λ (t : PlacedTransactionSet). t.place) (λ (s : ℕ × ReadSet). set_at s) (enumerate_from 1 g.1.sets)
    ∙ sym (ap (λ l. map place_by (map (cell_of (g.0, submitted_group g.1)) l)) (enumerate_mapped submitted_set 1 g.1.sets)
    ∙ ap (map place_by) (map_twice (cell_of (g.0, submitted_group g.1)) (λ (p : ℕ × ReadSet). (p.0, submitted_set p.1)) (enumerate_from 1 g.1.sets))
    ∙ map_twice place_by (λ (p : ℕ × ReadSet). cell_of (g.0, submitted_group g.1) (p.0, submitted_set p.1)) (enumerate_from 1 g.1.sets))
  where
    set_at : ℕ × ReadSet → PlacedTransactionSet
    set_at s = record {
      place = record { group = g.0; set = s.0 };
      functional = g.1.functional;
      set = s.1.set;
      number = s.1.number;
      bytes = s.1.bytes;
    }

pub places_by : (h : Header) (x : Bytes) (o : Interchange) → map (λ t. t.place) (sets_by_place o) ≡ map place_by (cells_of (submission_of h x o).groups)
unfolding submission_of
places_by h x o =
    map_flat_map (λ (t : PlacedTransactionSet). t.place) sets_of_group (enumerate_from 1 o.groups)
    ∙ flat_map_same_at (λ (g : ℕ × FunctionalGroup). map (λ (t : PlacedTransactionSet). t.place) (sets_of_group g)) (λ (g : ℕ × FunctionalGroup). map place_by (cells_in (g.0, submitted_group g.1))) (enumerate_from 1 o.groups) (λ g at. group_places g)
    ∙ sym (ap (λ l. map place_by (flat_map cells_in l)) (enumerate_mapped submitted_group 1 o.groups)
    ∙ ap (map place_by) (flat_map_map cells_in (λ (p : ℕ × FunctionalGroup). (p.0, submitted_group p.1)) (enumerate_from 1 o.groups))
    ∙ map_flat_map place_by (λ (p : ℕ × FunctionalGroup). cells_in (p.0, submitted_group p.1)) (enumerate_from 1 o.groups))

-- What stands at a place.

abbrev pub set_at : List SubmittedGroup → ℕ → ℕ → Option SubmittedSet
set_at gs group set = option_and_then (λ g. at_place set g.sets) (at_place group gs)

pub cell_at : (gs : List SubmittedGroup) (c : Cell) → Contains (cells_of gs) c → set_at gs c.group c.set ≡ Some (record { number = c.number })
cell_at gs c at =
    let in_group = contains_flat_map cells_in (enumerate_from 1 gs) c at in
    let g = in_group.0 in
    let in_set = contains_map (cell_of g) (enumerate_from 1 g.1.sets) c in_group.2 in
    subst (λ d. set_at gs d.group d.set ≡ Some (record { number = d.number })) in_set.2
    (ap (option_and_then (λ (h : SubmittedGroup). at_place in_set.0.0 h.sets)) (numbered_at gs g in_group.1) ∙ numbered_at g.1.sets in_set.0 in_set.1)

pub at_cell : (gs : List SubmittedGroup) (group set : ℕ) (s : SubmittedSet) → set_at gs group set ≡ Some s → (c : Cell) × Contains (cells_of gs) c × (c.group ≡ group) × (c.set ≡ set)
at_cell gs group set s is = by (at_place group gs) refl is
  where
    by : (o : Option SubmittedGroup) → at_place group gs ≡ o → option_and_then (λ g. at_place set g.sets) o ≡ Some s → (c : Cell) × Contains (cells_of gs) c × (c.group ≡ group) × (c.set ≡ set)
    by None there is = absurd (let no : ⊥ = cc in no)
    by (Some g) there is =
        let c = cell_of (group, g) (set, s) in
        (c, flat_map_contains cells_in (enumerate_from 1 gs) (group, g) c (at_numbered gs group g there) (contains_mapped (cell_of (group, g)) (enumerate_from 1 g.sets) (set, s) (at_numbered g.sets set s is)), refl, refl)
