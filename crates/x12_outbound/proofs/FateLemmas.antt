-- A change of one transaction set, seen by keys: it changes this set alone.
use Rattle.std.proofs.Common.{ℕ, ◌≡◌, ◌-◌, ◌==◌, ◌∙◌, ap, sym, zero, suc, inl, inr, true, false, List, [], ◌∷◌, map, find, set, slice_get, Option, Some, None, option_map, option_and_then, arith, refl, eqb-true}
use Rattle.std.proofs.lemmas.Bool.{cases_Bool}
use Rattle.std.proofs.lemmas.Bool.Decides.{nat_tests}
use Rattle.std.proofs.lemmas.Option.{slice_get_cases}
use Rattle.x12_envelopes.specs.declared.party.Party.{Party}
use Rattle.x12_judge.specs.Agreement.{is_same_party}
use Rattle.x12_acks.specs.Submission.{TransactionSetKey}
use Rattle.x12_acks.specs.Key.{is_same_key}
use Rattle.x12_outbound.specs.Entry.{SetRow, GroupRow, InterchangeRow, at_place, with_place, set_row_at, with_set_at}
use Rattle.x12_outbound.specs.Ledger.{LedgerRow, interchange_in, row_in, with_set_of, numbers_of_set, numbers_in_group, numbers_in, numbers_in_rows}
use Rattle.x12_outbound.proofs.RowLemmas.{here, kept}
use Rattle.x12_judge.proofs.Shelf.{same_party}
use Rattle.x12_acks.proofs.ReplyGroupLemmas.{same_party_itself}
use Rattle.x12_numbers.proofs.Shelf.{slice_get_set_same}

pub slice_get_set_other : {X : Type 0} (xs : List X) (i j : ℕ) (y : X) → (j ≡ i → ⊥) → slice_get (set xs i y) j ≡ slice_get xs j
slice_get_set_other [] i j y other = refl
slice_get_set_other (z ∷ xs) zero zero y other = absurd (other refl)
slice_get_set_other (z ∷ xs) zero (suc j) y other = refl
slice_get_set_other (z ∷ xs) (suc i) zero y other = refl
slice_get_set_other (z ∷ xs) (suc i) (suc j) y other = slice_get_set_other xs i j y (λ same. other (ap suc same))

-- the same place, and another place
pub at_same_place : {X : Type 0} (f : X → X) (place : ℕ) (xs : List X) → at_place place (with_place f place xs) ≡ option_map f (at_place place xs)
at_same_place f place xs = elim (cases_Bool (place == 0)) [
  | inl none ↦ rw none refl
  | inr some ↦ rw some (elim ((slice_get_cases xs (place - 1)).1) [
    | inl found ↦ rw found.2 (rw (slice_get_set_same xs (place - 1) (f found.0) found.0 found.2) refl)
    | inr past ↦ rw past.1 (rw past.1 refl)
  ])
]

pub at_other_place : {X : Type 0} (f : X → X) (place other : ℕ) (xs : List X) → (other ≡ place → ⊥) → at_place other (with_place f place xs) ≡ at_place other xs
at_other_place f place other xs differ = elim (cases_Bool (place == 0)) [
  | inl none ↦ rw none refl
  | inr some ↦ rw some (elim ((slice_get_cases xs (place - 1)).1) [
    | inl found ↦ rw found.2 (elim (cases_Bool (other == 0)) [
      | inl zeroth ↦ rw zeroth refl
      | inr later ↦ rw later (slice_get_set_other xs (place - 1) (other - 1) (f found.0) (λ same. differ (grind (arith, nat_tests))))
    ])
    | inr past ↦ rw past.1 refl
  ])
]

-- a set in an interchange of which a set was changed
pub set_at_same : (f : SetRow → SetRow) (group set : ℕ) (e : InterchangeRow) → set_row_at group set (with_set_at f group set e) ≡ option_map f (set_row_at group set e)
unfolding set_row_at with_set_at
set_at_same f group set e =
    let in_group = λ (g : GroupRow). record g { sets = with_place f set g.sets } in
    rw (at_same_place in_group group e.groups) (go (at_place group e.groups))
  where
    go : (g : Option GroupRow) → option_and_then (λ (h : GroupRow). at_place set h.sets) (option_map (λ (h : GroupRow). record h { sets = with_place f set h.sets }) g)
        ≡ option_map f (option_and_then (λ (h : GroupRow). at_place set h.sets) g)
    go None = refl
    go (Some g) = at_same_place f set g.sets

pub set_at_other : (f : SetRow → SetRow) (group set group' set' : ℕ) (e : InterchangeRow) → (group' ≡ group → set' ≡ set → ⊥)
    → set_row_at group' set' (with_set_at f group set e) ≡ set_row_at group' set' e
unfolding set_row_at with_set_at
set_at_other f group set group' set' e other = elim (cases_Bool (group' == group)) [
  | inl is ↦ rw (eqb-true group' group is) (rw (at_same_place (λ (g : GroupRow). record g { sets = with_place f set g.sets }) group e.groups) (go (at_place group e.groups) (other (eqb-true group' group is))))
  | inr not ↦ rw (at_other_place (λ (g : GroupRow). record g { sets = with_place f set g.sets }) group group' e.groups (λ same. differs group' group not same)) refl
]
  where
    differs : (a b : ℕ) → (a == b) ≡ false → a ≡ b → ⊥
    differs a b not same = grind (arith, nat_tests)

    go : (g : Option GroupRow) → (set' ≡ set → ⊥) → option_and_then (λ (h : GroupRow). at_place set' h.sets) (option_map (λ (h : GroupRow). record h { sets = with_place f set h.sets }) g)
        ≡ option_and_then (λ (h : GroupRow). at_place set' h.sets) g
    go None differ = refl
    go (Some g) differ = at_other_place f set set' g.sets differ

other_icn : (a b : ℕ) → (a == b) ≡ false → a ≡ b → ⊥
other_icn a b not same = grind (arith, nat_tests)

-- a change of a set keeps the numbers of interchanges
with_set_icn : (f : SetRow → SetRow) (key : TransactionSetKey) (r : LedgerRow) → (with_set_of f key r).interchange.icn ≡ r.interchange.icn
unfolding with_set_at
with_set_icn f key r = elim (cases_Bool (r.interchange.icn == key.icn)) [
  | inl is ↦ rw is refl
  | inr not ↦ rw not refl
]

-- the interchange of a number after the change
find_changed : (f : SetRow → SetRow) (key : TransactionSetKey) (icn : ℕ) (rows : List LedgerRow)
    → find (λ (r : LedgerRow). r.interchange.icn == icn) (map (with_set_of f key) rows)
    ≡ option_map (with_set_of f key) (find (λ (r : LedgerRow). r.interchange.icn == icn) rows)
find_changed f key icn [] = refl
find_changed f key icn (r ∷ rows) = rw (with_set_icn f key r) (elim (cases_Bool (r.interchange.icn == icn)) [
  | inl is ↦ rw is refl
  | inr not ↦ rw not (find_changed f key icn rows)
])

-- what find finds passes
found_passes : (icn : ℕ) (rows : List LedgerRow) (r : LedgerRow) → find (λ (r : LedgerRow). r.interchange.icn == icn) rows ≡ Some r → r.interchange.icn ≡ icn
found_passes icn [] r found = absurd (no found)
  where
    no : None ≡ Some r → ⊥
    no same = cc
found_passes icn (q ∷ rows) r found = elim (cases_Bool (q.interchange.icn == icn)) [
  | inl is ↦ same_icn q r icn is (rw is at found)
  | inr not ↦ found_passes icn rows r (rw not at found)
]
  where
    same_icn : (q r : LedgerRow) (icn : ℕ) → (q.interchange.icn == icn) ≡ true → Some q ≡ Some r → r.interchange.icn ≡ icn
    same_icn q r icn is same = let one : q ≡ r = cc in rw (← one) (grind (arith, nat_tests))

-- the set that was changed
pub row_changed : (f : SetRow → SetRow) (me : Party) (key : TransactionSetKey) (rows : List LedgerRow)
    → row_in me (map (with_set_of f key) rows) key ≡ option_map f (row_in me rows key)
unfolding row_in interchange_in
row_changed f me key rows = elim (cases_Bool (is_same_party key.sender me)) [
  | inl mine ↦ rw mine (rw (find_changed f key key.icn rows) (go (find (λ (r : LedgerRow). r.interchange.icn == key.icn) rows) (found_passes key.icn rows)))
  | inr other ↦ rw other refl
]
  where
    go : (o : Option LedgerRow) → ((r : LedgerRow) → o ≡ Some r → r.interchange.icn ≡ key.icn)
        → option_and_then (set_row_at key.group key.set) (option_map (λ (r : LedgerRow). r.interchange) (option_map (with_set_of f key) o))
        ≡ option_map f (option_and_then (set_row_at key.group key.set) (option_map (λ (r : LedgerRow). r.interchange) o))
    go None named = refl
    go (Some r) named = ap (λ (q : LedgerRow). set_row_at key.group key.set q.interchange) (here f key r (named r refl)) ∙ set_at_same f key.group key.set r.interchange

-- and every other set, of this sender's key
pub row_kept : (f : SetRow → SetRow) (me : Party) (key other : TransactionSetKey) (rows : List LedgerRow)
    → is_same_party key.sender me ≡ true → is_same_key key other ≡ false
    → row_in me (map (with_set_of f key) rows) other ≡ row_in me rows other
unfolding row_in interchange_in
row_kept f me key other rows mine differ = elim (cases_Bool (is_same_party other.sender me)) [
  | inl its ↦ rw its (rw (find_changed f key other.icn rows) (go (find (λ (r : LedgerRow). r.interchange.icn == other.icn) rows) (found_passes other.icn rows) its))
  | inr not ↦ rw not refl
]
  where
    numbers_differ : is_same_party other.sender me ≡ true → other.icn ≡ key.icn → other.group ≡ key.group → other.set ≡ key.set → ⊥
    numbers_differ its icn group place =
        let same : key.sender ≡ other.sender = same_party key.sender me mine ∙ sym (same_party other.sender me its) in
        let party : is_same_party key.sender other.sender ≡ true = rw (← same) (same_party_itself key.sender) in
        grind (arith, nat_tests)

    go : (o : Option LedgerRow) → ((r : LedgerRow) → o ≡ Some r → r.interchange.icn ≡ other.icn) → is_same_party other.sender me ≡ true
        → option_and_then (set_row_at other.group other.set) (option_map (λ (r : LedgerRow). r.interchange) (option_map (with_set_of f key) o))
        ≡ option_and_then (set_row_at other.group other.set) (option_map (λ (r : LedgerRow). r.interchange) o)
    go None named its = refl
    go (Some r) named its = elim (cases_Bool (r.interchange.icn == key.icn)) [
      | inl is ↦
          let icn : r.interchange.icn ≡ key.icn = grind (arith, nat_tests) in
          ap (λ (q : LedgerRow). set_row_at other.group other.set q.interchange) (here f key r icn)
          ∙ set_at_other f key.group key.set other.group other.set r.interchange (numbers_differ its (sym (named r refl) ∙ icn))
      | inr not ↦ ap (λ (q : LedgerRow). set_row_at other.group other.set q.interchange) (kept f key r (λ same. other_icn r.interchange.icn key.icn not same))
    ]

-- what a change at a place doesn't tell of what stands at a place
map_changed : {X Y : Type 0} (v : X → Y) (f : X → X) → ((x : X) → v (f x) ≡ v x) → (o : Option X) → option_map v (option_map f o) ≡ option_map v o
map_changed v f same None = refl
map_changed v f same (Some x) = ap Some (same x)

pub at_place_tells : {X Y : Type 0} (v : X → Y) (f : X → X) → ((x : X) → v (f x) ≡ v x) → (place at : ℕ) (xs : List X)
    → option_map v (at_place at (with_place f place xs)) ≡ option_map v (at_place at xs)
at_place_tells v f same place at xs = elim (cases_Bool (at == place)) [
  | inl is ↦ rw (eqb-true at place is) (rw (at_same_place f place xs) (map_changed v f same (at_place place xs)))
  | inr not ↦ ap (option_map v) (at_other_place f place at xs (other_icn at place not))
]

-- the numbers of a set, whatever was changed but its number
and_then_map : {X Y : Type 0} (g : X → Option Y) (o : Option X) → option_and_then g o ≡ option_and_then (λ y. y) (option_map g o)
and_then_map g None = refl
and_then_map g (Some x) = refl

pub numbers_in_changed : (f : SetRow → SetRow) → ((s : SetRow) → (f s).number ≡ s.number) → (group set : ℕ) (key : TransactionSetKey) (e : InterchangeRow)
    → numbers_in key (with_set_at f group set e) ≡ numbers_in key e
unfolding numbers_in with_set_at
numbers_in_changed f keeps group set key e =
    let in_group = λ (g : GroupRow). record g { sets = with_place f set g.sets } in
    let one : (g : GroupRow) → numbers_in_group key e (in_group g) ≡ numbers_in_group key e g = λ g. at_place_tells (numbers_of_set key e g) f (λ s. ap (λ (n : List ℕ). numbers_of_set key e g (record s { number = n })) (keeps s)) set key.set g.sets in
    and_then_map (numbers_in_group key e) _ ∙ ap (option_and_then (λ o. o)) (at_place_tells (numbers_in_group key e) in_group one group key.group e.groups)
    ∙ sym (and_then_map (numbers_in_group key e) (at_place key.group e.groups))

pub numbers_changed : (f : SetRow → SetRow) → ((s : SetRow) → (f s).number ≡ s.number) → (me : Party) (key other : TransactionSetKey) (rows : List LedgerRow)
    → numbers_in_rows me (map (with_set_of f key) rows) other ≡ numbers_in_rows me rows other
unfolding numbers_in_rows interchange_in
numbers_changed f keeps me key other rows = elim (cases_Bool (is_same_party other.sender me)) [
  | inl its ↦ rw its (rw (find_changed f key other.icn rows) (go (find (λ (r : LedgerRow). r.interchange.icn == other.icn) rows)))
  | inr not ↦ rw not refl
]
  where
    go : (o : Option LedgerRow) → option_and_then (numbers_in other) (option_map (λ (r : LedgerRow). r.interchange) (option_map (with_set_of f key) o))
        ≡ option_and_then (numbers_in other) (option_map (λ (r : LedgerRow). r.interchange) o)
    go None = refl
    go (Some r) = elim (cases_Bool (r.interchange.icn == key.icn)) [
      | inl is ↦ ap (λ (q : LedgerRow). numbers_in other q.interchange) (here f key r (eqb-true r.interchange.icn key.icn is)) ∙ numbers_in_changed f keeps key.group key.set other r.interchange
      | inr not ↦ ap (λ (q : LedgerRow). numbers_in other q.interchange) (kept f key r (other_icn r.interchange.icn key.icn not))
    ]
