-- The sets of an interchange by their places: the one at a key's places, and all with their keys.
use Rattle.std.specs.Prelude.{◌≡◌, ◌≢◌, ℕ, zero, suc, ◌+◌, ◌-◌, ◌<◌, ◌≤◌, List, [], ◌∷◌, ◌++◌, Bool, true, false, ◌&&◌, ◌==◌, cond, Option, Some, None, Result, Ok, Err, map, find, flat_map, drop, get_or, length, slice_get, option_map, option_and_then, vec_len, All, OnOk, refl}
use mathlib.Core.Path.{sym, ap, ◌∙◌}
use mathlib.Core.Logic.{inl, inr}
use native.Mathlib.Omega.{arith}
use Rattle.std.specs.List.{enumerate_from}
use Rattle.std.specs.Option.{option_or}
use Rattle.std.proofs.lemmas.Bool.Decides.{eqb_tells}
use Rattle.std.proofs.lemmas.List.{append_assoc, append-nil, map-append}
use Rattle.std.proofs.lemmas.List.Folds.{find-append}
use Rattle.std.proofs.lemmas.List.Sums.{get_or-le-sum_by}
use Rattle.x12_acks.specs.Submission.{TransactionSetKey}
use Rattle.x12_envelopes.specs.declared.delimiters.Delims.{Delims}
use Rattle.x12_envelopes.specs.declared.header.Header.{Header}
use Rattle.x12_envelopes.specs.declared.header.HeaderFault.{HeaderFault}
use Rattle.x12_envelopes.specs.declared.shape.GroupView.{GroupView}
use Rattle.x12_envelopes.specs.declared.shape.SetView.{SetView}
use Rattle.x12_envelopes.specs.declared.shape.Outline.{Outline}
use Rattle.x12_envelopes.specs.declared.shape.OutlineFault.{OutlineFault}
use Rattle.x12_envelopes.specs.declared.shape.OutlineFault.TheVariants.{Memory, Structure, Premature, Content}
use Rattle.x12_envelopes.specs.Header.{header_of}
use Rattle.x12_envelopes.specs.Outline.{outline_of}
use Rattle.x12_envelopes.specs.Shape.{FunctionalGroup, TransactionSet as ReadSet, GivesUnlessMemory, group_view, outline_view, set_view, sets_of_outline}
use Rattle.x12_judge.specs.Agreement.{is_same_party}
use Rattle.x12_outbound.specs.Entry.{at_place}
use Rattle.x12_profile.specs.Interchange.{Bytes, PlacedTransactionSet}
use Rattle.x12_profile.specs.X12.{x12, sets_of_group}
use Rattle.x12_profile.proofs.FieldLemmas as field
use Rattle.x12_numbers.proofs.Shelf.{eq_itself, option_or_none}
use Rattle.x12_world.specs.Auditing.{set_under}
use Rattle.x12_world.specs.Placing.{OutgoingSet, addressed, outgoing, outgoing_at, outgoing_in, outgoing_view, sets_of_groups, stands_at}
use Rattle.x12_world.specs.declared.placing.OutgoingSet.{OutgoingSet as CodeOutgoingSet}
use Rattle.x12_world.proofs.AuditingLemmas.{has_key, own_of, other_number}
use Rattle.std.proofs.Common.{drop-cons, ne_eqb}
use Rattle.x12_station.proofs.LedgerLemmas.{at_mapped}

-- a place behind none
at_place_suc : {X : Type 0} (p : ℕ) (xs : List X) → at_place (suc p) xs ≡ slice_get xs (suc p - 1)
at_place_suc p xs = ap (λ b. cond b None (slice_get xs (suc p - 1))) (ne_eqb (suc p) 0 (λ e. absurd (omega (arith, e))))

-- The set at a place of a group.
abbrev pub set_at : ℕ → FunctionalGroup → ℕ × ReadSet → PlacedTransactionSet
set_at group g q = record {
  place = record { group = group; set = q.0 };
  functional = g.functional;
  set = q.1.set;
  number = q.1.number;
  bytes = q.1.bytes;
}

-- what follows a place
behind : {X : Type 0} (x : X) (xs : List X) (n s : ℕ) → n < s → slice_get (x ∷ xs) (s - n) ≡ slice_get xs (s - (n + 1))
behind x xs n s lt = let e : s - n ≡ suc (s - (n + 1)) = omega arith in rw e refl

here : {X : Type 0} (x : X) (xs : List X) (n : ℕ) → slice_get (x ∷ xs) (n - n) ≡ Some x
here x xs n = let e : n - n ≡ 0 = omega arith in rw e refl

module _ (group : ℕ) (g : FunctionalGroup) where
  sets_from : ℕ → List ReadSet → List PlacedTransactionSet
  sets_from n ss = map (set_at group g) (enumerate_from n ss)

  test_of : (s n : ℕ) (b : Bool) → (s == n) ≡ b → ((group == group) && (s == n)) ≡ b
  test_of s n b is = rw (eq_itself group, is) refl

  none_below : (s n : ℕ) (ss : List ReadSet) → s < n → find (stands_at group s) (map (set_at group g) (enumerate_from n ss)) ≡ None
  none_below s n [] lt = refl
  none_below s n (x ∷ ss) lt =
      ap (λ b. cond b (Some (set_at group g (n, x))) (find (stands_at group s) (map (set_at group g) (enumerate_from (n + 1) ss)))) (test_of s n false (ne_eqb s n (omega arith)))
      ∙ none_below s (n + 1) ss (omega arith)

  from_on : (s n : ℕ) (ss : List ReadSet) → n ≤ s → find (stands_at group s) (map (set_at group g) (enumerate_from n ss)) ≡ option_map (λ x. set_at group g (s, x)) (slice_get ss (s - n))
  from_on s n [] le = refl
  from_on s n (x ∷ ss) le = elim (eqb_tells s n) [
    | inl same ↦ ap (λ b. cond b (Some (set_at group g (n, x))) (find (stands_at group s) (map (set_at group g) (enumerate_from (n + 1) ss)))) (test_of s n true same.0)
        ∙ (let e = same.1 in rw e (sym (ap (option_map (λ y. set_at group g (n, y))) (here x ss n))))
    | inr other ↦ ap (λ b. cond b (Some (set_at group g (n, x))) (find (stands_at group s) (map (set_at group g) (enumerate_from (n + 1) ss)))) (test_of s n false other.0)
        ∙ from_on s (n + 1) ss (let ne = other.1 in omega arith)
        ∙ sym (ap (option_map (λ y. set_at group g (s, y))) (behind x ss n s (let ne = other.1 in omega arith)))
  ]

  in_group : (s : ℕ) → find (stands_at group s) (sets_of_group (group, g)) ≡ option_map (λ x. set_at group g (s, x)) (at_place s g.sets)
  in_group zero = none_below zero 1 g.sets (omega arith)
  in_group (suc s) = from_on (suc s) 1 g.sets (omega arith) ∙ sym (ap (option_map (λ x. set_at group g (suc s, x))) (at_place_suc s g.sets))

other_group : (wanted s group : ℕ) (g : FunctionalGroup) (n : ℕ) (ss : List ReadSet) → wanted ≢ group → find (stands_at wanted s) (map (set_at group g) (enumerate_from n ss)) ≡ None
other_group wanted s group g n [] ne = refl
other_group wanted s group g n (x ∷ ss) ne =
    ap (λ b. cond (b && (s == n)) (Some (set_at group g (n, x))) (find (stands_at wanted s) (map (set_at group g) (enumerate_from (n + 1) ss)))) (ne_eqb wanted group ne)
    ∙ other_group wanted s group g (n + 1) ss ne

-- what the wanted group has at the place
abbrev looked : ℕ → ℕ → Option FunctionalGroup → Option PlacedTransactionSet
looked w s o = option_and_then (λ g. option_map (λ x. set_at w g (s, x)) (at_place s g.sets)) o

module _ (w s : ℕ) where
  groups_below : (n : ℕ) (gs : List FunctionalGroup) → w < n → find (stands_at w s) (flat_map sets_of_group (enumerate_from n gs)) ≡ None
  groups_below n [] lt = refl
  groups_below n (g ∷ gs) lt =
      find-append (stands_at w s) (sets_of_group (n, g)) (flat_map sets_of_group (enumerate_from (n + 1) gs))
      ∙ ap (λ o. option_or o (find (stands_at w s) (flat_map sets_of_group (enumerate_from (n + 1) gs)))) (other_group w s n g 1 g.sets (omega arith))
      ∙ groups_below (n + 1) gs (omega arith)

  groups_on : (n : ℕ) (gs : List FunctionalGroup) → n ≤ w → find (stands_at w s) (flat_map sets_of_group (enumerate_from n gs)) ≡ looked w s (slice_get gs (w - n))
  groups_on n [] le = refl
  groups_on n (g ∷ gs) le = elim (eqb_tells w n) [
    | inl same ↦ find-append (stands_at w s) (sets_of_group (n, g)) (flat_map sets_of_group (enumerate_from (n + 1) gs))
        ∙ ap (option_or (find (stands_at w s) (sets_of_group (n, g)))) (groups_below (n + 1) gs (let e = same.1 in omega arith))
        ∙ option_or_none (find (stands_at w s) (sets_of_group (n, g)))
        ∙ (let e = same.1 in rw e (in_group n g s ∙ sym (ap (looked n s) (here g gs n))))
    | inr other ↦ find-append (stands_at w s) (sets_of_group (n, g)) (flat_map sets_of_group (enumerate_from (n + 1) gs))
        ∙ ap (λ o. option_or o (find (stands_at w s) (flat_map sets_of_group (enumerate_from (n + 1) gs)))) (other_group w s n g 1 g.sets other.1)
        ∙ groups_on (n + 1) gs (let ne = other.1 in omega arith)
        ∙ sym (ap (looked w s) (behind g gs n w (let ne = other.1 in omega arith)))
  ]

-- the set at two places of the groups
by_places : (w s : ℕ) (gs : List FunctionalGroup) → find (stands_at w s) (flat_map sets_of_group (enumerate_from 1 gs)) ≡ looked w s (at_place w gs)
by_places zero s gs = groups_below zero s 1 gs (omega arith)
by_places (suc w) s gs = groups_on (suc w) s 1 gs (omega arith) ∙ sym (ap (looked (suc w) s) (at_place_suc w gs))

-- the bytes of the set at a key's places
pub placed_bytes : (d : Delims) (w s : ℕ) (gs : List GroupView) → option_map (λ (t : PlacedTransactionSet). t.bytes) (find (stands_at w s) (sets_of_groups d gs))
    ≡ option_and_then (λ (g : GroupView). option_map (λ (x : SetView). x.bytes.now) (at_place s g.sets.items)) (at_place w gs)
placed_bytes d w s gs =
    ap (option_map (λ (t : PlacedTransactionSet). t.bytes)) (by_places w s (map (group_view d) gs) ∙ ap (looked w s) (at_mapped (group_view d) w gs))
    ∙ by (at_place w gs)
  where
    flat : (g : GroupView) (o : Option SetView) → option_map (λ (t : PlacedTransactionSet). t.bytes) (option_map (λ x. set_at w (group_view d g) (s, x)) (option_map (set_view d) o)) ≡ option_map (λ (x : SetView). x.bytes.now) o
    flat g None = refl
    flat g (Some x) = refl

    bytes_at : (g : GroupView) → option_map (λ (t : PlacedTransactionSet). t.bytes) (looked w s (Some (group_view d g))) ≡ option_map (λ (x : SetView). x.bytes.now) (at_place s g.sets.items)
    bytes_at g =
        ap (λ o. option_map (λ (t : PlacedTransactionSet). t.bytes) (option_map (λ x. set_at w (group_view d g) (s, x)) o)) (at_mapped (set_view d) s g.sets.items)
        ∙ flat g (at_place s g.sets.items)

    by : (o : Option GroupView) → option_map (λ (t : PlacedTransactionSet). t.bytes) (looked w s (option_map (group_view d) o)) ≡ option_and_then (λ (g : GroupView). option_map (λ (x : SetView). x.bytes.now) (at_place s g.sets.items)) o
    by None = refl
    by (Some g) = bytes_at g

module _ (d : Delims) (w s : ℕ) (gs : List GroupView) where
  abbrev of_group : Option GroupView → Option Bytes
  of_group o = option_and_then (λ (g : GroupView). option_map (λ (x : SetView). x.bytes.now) (at_place s g.sets.items)) o

  module _ (g : GroupView) (sets : List SetView) (there : Some g ≡ at_place w gs) (are : sets ≡ g.sets.items) where
    of_sets : option_map (λ (x : SetView). x.bytes.now) (at_place s sets) ≡ option_map (λ (t : PlacedTransactionSet). t.bytes) (find (stands_at w s) (sets_of_groups d gs))
    of_sets = ap (λ xs. option_map (λ (x : SetView). x.bytes.now) (at_place s xs)) are ∙ ap of_group there ∙ sym (placed_bytes d w s gs)

    pub placed_set : (x : SetView) → Some x ≡ at_place s sets → Some x.bytes.now ≡ option_map (λ (t : PlacedTransactionSet). t.bytes) (find (stands_at w s) (sets_of_groups d gs))
    placed_set x at = ap (option_map (λ (x : SetView). x.bytes.now)) at ∙ of_sets

    pub no_set : None ≡ at_place s sets → None ≡ option_map (λ (t : PlacedTransactionSet). t.bytes) (find (stands_at w s) (sets_of_groups d gs))
    no_set at = ap (option_map (λ (x : SetView). x.bytes.now)) at ∙ of_sets

  pub no_group : None ≡ at_place w gs → None ≡ option_map (λ (t : PlacedTransactionSet). t.bytes) (find (stands_at w s) (sets_of_groups d gs))
  no_group there = ap of_group there ∙ sym (placed_bytes d w s gs)

-- The set of a key in bytes with this header.
same_test : (p n g s : Bool) → p ≡ true → n ≡ true → (p && n && g && s) ≡ (g && s)
same_test p n g s e f = rw (e, f) refl

under_places : (k : TransactionSetKey) (x : Bytes) (ts : List PlacedTransactionSet) → is_same_party k.sender (x12.sender x) ≡ true → (k.icn == x12.number x) ≡ true
    → option_map addressed (find (has_key k) (own_of x ts)) ≡ option_map (λ (t : PlacedTransactionSet). addressed (record { interchange = x; set = t })) (find (stands_at k.group k.set) ts)
under_places k x [] party number = refl
under_places k x (t ∷ ts) party number =
    ap (λ b. option_map addressed (cond b (Some (record { interchange = x; set = t })) (find (has_key k) (own_of x ts))))
    (same_test (is_same_party k.sender (x12.sender x)) (k.icn == x12.number x) (k.group == t.place.group) (k.set == t.place.set) party number)
    ∙ by (stands_at k.group k.set t) (under_places k x ts party number)
  where
    by : (b : Bool) → option_map addressed (find (has_key k) (own_of x ts)) ≡ option_map (λ (t : PlacedTransactionSet). addressed (record { interchange = x; set = t })) (find (stands_at k.group k.set) ts)
        → option_map addressed (cond b (Some (record { interchange = x; set = t })) (find (has_key k) (own_of x ts)))
        ≡ option_map (λ (t : PlacedTransactionSet). addressed (record { interchange = x; set = t })) (cond b (Some t) (find (stands_at k.group k.set) ts))
    by true rest = refl
    by false rest = rest

other_sender : (p n g s : Bool) → p ≡ false → (p && n && g && s) ≡ false
other_sender p n g s e = rw e refl

under_other : (k : TransactionSetKey) (x : Bytes) (ts : List PlacedTransactionSet) → is_same_party k.sender (x12.sender x) ≡ false → find (has_key k) (own_of x ts) ≡ None
under_other k x [] party = refl
under_other k x (t ∷ ts) party =
    ap (λ b. cond b (Some (record { interchange = x; set = t })) (find (has_key k) (own_of x ts)))
    (other_sender (is_same_party k.sender (x12.sender x)) (k.icn == x12.number x) (k.group == t.place.group) (k.set == t.place.set) party)
    ∙ under_other k x ts party

-- where a header can't be read, no set is found
pub no_header : (k : TransactionSetKey) (x : Bytes) (f : HeaderFault) → header_of x ≡ Err f → None ≡ option_map addressed (set_under k x)
no_header k x f is = sym (ap (λ ts. option_map addressed (find (has_key k) (own_of x ts))) (field.no_sets_of x f is))

pub no_header_in : (k : TransactionSetKey) (x : Bytes) (r : Result Header HeaderFault) → r ≡ header_of x → ((h : Header) → r ≢ Ok h) → None ≡ option_map addressed (set_under k x)
no_header_in k x (Ok h) is none = absurd (none h refl)
no_header_in k x (Err f) is none = no_header k x f (sym is)

module _ (k : TransactionSetKey) (x : Bytes) (h : Header) (is : header_of x ≡ Ok h) where
  pub of_other_sender : is_same_party k.sender h.sender ≡ false → None ≡ option_map addressed (set_under k x)
  of_other_sender party = sym (ap (option_map addressed) (under_other k x (x12.sets x) (ap (is_same_party k.sender) (field.sender_is x h is) ∙ party)))

  pub of_other_number : k.icn ≢ h.icn → None ≡ option_map addressed (set_under k x)
  of_other_number ne = sym (ap (option_map addressed) (other_number k x (x12.sets x) (λ e. ne (sym e ∙ field.number_is x h is))))

  -- the bytes that stand at its places are found, with the receiver
  pub of_places : (gs : List GroupView) (o : Option Bytes) → is_same_party k.sender h.sender ≡ true → k.icn ≡ h.icn → x12.sets x ≡ sets_of_groups h.delims gs
      → o ≡ option_map (λ (t : PlacedTransactionSet). t.bytes) (find (stands_at k.group k.set) (sets_of_groups h.delims gs))
      → option_map (λ b. record { receiver = h.receiver; bytes = b }) o ≡ option_map addressed (set_under k x)
  of_places gs o party number sets bytes =
      ap (option_map (λ b. record { receiver = h.receiver; bytes = b })) (bytes ∙ ap (λ ts. option_map (λ (t : PlacedTransactionSet). t.bytes) (find (stands_at k.group k.set) ts)) (sym sets))
      ∙ told (find (stands_at k.group k.set) (x12.sets x))
      ∙ sym (under_places k x (x12.sets x) (ap (is_same_party k.sender) (field.sender_is x h is) ∙ party) (number_test k.icn (x12.number x) (number ∙ sym (field.number_is x h is))))
    where
      number_test : (a b : ℕ) → a ≡ b → (a == b) ≡ true
      number_test a b e = rw e (eq_itself b)

      receiver : (t : PlacedTransactionSet) → Some (record { receiver = h.receiver; bytes = t.bytes }) ≡ Some (addressed (record { interchange = x; set = t }))
      receiver t = ap (λ r. Some (record { receiver = r; bytes = t.bytes })) (sym (field.receiver_is x h is))

      told : (o : Option PlacedTransactionSet) → option_map (λ b. record { receiver = h.receiver; bytes = b }) (option_map (λ (t : PlacedTransactionSet). t.bytes) o)
          ≡ option_map (λ (t : PlacedTransactionSet). addressed (record { interchange = x; set = t })) o
      told None = refl
      told (Some t) = receiver t

-- The groups that are read.
pub no_outline : (b : Bytes) (h : Header) (f : OutlineFault) → header_of b ≡ Ok h → f ≢ Memory → GivesUnlessMemory (outline_view h.delims) (Err f) (outline_of h.delims b) → x12.sets b ≡ []
no_outline b h (Structure n) known other is = field.no_sets b h known (Structure n) is
no_outline b h (Premature n) known other is = field.no_sets b h known (Premature n) is
no_outline b h (Content n) known other is = field.no_sets b h known (Content n) is
no_outline b h Memory known other is = absurd (other refl)

pub few_sets : (o : Outline) → sets_of_outline o ≤ 400 → All (λ (g : GroupView). vec_len g.sets ≤ 400) o.groups.items
few_sets o few k d within = let le = get_or-le-sum_by (λ (g : GroupView). vec_len g.sets) o.groups.items k d within in omega arith

pub none_few : All (λ (g : GroupView). vec_len g.sets ≤ 400) []
none_few k d within = absurd (omega (arith, within))

-- All sets with their keys.
abbrev pub outgoing_sets_at : Header → ℕ → FunctionalGroup → List ReadSet → ℕ → List OutgoingSet
outgoing_sets_at h group g ss n = map (outgoing_at h) (map (set_at group g) (enumerate_from n ss))

-- those of the groups from a place on
abbrev pub outgoing_from : Header → List FunctionalGroup → ℕ → List OutgoingSet
outgoing_from h gs n = map (outgoing_at h) (flat_map sets_of_group (enumerate_from n gs))

pushed : {X : Type 0} (a : List X) (k : X) (rest all : List X) → a ++ (k ∷ rest) ≡ all → (a ++ k ∷ []) ++ rest ≡ all
pushed a k rest all e = append_assoc a (k ∷ []) rest ∙ e

-- a set as it stands in its group
abbrev pub outgoing_there : Header → ℕ → ℕ → Bytes → OutgoingSet
outgoing_there h group n bytes = record {
  key = record { sender = h.sender; icn = h.icn; group = group; set = n };
  set = record { receiver = h.receiver; bytes = bytes };
}

-- one set was put behind others
pub pushed_set : (d : Delims) (h : Header) (group : ℕ) (g : GroupView) (i : ℕ) (x : SetView) (sets new : List CodeOutgoingSet) (one : CodeOutgoingSet) (all : List OutgoingSet) → new ≡ sets ++ one ∷ [] → outgoing_view one ≡ outgoing_there h group (i + 1) x.bytes.now
    → x ≡ get_or g.sets.items i x → i < length g.sets.items
    → map outgoing_view sets ++ outgoing_sets_at h group (group_view d g) (map (set_view d) (drop i g.sets.items)) (i + 1) ≡ all
    → map outgoing_view new ++ outgoing_sets_at h group (group_view d g) (map (set_view d) (drop (i + 1) g.sets.items)) (i + 1 + 1) ≡ all
pushed_set d h group g i x sets new one all is view at lt e =
    let rest = outgoing_sets_at h group (group_view d g) (map (set_view d) (drop (i + 1) g.sets.items)) (i + 1 + 1) in
    let next : i + 1 ≡ suc i = omega arith in
    let cut : drop i g.sets.items ≡ x ∷ drop (i + 1) g.sets.items =
    drop-cons g.sets.items i x lt ∙ ap (λ y. y ∷ drop (suc i) g.sets.items) (sym at) ∙ ap (λ n. x ∷ drop n g.sets.items) (sym next) in
    ap (λ ks. map outgoing_view ks ++ rest) is
    ∙ ap (λ ks. ks ++ rest) (map-append outgoing_view sets (one ∷ []))
    ∙ ap (λ k. (map outgoing_view sets ++ k ∷ []) ++ rest) view
    ∙ pushed (map outgoing_view sets) (outgoing_there h group (i + 1) x.bytes.now) rest all
    (ap (λ xs. map outgoing_view sets ++ outgoing_sets_at h group (group_view d g) (map (set_view d) xs) (i + 1)) (sym cut) ∙ e)

-- the sets of an interchange, by its header
pub sets_by : (x : Bytes) (h : Header) → header_of x ≡ Ok h → map (outgoing_at h) (x12.sets x) ≡ outgoing_in x
sets_by x h is = each (x12.sets x)
  where
    one : (t : PlacedTransactionSet) → outgoing_at h t ≡ outgoing (record { interchange = x; set = t })
    one t = rw (field.sender_is x h is, field.number_is x h is, field.receiver_is x h is) refl

    each : (ts : List PlacedTransactionSet) → map (outgoing_at h) ts ≡ map (λ (t : PlacedTransactionSet). outgoing (record { interchange = x; set = t })) ts
    each [] = refl
    each (t ∷ ts) = rw (each ts) (ap (λ k. k ∷ map (λ (t : PlacedTransactionSet). outgoing (record { interchange = x; set = t })) ts) (one t))

no_sets : (x : Bytes) (f : HeaderFault) → header_of x ≡ Err f → outgoing_in x ≡ []
no_sets x f is = ap (map (λ (t : PlacedTransactionSet). outgoing (record { interchange = x; set = t }))) (field.no_sets_of x f is)

-- bytes without a header have no sets
pub no_sets_in : (x : Bytes) (r : Result Header HeaderFault) (before : List OutgoingSet) → r ≡ header_of x → ((h : Header) → r ≢ Ok h) → before ≡ before ++ outgoing_in x
no_sets_in x (Ok h) before is none = absurd (none h refl)
no_sets_in x (Err f) before is none = sym (append-nil before) ∙ ap (λ ks. before ++ ks) (sym (no_sets x f (sym is)))

pub all_sets : {E : Type 0} (x : Bytes) (h : Header) (gs seen : List GroupView) (before after : List OutgoingSet) (r : Result (Unit {0}) E) → header_of x ≡ Ok h → x12.sets x ≡ sets_of_groups h.delims gs → seen ≡ gs
    → OnOk r (after ≡ before ++ map (outgoing_at h) (sets_of_groups h.delims seen)) → OnOk r (after ≡ before ++ outgoing_in x)
all_sets x h gs seen before after (Ok u) is sets same put =
    put ∙ ap (λ xs. before ++ map (outgoing_at h) (sets_of_groups h.delims xs)) same ∙ ap (λ ts. before ++ map (outgoing_at h) ts) (sym sets) ∙ ap (λ ks. before ++ ks) (sets_by x h is)
all_sets x h gs seen before after (Err e) is sets same put = tt
