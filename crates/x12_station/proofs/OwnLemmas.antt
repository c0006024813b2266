-- What a station submitted: each submission as it was read, its entry by the history, and how its sets fare by key.
use Rattle.std.specs.Prelude.{◌≡◌, ℕ, zero, suc, ◌+◌, ◌-◌, ◌==◌, List, [], ◌∷◌, Bool, true, false, if◌then◌else◌, map, find, Option, Some, None, Result, Ok, Err, option_map, option_and_then, slice_get, IsTrue, refl}
use Rattle.std.specs.List.{enumerate_from}
use mathlib.Core.Path.{sym, ap, ap₂, ◌∙◌}
use mathlib.Core.Logic.{inl, inr}
use native.Mathlib.Omega.{arith}
use Rattle.std.proofs.lemmas.Bool.Decides.{eqb_tells}
use Rattle.x12_envelopes.specs.declared.header.Header.{Header}
use Rattle.x12_envelopes.specs.declared.header.HeaderFault.{HeaderFault}
use Rattle.x12_envelopes.specs.declared.party.Party.{Party}
use Rattle.x12_envelopes.specs.declared.shape.OutlineFault.{OutlineFault}
use Rattle.x12_envelopes.specs.Header.{header_of}
use Rattle.x12_envelopes.specs.Outline.{outline_of}
use Rattle.x12_envelopes.specs.Shape.{Interchange}
use Rattle.x12_judge.specs.Agreement.{is_same_party}
use Rattle.x12_acks.specs.Submission.{Submission, SubmittedGroup, SubmittedSet, TransactionSetKey, submission_of}
use Rattle.x12_acks.proofs.FindLemmas.{clash}
use Rattle.x12_outbound.specs.declared.fate.Fate.{Fate}
use Rattle.x12_outbound.specs.Entry.{SetRow, GroupRow, InterchangeRow, submitted_set_of_row, submitted_group_of_row, submission_of_entry, at_place, set_row_at}
use Rattle.x12_outbound.specs.Ledger.{LedgerRow, OutboundLedger, interchange_in, row_in, fates}
use Rattle.x12_outbound.specs.Settling.{Fates}
use Rattle.x12_profile.specs.Interchange.{Bytes, PlacedTransactionSet}
use Rattle.x12_profile.specs.X12.{x12, submission_in_bytes}
use Rattle.x12_profile.proofs.FieldLemmas as field
use Rattle.x12_station.proofs.CellLemmas.{cells_of, entry_by, group_by, set_by, place_by, places_by, set_at}

-- A submission as it was read.
pub record Read (x : Bytes) : Type 0 where
  pub header : Header
  pub outline : Interchange
  pub is_header : header_of x ≡ Ok header
  pub is_outline : outline_of header.delims x ≡ Ok outline

pub read_of : (x : Bytes) → IsTrue (x12.is_submission x) → Read x
read_of x is = by (header_of x) refl
  where
    outlined : (h : Header) → header_of x ≡ Ok h → (r : Result Interchange OutlineFault) → outline_of h.delims x ≡ r → Read x
    outlined h known (Ok o) there = record { header = h; outline = o; is_header = known; is_outline = there }
    outlined h known (Err f) there = clash (x12.is_submission x) is (field.never_submitted x h known f there)

    by : (r : Result Header HeaderFault) → header_of x ≡ r → Read x
    by (Ok h) known = outlined h known (outline_of h.delims x) refl
    by (Err f) known = clash (x12.is_submission x) is (field.not_submitted_of x f known)

abbrev pub submission_read : (x : Bytes) → Read x → Submission
submission_read x w = submission_of w.header x w.outline

pub submission_is : (x : Bytes) (w : Read x) → submission_in_bytes x ≡ submission_read x w ∷ []
submission_is x w = field.submission_is x w.header w.is_header w.outline w.is_outline

pub icn_read : (x : Bytes) (w : Read x) → x12.number x ≡ (submission_read x w).icn
unfolding submission_of
icn_read x w = field.number_is x w.header w.is_header

pub sender_read : (x : Bytes) (w : Read x) → x12.sender x ≡ (submission_read x w).sender
unfolding submission_of
sender_read x w = field.sender_is x w.header w.is_header

pub bytes_read : (x : Bytes) (w : Read x) → (submission_read x w).bytes ≡ x
unfolding submission_of
bytes_read x w = refl

pub places_read : (x : Bytes) (w : Read x) → map (λ t. t.place) (x12.sets x) ≡ map place_by (cells_of (submission_read x w).groups)
places_read x w = ap (map (λ (t : PlacedTransactionSet). t.place)) (field.sets_are x w.header w.is_header w.outline w.is_outline) ∙ places_by w.header x w.outline

-- An entry tells what was submitted, whatever its fates.
module _ (fate : ℕ → ℕ → Fate) where
  same_sets : (group n : ℕ) (ss : List SubmittedSet) → map submitted_set_of_row (map (set_by fate group) (enumerate_from n ss)) ≡ ss
  same_sets group n [] = refl
  same_sets group n (s ∷ ss) = ap (λ l. s ∷ l) (same_sets group (n + 1) ss)

  same_groups : (n : ℕ) (gs : List SubmittedGroup) → map submitted_group_of_row (map (group_by fate) (enumerate_from n gs)) ≡ gs
  same_groups n [] = refl
  same_groups n (g ∷ gs) = ap₂ (λ (ss : List SubmittedSet) (l : List SubmittedGroup). record g { sets = ss } ∷ l) (same_sets n 1 g.sets) (same_groups (n + 1) gs)

  pub submitted_entry : (me : Party) (e : Submission) → e.sender ≡ me → submission_of_entry me (entry_by fate e) ≡ e
  submitted_entry me e is = ap₂ (λ (p : Party) (gs : List SubmittedGroup). record e { sender = p; groups = gs }) (sym is) (same_groups 1 e.groups)

  -- a set of an entry, by its place
  get_numbered : {X Y : Type 0} (h : ℕ × X → Y) (n d : ℕ) (xs : List X) → slice_get (map h (enumerate_from n xs)) d ≡ option_map (λ x. h (n + d, x)) (slice_get xs d)
  get_numbered h n d [] = refl
  get_numbered {X} h n zero (x ∷ xs) = let none : n + 0 ≡ n = omega arith in ap (λ i. Some (h (i, x))) (sym none)
  get_numbered {X} h n (suc d) (x ∷ xs) =
      let one : (n + 1) + d ≡ n + suc d = omega arith in
      get_numbered h (n + 1) d xs ∙ ap (λ i. option_map (λ (z : X). h (i, z)) (slice_get xs d)) one

  at_numbered_place : {X Y : Type 0} (h : ℕ × X → Y) (i : ℕ) (xs : List X) → at_place i (map h (enumerate_from 1 xs)) ≡ option_map (λ x. h (i, x)) (at_place i xs)
  at_numbered_place {X} h i xs = elim (eqb_tells i 0) [
    | inl none ↦ rw none.0 refl
    | inr some ↦
        let apart = some.1 in
        let one : 1 + (i - 1) ≡ i = omega (arith, apart) in
        rw some.0 (get_numbered h 1 (i - 1) xs ∙ ap (λ j. option_map (λ (z : X). h (j, z)) (slice_get xs (i - 1))) one)
  ]

  pub set_of_entry : (group set : ℕ) (e : Submission) → set_row_at group set (entry_by fate e) ≡ option_map (λ u. record { number = u.number; fate = fate group set; is_out = false }) (set_at e.groups group set)
  unfolding set_row_at
  set_of_entry group set e = ap (option_and_then (λ (g : GroupRow). at_place set g.sets)) (at_numbered_place (group_by fate) group e.groups) ∙ by (at_place group e.groups)
    where
      by : (o : Option SubmittedGroup) → option_and_then (λ (g : GroupRow). at_place set g.sets) (option_map (λ g. group_by fate (group, g)) o) ≡ option_map (λ u. record { number = u.number; fate = fate group set; is_out = false }) (option_and_then (λ g. at_place set g.sets) o)
      by None = refl
      by (Some g) = at_numbered_place (set_by fate group) set g.sets

-- How sets fare by key, among entries.

abbrev pub entry_in : List InterchangeRow → ℕ → Option InterchangeRow
entry_in es icn = find (λ e. e.icn == icn) es

abbrev pub set_in : Party → List InterchangeRow → TransactionSetKey → Option SetRow
set_in me es key = if is_same_party key.sender me then option_and_then (set_row_at key.group key.set) (entry_in es key.icn) else None

abbrev pub fates_in : Party → List InterchangeRow → Fates
fates_in me es = λ key. option_map (λ s. s.fate) (set_in me es key)

find_map : {X Y : Type 0} (p : Y → Bool) (f : X → Y) (xs : List X) → option_map f (find (λ x. p (f x)) xs) ≡ find p (map f xs)
find_map p f [] = refl
find_map {X} {Y} p f (x ∷ xs) = by (p (f x)) (find_map p f xs)
  where
    by : (b : Bool) → option_map f (find (λ x. p (f x)) xs) ≡ find p (map f xs) → option_map f (if b then Some x else find (λ x. p (f x)) xs) ≡ (if b then Some (f x) else find p (map f xs))
    by true more = refl
    by false more = more

pub interchange_in_is : (rows : List LedgerRow) (icn : ℕ) → interchange_in rows icn ≡ entry_in (map (λ r. r.interchange) rows) icn
unfolding interchange_in
interchange_in_is rows icn = find_map (λ (e : InterchangeRow). e.icn == icn) (λ (r : LedgerRow). r.interchange) rows

pub row_in_is : (me : Party) (rows : List LedgerRow) (key : TransactionSetKey) → row_in me rows key ≡ set_in me (map (λ r. r.interchange) rows) key
unfolding row_in
row_in_is me rows key = ap (λ o. if is_same_party key.sender me then option_and_then (set_row_at key.group key.set) o else None) (interchange_in_is rows key.icn)

pub fates_are : (v : OutboundLedger) (key : TransactionSetKey) → fates v key ≡ fates_in v.me (map (λ r. r.interchange) v.rows) key
fates_are v key = ap (option_map (λ (s : SetRow). s.fate)) (row_in_is v.me v.rows key)
