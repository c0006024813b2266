-- The orders of interchanges and of transaction sets are total, and what neither is above is the same.
use Rattle.std.proofs.Common.{ℕ, ◌≡◌, ◌∙◌, ap, ap₂, sym, refl, true, false, ◌&&◌, ◌==◌, List, arith}
use Rattle.std.specs.declared.cmp.Ordering.{Ordering}
use Rattle.std.specs.declared.cmp.Ordering.TheVariants.{Less, Equal, Greater}
use Rattle.std.specs.Ordering.{nat_cmp, ordering_then, ordering_reverse, is_eq, is_lt}
use Rattle.std.specs.Cmp.{IsTotalOrder}
use Rattle.std.specs.Cmp.Lexicographic.{slice_cmp}
use Rattle.std.specs.Str.{bytes_eq}
use Rattle.std.proofs.lemmas.Cmp.{on_total, then_total, nat_cmp_total, nat_list_cmp_total, tied_itself}
use Rattle.std.proofs.lemmas.Map.Text.{is_eq-slice_cmp}
use Rattle.std.proofs.lemmas.Bool.{and_parts}
use Rattle.std.proofs.lemmas.Bool.Decides.{nat_tests}
use Rattle.std.proofs.lemmas.Slice.Eq.{bytes_eq-Decides}
use Rattle.x12_envelopes.specs.declared.party.Party.{Party}
use Rattle.x12_judge.specs.Agreement.{is_same_party}
use Rattle.x12_acks.specs.Submission.{TransactionSetKey}
use Rattle.x12_acks.specs.Key.{is_same_key}
use Rattle.x12_inbound.specs.Order.{InterchangeKey, interchange_holding, is_same_interchange, party_order, interchange_order, set_order}
use Rattle.x12_numbers.proofs.Shelf.{is_eq-nat, is_eq-then}

-- the orders are total
party_total : IsTotalOrder party_order
party_total =
    then_total (on_total (λ (p : Party). p.qualifier) nat_list_cmp_total) (on_total (λ (p : Party). p.id) nat_list_cmp_total)

pub interchange_total : IsTotalOrder interchange_order
interchange_total =
    then_total (on_total (λ (k : InterchangeKey). k.sender) party_total) (on_total (λ (k : InterchangeKey). k.icn) nat_cmp_total)

pub set_total : IsTotalOrder set_order
set_total =
    then_total
    (then_total (on_total interchange_holding interchange_total) (on_total (λ (k : TransactionSetKey). k.group) nat_cmp_total))
    (on_total (λ (k : TransactionSetKey). k.set) nat_cmp_total)

is_eq-party : (p q : Party) → is_eq (party_order p q) ≡ is_same_party p q
is_eq-party p q =
    is_eq-then (slice_cmp nat_cmp p.qualifier q.qualifier) (slice_cmp nat_cmp p.id q.id)
    ∙ ap₂ (λ a b. a && b) (is_eq-slice_cmp p.qualifier q.qualifier) (is_eq-slice_cmp p.id q.id)

-- what neither is above is the same
pub is_eq-interchange : (j k : InterchangeKey) → is_eq (interchange_order j k) ≡ is_same_interchange j k
is_eq-interchange j k =
    is_eq-then (party_order j.sender k.sender) (nat_cmp j.icn k.icn)
    ∙ ap₂ (λ a b. a && b) (is_eq-party j.sender k.sender) (is_eq-nat j.icn k.icn)

pub is_eq-set : (j k : TransactionSetKey) → is_eq (set_order j k) ≡ is_same_key j k
is_eq-set j k =
    let first = interchange_order (interchange_holding j) (interchange_holding k) in
    is_eq-then (ordering_then first (nat_cmp j.group k.group)) (nat_cmp j.set k.set)
    ∙ ap₂ (λ a b. a && b)
    (is_eq-then first (nat_cmp j.group k.group) ∙ ap₂ (λ a b. a && b) (is_eq-interchange (interchange_holding j) (interchange_holding k)) (is_eq-nat j.group k.group))
    (is_eq-nat j.set k.set)

-- by answer: equal exactly where the test says so
pub equal_from_test : (o : Ordering) → is_eq o ≡ true → o ≡ Equal
equal_from_test Less h = cc
equal_from_test Equal h = refl
equal_from_test Greater h = cc

-- of two sets in order, the interchange of the later isn't below that of the earlier
pub interchanges_keep_order : (j k : TransactionSetKey) → set_order j k ≡ Less
    → is_lt (interchange_order (interchange_holding k) (interchange_holding j)) ≡ false
interchanges_keep_order j k less =
    by (interchange_order (interchange_holding j) (interchange_holding k)) (interchange_order (interchange_holding k) (interchange_holding j)) (nat_cmp j.group k.group) (nat_cmp j.set k.set) (interchange_total.antisymm (interchange_holding k) (interchange_holding j)) less
  where
    by : (o r g s : Ordering) → r ≡ ordering_reverse o → ordering_then (ordering_then o g) s ≡ Less → is_lt r ≡ false
    by Less r g s turned less = rw turned refl
    by Equal r g s turned less = rw turned refl
    by Greater r g s turned less = cc

-- interchanges that neither is above have the same sender and number
pub same_interchange : (j k : InterchangeKey) → is_same_interchange j k ≡ true → (j.sender ≡ k.sender) × (j.icn ≡ k.icn)
same_interchange j k same =
    let parts = and_parts (is_same_party j.sender k.sender) (j.icn == k.icn) same in
    let party = and_parts (bytes_eq j.sender.qualifier k.sender.qualifier) (bytes_eq j.sender.id k.sender.id) parts.0 in
    let qualifier : j.sender.qualifier ≡ k.sender.qualifier = (bytes_eq-Decides j.sender.qualifier k.sender.qualifier).0 party.0 in
    let id : j.sender.id ≡ k.sender.id = (bytes_eq-Decides j.sender.id k.sender.id).0 party.1 in
    let make : List ℕ → List ℕ → Party = λ qualifier id. record { qualifier = qualifier; id = id } in
    (ap₂ make qualifier id, grind (arith, nat_tests))

pub equal_interchange : (j k : InterchangeKey) → interchange_order j k ≡ Equal → (j.sender ≡ k.sender) × (j.icn ≡ k.icn)
equal_interchange j k equal = same_interchange j k (sym (is_eq-interchange j k) ∙ ap is_eq equal)

pub interchange_itself : (k : InterchangeKey) → is_same_interchange k k ≡ true
interchange_itself k = sym (is_eq-interchange k k) ∙ ap is_eq (tied_itself interchange_total k)

-- the tests go both ways
reversed_eq : (o r : Ordering) → r ≡ ordering_reverse o → is_eq o ≡ is_eq r
reversed_eq Less r turned = rw turned refl
reversed_eq Equal r turned = rw turned refl
reversed_eq Greater r turned = rw turned refl

pub interchange_flips : (j k : InterchangeKey) → is_same_interchange j k ≡ is_same_interchange k j
interchange_flips j k =
    sym (is_eq-interchange j k)
    ∙ reversed_eq (interchange_order j k) (interchange_order k j) (interchange_total.antisymm k j) ∙ is_eq-interchange k j

pub key_flips : (j k : TransactionSetKey) → is_same_key j k ≡ is_same_key k j
key_flips j k =
    sym (is_eq-set j k) ∙ reversed_eq (set_order j k) (set_order k j) (set_total.antisymm k j) ∙ is_eq-set k j

-- by an order below is the other way round above
pub below_back : (o r : Ordering) → o ≡ Greater → r ≡ ordering_reverse o → r ≡ Less
below_back o r above turned = rw (turned, above) refl

-- a set of an earlier interchange is below
pub set_below : (j k : TransactionSetKey) → interchange_order (interchange_holding j) (interchange_holding k) ≡ Less → set_order j k ≡ Less
set_below j k below = rw below refl
