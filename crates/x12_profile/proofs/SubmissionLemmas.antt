-- A submission, at the profile: what it holds, and that it tells nothing.
use Rattle.std.specs.Prelude.{◌≡◌, ◌≢◌, ℕ, ◌+◌, ◌<◌, List, [], ◌∷◌, ◌++◌, Bool, true, false, ◌&&◌, ◌==◌, not, map, filter, flat_map, Result, Ok, Err, refl, IsTrue, length, nat_lt, nat_le, bytes_eq, Contains}
use Rattle.std.specs.List.{list_any, list_all, AllByRecursion, IsDistinct}
use native.Mathlib.Omega.{arith}
use mathlib.Core.Path.{sym, ap, subst, ◌∙◌}
use Rattle.std.proofs.lemmas.Bool.{and_parts, not-true}
use Rattle.std.proofs.lemmas.Bool.Decides.{nat_tests, Decides-eqb}
use Rattle.x12_numbers.specs.Book.{is_rising}
use Rattle.x12_numbers.specs.declared.book.TheConstants.{MAX_CONTROL_NUMBER}
use Rattle.x12_envelopes.specs.declared.delimiters.Delims.{Delims}
use Rattle.x12_envelopes.specs.declared.header.Header.{Header}
use Rattle.x12_envelopes.specs.declared.header.HeaderFault.{HeaderFault}
use Rattle.x12_envelopes.specs.declared.party.Party.{Party}
use Rattle.x12_envelopes.specs.declared.shape.OutlineFault.{OutlineFault}
use Rattle.x12_envelopes.specs.Header.{header_of}
use Rattle.x12_envelopes.specs.Outline.{outline_of}
use Rattle.x12_envelopes.specs.Shape.{Interchange, FunctionalGroup, TransactionSet as ReadSet}
use Rattle.x12_judge.specs.Verdict.{group_is_acknowledgment}
use Rattle.x12_acks.specs.Answer.{answers_of, group_answers_of}
use Rattle.x12_acks.specs.Evidence.{evidence_of}
use Rattle.x12_acks.specs.Laws.{IsOfOrders, HasDistinctSets}
use Rattle.x12_profile.specs.Interchange.{Bytes, PlacedTransactionSet, is_place}
use Rattle.x12_profile.specs.declared.edition.Edition.{Edition}
use Rattle.x12_profile.specs.declared.edition.Edition.TheVariants.{First, Second, Third}
use Rattle.x12_profile.specs.Reading.{answers_in}
use Rattle.x12_profile.specs.X12.{x12, are_new_numbers, is_order_group, submission_in_bytes, told_by_piece, pieces_read}
use Rattle.x12_profile.proofs.FieldLemmas as field
use Rattle.x12_numbers.proofs.Shelf.{none_in_nil, and_three, false_is_never_true, less_differs, none_passes}
use Rattle.x12_profile.proofs.PlaceLemmas as place

-- What an outline of orders is.

orders_alone : (gs : List FunctionalGroup) → list_all is_order_group gs ≡ true → AllByRecursion (λ g. group_is_acknowledgment g ≡ false) gs
orders_alone [] e = tt
orders_alone (g ∷ gs) e =
    let c = and_parts (is_order_group g) (list_all is_order_group gs) e in
    (not-true (group_is_acknowledgment g) (and_three (not (group_is_acknowledgment g)) (not (length g.sets == 0)) (are_new_numbers g.sets) c.0).0, orders_alone gs c.1)

distinct_sets : (ss : List ReadSet) → are_new_numbers ss ≡ true → IsDistinct (λ s t. bytes_eq s.number t.number) ss
unfolding IsDistinct
distinct_sets [] e = tt
distinct_sets (s ∷ ss) e =
    let c = and_parts (not (list_any (λ t. bytes_eq s.number t.number) ss)) (are_new_numbers ss) e in
    (none_passes (λ t. bytes_eq s.number t.number) ss (not-true _ c.0), distinct_sets ss c.1)

groups_distinct_sets : (gs : List FunctionalGroup) → list_all is_order_group gs ≡ true → AllByRecursion HasDistinctSets gs
groups_distinct_sets [] e = tt
groups_distinct_sets (g ∷ gs) e =
    let c = and_parts (is_order_group g) (list_all is_order_group gs) e in
    (distinct_sets g.sets (and_three (not (group_is_acknowledgment g)) (not (length g.sets == 0)) (are_new_numbers g.sets) c.0).2, groups_distinct_sets gs c.1)

-- none is left out where none is of acknowledgments
all_kept : (gs : List FunctionalGroup) → AllByRecursion (λ g. group_is_acknowledgment g ≡ false) gs → filter (λ g. not (group_is_acknowledgment g)) gs ≡ gs
all_kept [] all = refl
all_kept (g ∷ gs) all = rw (all.0) (ap (λ ps. g ∷ ps) (all_kept gs all.1))

no_answers : (d : Delims) (gs : List FunctionalGroup) → AllByRecursion (λ g. group_is_acknowledgment g ≡ false) gs → flat_map (group_answers_of d) gs ≡ []
unfolding group_answers_of
no_answers d [] all = refl
no_answers d (g ∷ gs) all = rw (all.0) (no_answers d gs all.1)

empty : {X : Type 0} (xs : List X) → (length xs == 0) ≡ true → xs ≡ []
empty [] e = refl
empty (x ∷ xs) e = let n : length (x ∷ xs) ≡ 0 = (Decides-eqb (length (x ∷ xs)) 0).0 e in absurd (omega (arith, n))

-- Rising numbers differ.

rises : (m n : ℕ) (r : Bool) → (nat_lt m n && nat_le n MAX_CONTROL_NUMBER && r) ≡ true → (m < n) × (r ≡ true)
rises m n r e = let c = and_three (nat_lt m n) (nat_le n MAX_CONTROL_NUMBER) r e in (lower m n c.0, c.2)
  where
    lower : (m n : ℕ) → nat_lt m n ≡ true → m < n
    lower m n e = grind (arith, nat_tests)

all_above : (low n : ℕ) (gs : List FunctionalGroup) → low < n + 1 → is_rising n (map (λ g. g.number) gs) ≡ true → AllByRecursion (λ g. (low == g.number) ≡ false) gs
all_above low n [] le e = tt
all_above low n (g ∷ gs) le e =
    let c = rises n g.number (is_rising g.number (map (λ g. g.number) gs)) e in
    (less_differs low g.number (omega (arith, le, c.0)), all_above low g.number gs (omega (arith, le, c.0)) c.1)

distinct_groups : (n : ℕ) (gs : List FunctionalGroup) → is_rising n (map (λ g. g.number) gs) ≡ true → IsDistinct (λ g o. g.number == o.number) gs
unfolding IsDistinct
distinct_groups n [] e = tt
distinct_groups n (g ∷ gs) e =
    let c = rises n g.number (is_rising g.number (map (λ g. g.number) gs)) e in
    (all_above g.number g.number gs (omega arith) c.1, distinct_groups g.number gs c.1)

-- The header and the outline of a submission.

pub record IsSubmitted (x : Bytes) : Type 0 where
  pub header : Header
  pub outline : Interchange
  pub is_header : header_of x ≡ Ok header
  pub is_outline : outline_of header.delims x ≡ Ok outline
  pub no_tas : outline.tas ≡ []
  pub groups : not (length outline.groups == 0) ≡ true
  pub orders : list_all is_order_group outline.groups ≡ true

module _ (x : Bytes) (orders : IsTrue (x12.is_submission x)) where
  made : (h : Header) → header_of x ≡ Ok h → (o : Interchange) → outline_of h.delims x ≡ Ok o → IsSubmitted x
  made h is o there =
      let c = and_three (length o.tas == 0) (not (length o.groups == 0)) (list_all is_order_group o.groups) (sym (field.is_submission_is x h is o there) ∙ orders) in
      record { header = h; outline = o; is_header = is; is_outline = there; no_tas = empty o.tas c.0; groups = c.1; orders = c.2 }

  by_outline : (h : Header) → header_of x ≡ Ok h → (o : Result Interchange OutlineFault) → outline_of h.delims x ≡ o → IsSubmitted x
  by_outline h is (Ok o) there = made h is o there
  by_outline h is (Err f) there = false_is_never_true (sym (field.never_submitted x h is f there) ∙ orders)

  by_header : (r : Result Header HeaderFault) → header_of x ≡ r → IsSubmitted x
  by_header (Ok h) is = by_outline h is (outline_of h.delims x) refl
  by_header (Err f) is = false_is_never_true (sym (field.not_submitted_of x f is) ∙ orders)

  pub submitted : IsSubmitted x
  submitted = by_header (header_of x) refl

module _ (x : Bytes) (s : IsSubmitted x) where
  pub alone : AllByRecursion (λ g. group_is_acknowledgment g ≡ false) s.outline.groups
  alone = orders_alone s.outline.groups s.orders

  pub numbers_are : x12.groups x ≡ map (λ g. g.number) s.outline.groups
  numbers_are = field.groups_are x s.header s.is_header s.outline s.is_outline ∙ ap (map (λ (z : FunctionalGroup). z.number)) (all_kept s.outline.groups alone)

  pub of_orders : (n : ℕ) → IsTrue (is_rising n (x12.groups x)) → IsOfOrders s.header x s.outline
  of_orders n rising = record {
    header = s.is_header;
    outline = s.is_outline;
    orders = alone;
    groups = distinct_groups n s.outline.groups (subst (λ ns. is_rising n ns ≡ true) numbers_are rising);
    sets = groups_distinct_sets s.outline.groups s.orders;
  }

  answers_none : answers_in x ≡ []
  unfolding answers_of
  answers_none = field.answers_are x s.header s.is_header s.outline s.is_outline ∙ rw (s.no_tas) (no_answers s.header.delims s.outline.groups alone)

  none_told : (ed : Edition) (hubs : List Party) (y : Bytes) → flat_map told_by_piece (pieces_read ed (evidence_of hubs (submission_in_bytes y ++ []) (x12.sender x) [])) ≡ []
  unfolding evidence_of
  none_told First hubs y = refl
  none_told Second hubs y = refl
  none_told Third hubs y = refl

  pub tells_nothing_by : (ed : Edition) (hubs : List Party) (y : Bytes) → x12.evidence ed hubs x y ≡ []
  tells_nothing_by ed hubs y = field.evidence_is ed hubs x y ∙ ap (λ answers. flat_map told_by_piece (pieces_read ed (evidence_of hubs (submission_in_bytes y ++ []) (x12.sender x) answers))) answers_none ∙ none_told ed hubs y

  no_numbers : (gs : List FunctionalGroup) → not (length gs == 0) ≡ true → map (λ (g : FunctionalGroup). g.number) gs ≡ [] → ⊥
  no_numbers [] some none = false_is_never_true some
  no_numbers (g ∷ gs) some none = absurd cc

  pub has_group_by : x12.groups x ≢ []
  has_group_by none = no_numbers s.outline.groups s.groups (sym numbers_are ∙ none)

-- The laws.

pub has_group : (x : Bytes) → IsTrue (x12.is_submission x) → x12.groups x ≢ []
has_group x orders none = has_group_by x (submitted x orders) none

pub tells_nothing : (ed : Edition) (hubs : List Party) (b x : Bytes) → IsTrue (x12.is_submission b) → x12.evidence ed hubs b x ≡ []
tells_nothing ed hubs b x orders = tells_nothing_by b (submitted b orders) ed hubs x

module _ (x : Bytes) (s : PlacedTransactionSet) where
  abbrev IsOne : List PlacedTransactionSet → Type 0
  IsOne sets = Contains sets s → filter (λ t. is_place s.place t.place) sets ≡ s ∷ []

  none_one : (sets : List PlacedTransactionSet) → sets ≡ [] → IsOne sets
  none_one sets is h = none_in_nil s (subst (λ ts. Contains ts s) is h)

  one_outline : (h : Header) → header_of x ≡ Ok h → (o : Result Interchange OutlineFault) → outline_of h.delims x ≡ o → IsOne (x12.sets x)
  one_outline h is (Ok o) there = subst IsOne (sym (field.sets_are x h is o there)) (place.one_at_a_place o s)
  one_outline h is (Err f) there = none_one (x12.sets x) (field.no_sets x h is f there)

  one_header : (r : Result Header HeaderFault) → header_of x ≡ r → IsOne (x12.sets x)
  one_header (Ok h) is = one_outline h is (outline_of h.delims x) refl
  one_header (Err f) is = none_one (x12.sets x) (field.no_sets_of x f is)

  pub one_at_a_place : Contains (x12.sets x) s → filter (λ t. is_place s.place t.place) (x12.sets x) ≡ s ∷ []
  one_at_a_place = one_header (header_of x) refl
