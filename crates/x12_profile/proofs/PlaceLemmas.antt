-- Transaction sets by place: what is told of each, and that a place names one.
use Rattle.std.specs.Prelude.{◌≡◌, ℕ, ◌+◌, ◌<◌, ◌≤◌, List, [], ◌∷◌, ◌++◌, Bool, true, false, ◌==◌, if◌then◌else◌, map, filter, flat_map, refl, Contains, ◌⊎◌}
use Rattle.std.specs.List.{enumerate_from}
use native.Mathlib.Omega.{arith}
use mathlib.Core.Path.{sym, ap, ap₂, subst, ◌∙◌}
use mathlib.Core.Logic.{inl, inr}
use Rattle.std.proofs.lemmas.Bool.Decides.{eqb_tells}
use Rattle.std.proofs.lemmas.Grind.{flat_map-append}
use Rattle.std.proofs.lemmas.List.{map-append}
use Rattle.std.proofs.lemmas.List.Elements.{filter-append, Contains-append_cases}
use Rattle.x12_envelopes.specs.declared.header.Header.{Header}
use Rattle.x12_envelopes.specs.Shape.{Interchange, FunctionalGroup, TransactionSet as ReadSet}
use Rattle.x12_acks.specs.Evidence.{FinalFate, Evidence as Piece, tells, unmatched, rejected, tells_each, fate_of_result}
use Rattle.x12_judge.specs.declared.verdict.SetResult.{SetResult}
use Rattle.x12_judge.specs.declared.verdict.SetResult.TheVariants.{Rejected}
use Rattle.x12_profile.specs.declared.edition.Edition.{Edition}
use Rattle.x12_profile.specs.declared.edition.Edition.TheVariants.{First, Second, Third}
use Rattle.x12_profile.specs.Edition.{fate_read}
use Rattle.x12_acks.specs.Submission.{Submission, KeyedSet, keyed_set, keyed_group, keyed_groups, keyed_sets, submission_of, submitted_group, submitted_set}
use Rattle.x12_acks.specs.Told.{told_at}
use Rattle.x12_profile.specs.Interchange.{Bytes, PlaceOfSet, PlacedTransactionSet, PlacedEvidence, is_place, evidence_by}
use Rattle.x12_profile.specs.X12.{sets_of_group, sets_by_place, told_by_piece, pieces_read, piece_before}
use Rattle.x12_numbers.proofs.Shelf.{none_in_nil, contains_cons, contains_head, contains_tail, eq_itself}
use Rattle.std.proofs.lemmas.Bool.{and_right}
use Rattle.x12_acks.proofs.ToldLemmas.{each_rejected}

-- a transaction set at a place of a group
abbrev at_place : ℕ → List ℕ → ℕ × ReadSet → PlacedTransactionSet
at_place group functional s = record { place = record { group = group; set = s.0 }; functional = functional; set = s.1.set; number = s.1.number; bytes = s.1.bytes }

abbrev placed_from : ℕ → List ℕ → ℕ → List ReadSet → List PlacedTransactionSet
placed_from group functional m ss = map (at_place group functional) (enumerate_from m ss)

-- What is told of each.

-- evidence as it is read by an edition, in two steps
abbrev placed_before : PlacedEvidence → PlacedEvidence
placed_before e = record { place = e.place; fate = fate_read First e.fate }

abbrev pub placed_read : Edition → List PlacedEvidence → List PlacedEvidence
placed_read First es = map placed_before es
placed_read Second es = es
placed_read Third es = es

pub told_as_read : (ed : Edition) (pieces : List Piece) → flat_map told_by_piece (pieces_read ed pieces) ≡ placed_read ed (flat_map told_by_piece pieces)
told_as_read Second pieces = refl
told_as_read Third pieces = refl
told_as_read First [] = refl
told_as_read First (tells key fate ∷ pieces) = ap (λ (es : List PlacedEvidence). record { place = record { group = key.group; set = key.set }; fate = fate_read First fate } ∷ es) (told_as_read First pieces)
told_as_read First (unmatched ∷ pieces) = told_as_read First pieces

-- the verdict of each set, as it is read
pub verdict_read : (ed : Edition) (v : PlaceOfSet → SetResult) (sets : List PlacedTransactionSet) → placed_read ed (map (λ s. record { place = s.place; fate = fate_of_result (v s.place) }) sets) ≡ evidence_by ed v sets
verdict_read Second v sets = refl
verdict_read Third v sets = refl
verdict_read First v [] = refl
verdict_read First v (s ∷ sets) = ap (λ (es : List PlacedEvidence). record { place = s.place; fate = fate_read First (fate_of_result (v s.place)) } ∷ es) (verdict_read First v sets)

-- what is read was told
pub was_told : (ed : Edition) (es : List PlacedEvidence) (e : PlacedEvidence) → Contains (placed_read ed es) e → (f : PlacedEvidence) × Contains es f
was_told Second es e h = (e, h)
was_told Third es e h = (e, h)
was_told First [] e h = none_in_nil e h
was_told First (f ∷ es) e h = elim (contains_cons e (placed_before f) (map placed_before es) h) [
  | inl same ↦ (f, contains_head f es)
  | inr later ↦ let rest = was_told First es e later in (rest.0, contains_tail rest.0 f es rest.1)
]

-- none, where none was
pub none_read : (ed : Edition) → placed_read ed [] ≡ []
none_read First = refl
none_read Second = refl
none_read Third = refl

abbrev keyed_from : Submission → ℕ → ℕ → List ReadSet → List KeyedSet
keyed_from e group m ss = map (λ s. keyed_set e group s.0 s.1) (enumerate_from m (map submitted_set ss))

module _ (f : ℕ → ℕ → SetResult) (e : Submission) where
  abbrev at : PlaceOfSet → SetResult
  at k = f k.group k.set

  -- what is told, before it is read by an edition
  abbrev plainly : List PlacedTransactionSet → List PlacedEvidence
  plainly sets = map (λ s. record { place = s.place; fate = fate_of_result (at s.place) }) sets

  sets_told : (group : ℕ) (functional : List ℕ) (m : ℕ) (ss : List ReadSet) → flat_map told_by_piece (map (told_at f) (keyed_from e group m ss)) ≡ plainly (placed_from group functional m ss)
  sets_told group functional m [] = refl
  sets_told group functional m (s ∷ ss) = ap (λ (es : List PlacedEvidence). record { place = record { group = group; set = m }; fate = fate_of_result (f group m) } ∷ es) (sets_told group functional (m + 1) ss)

  groups_told : (n : ℕ) (gs : List FunctionalGroup) → flat_map told_by_piece (map (told_at f) (flat_map (λ g. g.sets) (map (λ g. keyed_group e g.0 g.1) (enumerate_from n (map submitted_group gs))))) ≡ plainly (flat_map sets_of_group (enumerate_from n gs))
  groups_told n [] = refl
  groups_told n (g ∷ gs) =
      let own = keyed_from e n 1 g.sets in
      let more = flat_map (λ g. g.sets) (map (λ g. keyed_group e g.0 g.1) (enumerate_from (n + 1) (map submitted_group gs))) in
      ap (flat_map told_by_piece) (map-append (told_at f) own more)
      ∙ flat_map-append told_by_piece (map (told_at f) own) (map (told_at f) more)
      ∙ ap₂ (λ (x y : List PlacedEvidence). x ++ y) (sets_told n g.functional 1 g.sets) (groups_told (n + 1) gs)
      ∙ sym (map-append (λ s. record { place = s.place; fate = fate_of_result (at s.place) }) (sets_of_group (n, g)) (flat_map sets_of_group (enumerate_from (n + 1) gs)))

-- what is told of a submission's sets, by place
pub all_told : (ed : Edition) (f : ℕ → ℕ → SetResult) (h : Header) (x : Bytes) (o : Interchange) → flat_map told_by_piece (pieces_read ed (map (told_at f) (keyed_sets (submission_of h x o)))) ≡ evidence_by ed (λ k. f k.group k.set) (sets_by_place o)
unfolding keyed_sets keyed_groups submission_of
all_told ed f h x o = told_as_read ed _ ∙ ap (placed_read ed) (groups_told f (submission_of h x o) 1 o.groups) ∙ verdict_read ed (λ k. f k.group k.set) (sets_by_place o)

pub all_rejected : (ed : Edition) (h : Header) (x : Bytes) (o : Interchange) → flat_map told_by_piece (pieces_read ed (tells_each rejected (keyed_sets (submission_of h x o)))) ≡ evidence_by ed (λ k. Rejected) (sets_by_place o)
all_rejected ed h x o = ap (λ es. flat_map told_by_piece (pieces_read ed es)) (each_rejected (keyed_sets (submission_of h x o))) ∙ all_told ed (λ i j. Rejected) h x o

-- A place names one.

apart : (m n : ℕ) → (m < n) ⊎ (n < m) → (m == n) ≡ false
apart m n (inl lt) = elim (eqb_tells m n) [ inl is ↦ let eq = is.1 in absurd (omega arith) | inr other ↦ other.0 ]
apart m n (inr lt) = elim (eqb_tells m n) [ inl is ↦ let eq = is.1 in absurd (omega arith) | inr other ↦ other.0 ]

module _ (functional : List ℕ) where
  -- none has a lower place in the group, nor another group
  later_sets : (k : PlaceOfSet) (group m : ℕ) (ss : List ReadSet) → k.set < m → filter (λ t. is_place k t.place) (placed_from group functional m ss) ≡ []
  later_sets k group m [] lt = refl
  later_sets k group m (s ∷ ss) lt = rw (and_right (k.group == group) (k.set == m) (apart k.set m (inl lt))) (later_sets k group (m + 1) ss (omega (arith, lt)))

  other_group : (k : PlaceOfSet) (group m : ℕ) (ss : List ReadSet) → (k.group == group) ≡ false → filter (λ t. is_place k t.place) (placed_from group functional m ss) ≡ []
  other_group k group m [] e = refl
  other_group k group m (s ∷ ss) e = rw e (other_group k group (m + 1) ss e)

  -- where a set stands
  in_sets : (group m : ℕ) (ss : List ReadSet) (s : PlacedTransactionSet) → Contains (placed_from group functional m ss) s → (s.place.group ≡ group) × (m ≤ s.place.set)
  in_sets group m [] s h = none_in_nil s h
  in_sets group m (z ∷ ss) s h = elim (contains_cons s (at_place group functional (m, z)) (placed_from group functional (m + 1) ss) h) [
    | inl is ↦ (sym (ap (λ (t : PlacedTransactionSet). t.place.group) is), let e = ap (λ (t : PlacedTransactionSet). t.place.set) is in omega (arith, e))
    | inr later ↦ let c = in_sets group (m + 1) ss s later in (c.0, let le = c.1 in omega (arith, le))
  ]

  one_set : (group m : ℕ) (ss : List ReadSet) (s : PlacedTransactionSet) → Contains (placed_from group functional m ss) s → filter (λ t. is_place s.place t.place) (placed_from group functional m ss) ≡ s ∷ []
  one_set group m [] s h = none_in_nil s h
  one_set group m (z ∷ ss) s h = elim (contains_cons s (at_place group functional (m, z)) (placed_from group functional (m + 1) ss) h) [
    | inl is ↦ subst (λ (t : PlacedTransactionSet). filter (λ u. is_place t.place u.place) (placed_from group functional m (z ∷ ss)) ≡ t ∷ []) is (rw (eq_itself group, eq_itself m) (ap (λ ts. at_place group functional (m, z) ∷ ts) (later_sets (record { group = group; set = m }) group (m + 1) ss (omega arith))))
    | inr later ↦ let le = (in_sets group (m + 1) ss s later).1 in rw (and_right (s.place.group == group) (s.place.set == m) (apart s.place.set m (inr (omega (arith, le))))) (one_set group (m + 1) ss s later)
  ]

later_groups : (k : PlaceOfSet) (n : ℕ) (gs : List FunctionalGroup) → k.group < n → filter (λ t. is_place k t.place) (flat_map sets_of_group (enumerate_from n gs)) ≡ []
later_groups k n [] lt = refl
later_groups k n (g ∷ gs) lt =
    filter-append (λ t. is_place k t.place) (sets_of_group (n, g)) (flat_map sets_of_group (enumerate_from (n + 1) gs))
    ∙ ap₂ (λ x y. x ++ y) (other_group g.functional k n 1 g.sets (apart k.group n (inl lt))) (later_groups k (n + 1) gs (omega (arith, lt)))

in_groups : (n : ℕ) (gs : List FunctionalGroup) (s : PlacedTransactionSet) → Contains (flat_map sets_of_group (enumerate_from n gs)) s → n ≤ s.place.group
in_groups n [] s h = none_in_nil s h
in_groups n (g ∷ gs) s h = elim (Contains-append_cases (sets_of_group (n, g)) (flat_map sets_of_group (enumerate_from (n + 1) gs)) s h) [
  | inl own ↦ let e = (in_sets g.functional n 1 g.sets s own).0 in omega (arith, e)
  | inr later ↦ let le = in_groups (n + 1) gs s later in omega (arith, le)
]

one_from : (n : ℕ) (gs : List FunctionalGroup) (s : PlacedTransactionSet) → Contains (flat_map sets_of_group (enumerate_from n gs)) s → filter (λ t. is_place s.place t.place) (flat_map sets_of_group (enumerate_from n gs)) ≡ s ∷ []
one_from n [] s h = none_in_nil s h
one_from n (g ∷ gs) s h =
    filter-append (λ t. is_place s.place t.place) (sets_of_group (n, g)) (flat_map sets_of_group (enumerate_from (n + 1) gs))
    ∙ elim (Contains-append_cases (sets_of_group (n, g)) (flat_map sets_of_group (enumerate_from (n + 1) gs)) s h) [
      | inl own ↦ let e = (in_sets g.functional n 1 g.sets s own).0 in ap₂ (λ x y. x ++ y) (one_set g.functional n 1 g.sets s own) (later_groups s.place (n + 1) gs (omega (arith, e)))
      | inr later ↦ let le = in_groups (n + 1) gs s later in ap₂ (λ x y. x ++ y) (other_group g.functional s.place n 1 g.sets (apart s.place.group n (inr (omega (arith, le))))) (one_from (n + 1) gs s later)
    ]

pub one_at_a_place : (o : Interchange) (s : PlacedTransactionSet) → Contains (sets_by_place o) s → filter (λ t. is_place s.place t.place) (sets_by_place o) ≡ s ∷ []
one_at_a_place o s h = one_from 1 o.groups s h
