-- What a verdict tells is what is told by place.
use Rattle.std.specs.Prelude.{◌≡◌, ℕ, ◌+◌, ◌≤◌, ◌<◌, List, [], ◌∷◌, ◌++◌, Bool, true, false, ◌&&◌, ◌==◌, not, cond, if◌then◌else◌, map, filter, flat_map, zip, Option, Some, None, is_some, refl, Ok}
use Rattle.std.specs.List.{enumerate_from, AllByRecursion}
use native.Mathlib.Omega.{arith}
use mathlib.Core.Path.{sym, ap, ap₂, ◌∙◌}
use Rattle.std.proofs.lemmas.List.Folds.{list_any-append}
use Rattle.std.proofs.lemmas.List.{map-append}
use Rattle.std.proofs.Common.{le_refl}
use Rattle.x12_envelopes.specs.declared.header.Header.{Header}
use Rattle.x12_envelopes.specs.declared.party.Party.{Party}
use Rattle.x12_envelopes.specs.Shape.{FunctionalGroup, TransactionSet as ReadSet}
use Rattle.x12_judge.specs.Agreement.{TradingAgreement}
use Rattle.x12_judge.specs.declared.verdict.SetResult.{SetResult}
use Rattle.x12_judge.specs.declared.verdict.SetResult.TheVariants.{Accepted, Noted, Rejected}
use Rattle.x12_judge.specs.Set.{TransactionSetVerdict, takes, is_noted}
use Rattle.x12_judge.specs.Group.{FunctionalGroupVerdict, verdict_of_group, verdicts_of_sets, refusal_of_group}
use Rattle.x12_judge.specs.Verdict.{verdict_by, verdicts_of_groups, judgement_of, group_is_acknowledgment}
use Rattle.x12_acks.specs.Submission.{Submission, KeyedGroup, keyed_set, keyed_group, keyed_groups, keyed_sets, submitted_set, submitted_group, KeyedSet, submission_of}
use Rattle.x12_acks.specs.Evidence.{Evidence as Piece, tells, rejected, tells_each, fate_of_result}
use Rattle.x12_acks.specs.Accepted.{AcceptedSet, judged_set, sets_in_group, sets_by_verdict}
use Rattle.x12_acks.specs.Told.{set_told, group_told, verdict_told, is_among, result_if, told_at, told_by_place, VerdictIsToldByPlace}
use Rattle.x12_judge.specs.Interchange.{note_of_interchange}
use Rattle.std.proofs.lemmas.Bool.{and_right}
use Rattle.x12_numbers.proofs.Shelf.{eq_itself, greater_differs, less_differs, or_false_left, or_false_right}

-- the submitted sets of a group from a place on, and those of groups
abbrev keyed_from : Submission → ℕ → ℕ → List ReadSet → List KeyedSet
keyed_from e group m ss = map (λ s. keyed_set e group s.0 s.1) (enumerate_from m (map submitted_set ss))

abbrev groups_from : Submission → ℕ → List FunctionalGroup → List KeyedGroup
groups_from e n gs = map (λ g. keyed_group e g.0 g.1) (enumerate_from n (map submitted_group gs))

abbrev stands : ℕ → ℕ → List AcceptedSet → Bool
stands group set sets = is_among sets group set

-- a result is told by whether errors are noted, and whether it accepts
pub by_tests : (r : SetResult) → r ≡ result_if (is_noted r) (takes r)
by_tests Accepted = refl
by_tests Noted = refl
by_tests Rejected = refl

-- the results at places, by which are noted and which are accepted
abbrev results_by : (ℕ → ℕ → Bool) → (ℕ → ℕ → Bool) → ℕ → ℕ → SetResult
results_by noted accepted i j = result_if (noted i j) (accepted i j)

-- Within a group, of the sets whose result passes a test.

module _ (test : SetResult → Bool) where
  abbrev kept_from : ℕ → List TransactionSetVerdict → List (ℕ × TransactionSetVerdict)
  kept_from m vs = filter (λ p. test p.1.result) (enumerate_from m vs)

  module _ (sender : Party) (icn : ℕ) (g : FunctionalGroupVerdict) where
    abbrev placed : List (ℕ × TransactionSetVerdict) → List AcceptedSet
    placed ps = map (judged_set sender icn g) ps

    one_past : (j m : ℕ) (b : Bool) (v : TransactionSetVerdict) (ps : List (ℕ × TransactionSetVerdict)) → m < j → stands g.place j (placed (cond b ((m, v) ∷ ps) ps)) ≡ stands g.place j (placed ps)
    one_past j m true v ps lt = or_false_left _ _ (and_right (g.place == g.place) (m == j) (less_differs m j lt))
    one_past j m false v ps lt = refl

    sets_later : (j m : ℕ) (vs : List TransactionSetVerdict) → j < m → stands g.place j (placed (kept_from m vs)) ≡ false
    sets_later j m [] lt = refl
    sets_later j m (v ∷ vs) lt = by (test v.result) (sets_later j (m + 1) vs (omega arith))
      where
        by : (b : Bool) → stands g.place j (placed (kept_from (m + 1) vs)) ≡ false → stands g.place j (placed (cond b ((m, v) ∷ kept_from (m + 1) vs) (kept_from (m + 1) vs))) ≡ false
        by true rest = rw (and_right (g.place == g.place) (m == j) (greater_differs j m lt)) rest
        by false rest = rest

    one_here : (m : ℕ) (b : Bool) (v : TransactionSetVerdict) (ps : List (ℕ × TransactionSetVerdict)) → stands g.place m (placed ps) ≡ false → stands g.place m (placed (cond b ((m, v) ∷ ps) ps)) ≡ b
    one_here m true v ps rest = rw (eq_itself g.place, eq_itself m) refl
    one_here m false v ps rest = rest

    of_other : (i j : ℕ) (ps : List (ℕ × TransactionSetVerdict)) → (g.place == i) ≡ false → stands i j (placed ps) ≡ false
    of_other i j [] apart = refl
    of_other i j (p ∷ ps) apart = rw apart (of_other i j ps apart)

    other_group : (i j : ℕ) → (g.place == i) ≡ false → stands i j (sets_in_group test sender icn g) ≡ false
    other_group i j apart = of_other i j (kept_from 1 g.sets) apart

    -- the places of these sets of the group, from one on
    abbrev AreKeptFrom : (ℕ → ℕ → Bool) → ℕ → List TransactionSetVerdict → Type 0
    AreKeptFrom f m vs = (j : ℕ) → m ≤ j → f g.place j ≡ stands g.place j (placed (kept_from m vs))

    first_kept : (f : ℕ → ℕ → Bool) (m : ℕ) (v : TransactionSetVerdict) (vs : List TransactionSetVerdict) → AreKeptFrom f m (v ∷ vs) → test v.result ≡ f g.place m
    first_kept f m v vs is = sym (is m (le_refl m) ∙ one_here m (test v.result) v (kept_from (m + 1) vs) (sets_later m (m + 1) vs (omega arith)))

    more_kept : (f : ℕ → ℕ → Bool) (m : ℕ) (v : TransactionSetVerdict) (vs : List TransactionSetVerdict) → AreKeptFrom f m (v ∷ vs) → AreKeptFrom f (m + 1) vs
    more_kept f m v vs is j le = is j (omega (arith, le)) ∙ one_past j m (test v.result) v (kept_from (m + 1) vs) (omega (arith, le))

module _ (sender : Party) (icn : ℕ) (g : FunctionalGroupVerdict) (noted accepted : ℕ → ℕ → Bool) (e : Submission) where
  sets_told : (V : ℕ × ReadSet → TransactionSetVerdict) (m n : ℕ) (ss : List ReadSet)
      → AreKeptFrom is_noted sender icn g noted m (map V (enumerate_from n ss))
      → AreKeptFrom takes sender icn g accepted m (map V (enumerate_from n ss))
      → map (λ p. set_told p.0 p.1) (zip (keyed_from e g.place m ss) (map V (enumerate_from n ss))) ≡ map (told_at (results_by noted accepted)) (keyed_from e g.place m ss)
  sets_told V m n [] are_noted are_accepted = refl
  sets_told V m n (s ∷ ss) are_noted are_accepted =
      let v = V (n, s) in
      let vs = map V (enumerate_from (n + 1) ss) in
      let first = by_tests v.result ∙ ap₂ result_if (first_kept is_noted sender icn g noted m v vs are_noted) (first_kept takes sender icn g accepted m v vs are_accepted) in
      ap₂ (λ (r : SetResult) (es : List Piece). tells (keyed_set e g.place m (submitted_set s)).key (fate_of_result r) ∷ es) first
      (sets_told V (m + 1) (n + 1) ss (more_kept is_noted sender icn g noted m v vs are_noted) (more_kept takes sender icn g accepted m v vs are_accepted))

  sets_rejected : (m : ℕ) (ss : List ReadSet) → ((j : ℕ) → noted g.place j ≡ false) → ((j : ℕ) → accepted g.place j ≡ false)
      → tells_each rejected (keyed_from e g.place m ss) ≡ map (told_at (results_by noted accepted)) (keyed_from e g.place m ss)
  sets_rejected m [] none_noted none = refl
  sets_rejected m (s ∷ ss) none_noted none =
      ap₂ (λ (r : SetResult) (es : List Piece). tells (keyed_set e g.place m (submitted_set s)).key (fate_of_result r) ∷ es) (sym (ap₂ result_if (none_noted m) (none m))) (sets_rejected (m + 1) ss none_noted none)

  -- the places of the sets of this group that pass a test, where it is refused or not
  abbrev AreKept : (SetResult → Bool) → (ℕ → ℕ → Bool) → Bool → List TransactionSetVerdict → Type 0
  AreKept test f b vs = (j : ℕ) → f g.place j ≡ stands g.place j (placed test sender icn g (kept_from test 1 (if b then [] else vs)))

  group_by : (V : ℕ × ReadSet → TransactionSetVerdict) (ss : List ReadSet) (b : Bool)
      → AreKept is_noted noted b (map V (enumerate_from 0 ss))
      → AreKept takes accepted b (map V (enumerate_from 0 ss))
      → (if b then tells_each rejected (keyed_from e g.place 1 ss) else map (λ p. set_told p.0 p.1) (zip (keyed_from e g.place 1 ss) (if b then [] else map V (enumerate_from 0 ss)))) ≡ map (told_at (results_by noted accepted)) (keyed_from e g.place 1 ss)
  group_by V ss true are_noted are_accepted = sets_rejected 1 ss are_noted are_accepted
  group_by V ss false are_noted are_accepted = sets_told V 1 0 ss (λ j le. are_noted j) (λ j le. are_accepted j)

-- Between groups.

abbrev judged_at : Header → List TradingAgreement → ℕ × FunctionalGroup → FunctionalGroupVerdict
judged_at h a place = verdict_of_group a h.sender h.delims place.0 place.1

module _ (h : Header) (a : List TradingAgreement) (sender : Party) (icn : ℕ) where
  place_is : (n : ℕ) (g : FunctionalGroup) → (judged_at h a (n, g)).place ≡ n
  unfolding verdict_of_group
  place_is n g = refl

  module _ (test : SetResult → Bool) where
    abbrev sets_at : ℕ × FunctionalGroup → List AcceptedSet
    sets_at place = sets_in_group test sender icn (judged_at h a place)

    abbrev sets_from : ℕ → List FunctionalGroup → List AcceptedSet
    sets_from n gs = flat_map (sets_in_group test sender icn) (map (judged_at h a) (enumerate_from n gs))

    own_none : (n i j : ℕ) (g : FunctionalGroup) → (n == i) ≡ false → stands i j (sets_at (n, g)) ≡ false
    own_none n i j g apart = other_group test sender icn (judged_at h a (n, g)) i j (ap (λ m. m == i) (place_is n g) ∙ apart)

    groups_later : (n i j : ℕ) (gs : List FunctionalGroup) → i < n → stands i j (sets_from n gs) ≡ false
    groups_later n i j [] lt = refl
    groups_later n i j (g ∷ gs) lt =
        list_any-append (λ s. (s.key.group == i) && (s.key.set == j)) (sets_at (n, g)) (sets_from (n + 1) gs)
        ∙ or_false_left _ _ (own_none n i j g (greater_differs i n lt)) ∙ groups_later (n + 1) i j gs (omega arith)

    -- the places of these sets of groups, from one on
    abbrev AreSetsFrom : (ℕ → ℕ → Bool) → ℕ → List FunctionalGroup → Type 0
    AreSetsFrom f n gs = (i j : ℕ) → n ≤ i → f i j ≡ stands i j (sets_from n gs)

    sets_here : (f : ℕ → ℕ → Bool) (n : ℕ) (g : FunctionalGroup) (gs : List FunctionalGroup) → AreSetsFrom f n (g ∷ gs) → (j : ℕ) → f n j ≡ stands n j (sets_at (n, g))
    sets_here f n g gs is j = is n j (le_refl n) ∙ list_any-append (λ s. (s.key.group == n) && (s.key.set == j)) (sets_at (n, g)) (sets_from (n + 1) gs) ∙ or_false_right _ _ (groups_later (n + 1) n j gs (omega arith))

    sets_behind : (f : ℕ → ℕ → Bool) (n : ℕ) (g : FunctionalGroup) (gs : List FunctionalGroup) → AreSetsFrom f n (g ∷ gs) → AreSetsFrom f (n + 1) gs
    sets_behind f n g gs is i j le = is i j (omega (arith, le)) ∙ list_any-append (λ s. (s.key.group == i) && (s.key.set == j)) (sets_at (n, g)) (sets_from (n + 1) gs) ∙ or_false_left _ _ (own_none n i j g (less_differs n i (omega (arith, le))))

  module _ (noted accepted : ℕ → ℕ → Bool) (e : Submission) where
    one_group : (n : ℕ) (g : FunctionalGroup)
        → ((j : ℕ) → noted n j ≡ stands n j (sets_at is_noted (n, g)))
        → ((j : ℕ) → accepted n j ≡ stands n j (sets_at takes (n, g)))
        → group_told (keyed_group e n (submitted_group g)) (judged_at h a (n, g)) ≡ map (told_at (results_by noted accepted)) (keyed_from e n 1 g.sets)
    unfolding verdict_of_group verdicts_of_sets
    one_group n g are_noted are_accepted = group_by sender icn (judged_at h a (n, g)) noted accepted e _ g.sets (is_some (refusal_of_group a h.sender g)) are_noted are_accepted

    groups_told : (n : ℕ) (gs : List FunctionalGroup) → AreSetsFrom is_noted noted n gs → AreSetsFrom takes accepted n gs
        → flat_map (λ p. group_told p.0 p.1) (zip (groups_from e n gs) (map (judged_at h a) (enumerate_from n gs))) ≡ map (told_at (results_by noted accepted)) (flat_map (λ g. g.sets) (groups_from e n gs))
    groups_told n [] are_noted are_accepted = refl
    groups_told n (g ∷ gs) are_noted are_accepted =
        ap₂ (λ (x y : List Piece). x ++ y)
        (one_group n g (sets_here is_noted noted n g gs are_noted) (sets_here takes accepted n g gs are_accepted))
        (groups_told (n + 1) gs (sets_behind is_noted noted n g gs are_noted) (sets_behind takes accepted n g gs are_accepted))
        ∙ sym (map-append (told_at (results_by noted accepted)) (keyed_from e n 1 g.sets) (flat_map (λ g. g.sets) (groups_from e (n + 1) gs)))

pub each_rejected : (sets : List KeyedSet) → tells_each rejected sets ≡ map (told_at (λ i j. Rejected)) sets
each_rejected [] = refl
each_rejected (s ∷ sets) = ap (λ es. tells s.key rejected ∷ es) (each_rejected sets)

-- The verdict, told.

verdict_by_place : (h : Header) (a : List TradingAgreement) (e : Submission) (note : Option ℕ) (gs : List FunctionalGroup)
    → e.groups ≡ map submitted_group gs
    → verdict_told e (verdict_by note (map (judged_at h a) (enumerate_from 1 gs))) ≡ told_by_place e (verdict_by note (map (judged_at h a) (enumerate_from 1 gs)))
unfolding verdict_told told_by_place sets_by_verdict keyed_groups keyed_sets
verdict_by_place h a e (Some note) gs is = each_rejected (flat_map (λ g. g.sets) (map (λ g. keyed_group e g.0 g.1) (enumerate_from 1 e.groups)))
verdict_by_place h a e None gs is =
    let noted : ℕ → ℕ → Bool = λ i j. stands i j (sets_from h a e.sender e.icn is_noted 1 gs) in
    let accepted : ℕ → ℕ → Bool = λ i j. stands i j (sets_from h a e.sender e.icn takes 1 gs) in
    rw is (groups_told h a e.sender e.icn noted accepted e 1 gs (λ i j le. refl) (λ i j le. refl))

-- none is left out where none is of acknowledgments
all_answered : (n : ℕ) (gs : List FunctionalGroup) → AllByRecursion (λ g. group_is_acknowledgment g ≡ false) gs → filter (λ place. not (group_is_acknowledgment place.1)) (enumerate_from n gs) ≡ enumerate_from n gs
all_answered n [] all = refl
all_answered n (g ∷ gs) all = rw (all.0) (ap (λ ps. (n, g) ∷ ps) (all_answered (n + 1) gs all.1))

pub verdict_is_told_by_place : VerdictIsToldByPlace
unfolding judgement_of verdicts_of_groups submission_of
verdict_is_told_by_place me terms h bytes x is orders = rw (is, all_answered 1 x.groups orders) (verdict_by_place h terms.agreements (submission_of h bytes x) (note_of_interchange terms.controls me h (Ok x)) x.groups refl)
