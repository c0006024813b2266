-- The evidence of submissions whose numbers rise, cut to those that are named, and to one.
use Rattle.std.specs.Prelude.{◌≡◌, ℕ, ◌<◌, Bool, true, false, ◌&&◌, ◌||◌, ◌==◌, List, [], ◌∷◌, ◌++◌, find, Option, Some, None, is_some, option_and_then, bytes_eq, Contains, All, refl}
use Rattle.std.specs.List.{list_any}
use Rattle.std.specs.Option.{option_or}
use native.Mathlib.Omega.{arith}
use mathlib.Core.Path.{sym, ap, ap₂, subst, ◌∙◌}
use mathlib.Core.Logic.{inl, inr}
use Rattle.std.proofs.lemmas.Bool.{cases_order, and_parts}
use Rattle.std.proofs.lemmas.List.{get_or_default}
use Rattle.std.proofs.Common.{get_or, eqb-true}
use Rattle.std.proofs.lemmas.List.Folds.{find-append}
use Rattle.std.proofs.lemmas.List.Elements.{All-contains, Contains-append_left, Contains-append_right, Contains-append_cases}
use Rattle.x12_envelopes.specs.declared.party.Party.{Party}
use Rattle.x12_judge.specs.Agreement.{is_same_party}
use Rattle.x12_acks.specs.Answer.{Acknowledgment, of_interchange, of_group, unclear, FunctionalGroupAnswer}
use Rattle.x12_acks.specs.Submission.{IsBefore, Submission, SubmittedGroup, KeyedGroup, keyed_groups}
use Rattle.x12_acks.specs.Evidence.{is_acknowledged_by, found_group, answer_evidence, evidence_of}
use Rattle.x12_acks.specs.Named.{names_group, names_submission, evidence_for_one, SubmissionsRise, AtMostOne, NamesOne, EvidenceNeedsTheNamed, IsInParts, FoundInParts, found_if, FinderFinds}
use Rattle.x12_acks.proofs.FindLemmas.{none_passes, one_found, same_found, any_found}
use Rattle.x12_numbers.proofs.Shelf.{found_passes, flat_map_same_at}
use Rattle.x12_acks.proofs.NamedLemmas.{names_keyed, any_keyed, group_alone, group_named, evidence_is_of_the_named}

-- a group of this number
pub any_is : {X : Type 0} (p : X → Bool) (xs : List X) → list_any p xs ≡ true → (x : X) × Contains xs x × (p x ≡ true)
any_is p xs e = by (find p xs) refl
  where
    by : (o : Option _) → find p xs ≡ o → (x : _) × Contains xs x × (p x ≡ true)
    by (Some x) is = let c = found_passes p xs x is in (x, c.0, c.1)
    by None is = absurd (wrong (sym e ∙ any_found p xs ∙ ap is_some is))
      where
        wrong : true ≡ false → ⊥
        wrong e = cc

-- Two of them that have a number in common are one.
module _ (all : List Submission) (rise : SubmissionsRise all) where
  -- what no two have in common, the first before the second, none has
  at_most_one : (p : Submission → Bool) → ((e f : Submission) → IsBefore e f → p e ≡ true → p f ≡ true → ⊥) → AtMostOne p all
  at_most_one p apart x y at_x at_y is_x is_y = elim (cases_order at_x.0 at_y.0) [
    | inl same ↦ sym at_x.2 ∙ get_or_default all at_x.0 x y at_x.1 ∙ ap (λ k. get_or all k y) same ∙ at_y.2
    | inr (inl first) ↦ absurd (apart x y (subst (λ z. IsBefore z y) at_x.2 (subst (λ z. IsBefore (get_or all at_x.0 x) z) (get_or_default all at_y.0 x y at_y.1 ∙ at_y.2) (rise at_x.0 at_y.0 x first at_y.1))) is_x is_y)
    | inr (inr second) ↦ absurd (apart y x (subst (λ z. IsBefore z x) at_y.2 (subst (λ z. IsBefore (get_or all at_y.0 y) z) (get_or_default all at_x.0 y x at_x.1 ∙ at_x.2) (rise at_y.0 at_x.0 y second at_x.1))) is_y is_x)
  ]

  lower : (e f : Submission) (n : ℕ) → IsBefore e f → (e.icn == n) ≡ true → (f.icn == n) ≡ true → ⊥
  lower e f n before is_e is_f = let a = eqb-true e.icn n is_e in let b = eqb-true f.icn n is_f in let lt = before.interchange in omega arith

  pub one_number : (icn : ℕ) → AtMostOne (λ e. e.icn == icn) all
  one_number icn = at_most_one (λ e. e.icn == icn) (λ e f before. lower e f icn before)

  has_lower : (e f : Submission) (n : ℕ) → IsBefore e f → list_any (λ g. g.number == n) e.groups ≡ true → list_any (λ g. g.number == n) f.groups ≡ true → ⊥
  has_lower e f n before is_e is_f =
      let g = any_is (λ (g : SubmittedGroup). g.number == n) e.groups is_e in
      let h = any_is (λ (g : SubmittedGroup). g.number == n) f.groups is_f in
      let lt : g.0.number < h.0.number = All-contains (λ (k : SubmittedGroup). g.0.number < k.number) f.groups h.0 (All-contains (λ (k : SubmittedGroup). All (λ (j : SubmittedGroup). k.number < j.number) f.groups) e.groups g.0 before.groups g.1) h.1 in
      let a = eqb-true g.0.number n g.2 in let b = eqb-true h.0.number n h.2 in omega arith

  pub one_group : (n : ℕ) → AtMostOne (λ e. list_any (λ g. g.number == n) e.groups) all
  one_group n = at_most_one (λ e. list_any (λ g. g.number == n) e.groups) (λ e f before. has_lower e f n before)

-- what names it has its number, or a group of its number
named_number : (hubs : List Party) (from : Party) (icn : ℕ) (e : Submission) → is_acknowledged_by hubs from icn e ≡ true → (e.icn == icn) ≡ true
named_number hubs from icn e is = (and_parts (e.icn == icn) (is_same_party e.receiver from || list_any (is_same_party from) hubs) is).0

any_weaker : {X : Type 0} (p q : X → Bool) → ((x : X) → p x ≡ true → q x ≡ true) → (xs : List X) → list_any p xs ≡ true → list_any q xs ≡ true
any_weaker p q go [] e = absurd cc
any_weaker p q go (x ∷ xs) e = by (p x) refl e (any_weaker p q go xs)
  where
    or_right : (a b : Bool) → b ≡ true → (a || b) ≡ true
    or_right true b e = refl
    or_right false b e = e

    by : (b : Bool) → p x ≡ b → (b || list_any p xs) ≡ true → (list_any p xs ≡ true → list_any q xs ≡ true) → (q x || list_any q xs) ≡ true
    by true is e more = rw (go x is) refl
    by false is e more = or_right (q x) (list_any q xs) (more e)

named_group : (from : Party) (a : FunctionalGroupAnswer) (e : Submission) → (is_same_party e.receiver from && list_any (names_group a) e.groups) ≡ true → list_any (λ g. g.number == a.number) e.groups ≡ true
named_group from a e is = any_weaker (names_group a) (λ g. g.number == a.number) (λ g c. (and_parts (bytes_eq g.functional a.functional) (g.number == a.number) c).1) e.groups (and_parts (is_same_party e.receiver from) (list_any (names_group a) e.groups) is).1

pub one_answered : (all : List Submission) → SubmissionsRise all → (hubs : List Party) (from : Party) (a : Acknowledgment) → AtMostOne (names_submission hubs from a) all
one_answered all rise hubs from (of_interchange icn code note) x y at_x at_y is_x is_y = one_number all rise icn x y at_x at_y (named_number hubs from icn x is_x) (named_number hubs from icn y is_y)
one_answered all rise hubs from (of_group a) x y at_x at_y is_x is_y = one_group all rise a.number x y at_x at_y (named_group from a x is_x) (named_group from a y is_y)
one_answered all rise hubs from unclear x y at_x at_y is_x is_y = absurd cc

pub names_one : NamesOne
names_one = record { answer = one_answered; number = one_number; group = one_group }

-- Those that are named.

pub needs_the_named : EvidenceNeedsTheNamed
unfolding evidence_of
needs_the_named hubs from all some answers rise holds = flat_map_same_at (answer_evidence hubs some from) (answer_evidence hubs all from) answers (λ a h.
    evidence_is_of_the_named hubs from some a
    ∙ ap (evidence_for_one hubs from a) (same_found (names_submission hubs from a) some all (one_answered all rise hubs from a) (λ e in_some is. holds.of_all e in_some) (λ e in_all is. holds.named e a in_all h is))
    ∙ sym (evidence_is_of_the_named hubs from all a))

-- In parts.

append_of : (all near far : List Submission) → IsInParts all near far → (e : Submission) → Contains (near ++ far) e → Contains all e
append_of all near far parts e h = elim (Contains-append_cases near far e h) [ inl a ↦ parts.open_of e a | inr b ↦ parts.closed_of e b ]

in_append : (all near far : List Submission) → IsInParts all near far → (e : Submission) → Contains all e → Contains (near ++ far) e
in_append all near far parts e h = elim (parts.either e h) [ inl a ↦ Contains-append_left near far e a | inr b ↦ Contains-append_right near far e b ]

found_parts : (p : Submission → Bool) (all near far : List Submission) → AtMostOne p all → IsInParts all near far → find p all ≡ option_or (find p near) (find p far)
found_parts p all near far one parts = sym (same_found p (near ++ far) all one (λ e h is. append_of all near far parts e h) (λ e h is. in_append all near far parts e h)) ∙ find-append p near far

then_either : (F : Submission → Option KeyedGroup) (P : Submission → Bool) → ((e : Submission) → P e ≡ true → is_some (F e) ≡ true) → (a b : Option Submission) → ((e : Submission) → a ≡ Some e → P e ≡ true) → option_and_then F (option_or a b) ≡ option_or (option_and_then F a) (option_and_then F b)
then_either F P some None b is = refl
then_either F P some (Some e) b is = by (F e) (some e (is e refl))
  where
    by : (o : Option KeyedGroup) → is_some o ≡ true → o ≡ option_or o (option_and_then F b)
    by (Some k) is = refl
    by None is = absurd cc

-- a submission that is named has the group
group_there : (from : Party) (a : FunctionalGroupAnswer) (e : Submission) → (is_same_party e.receiver from && list_any (names_group a) e.groups) ≡ true → is_some (found_group (e ∷ []) from a) ≡ true
group_there from a e is =
    let c = and_parts (is_same_party e.receiver from) (list_any (names_group a) e.groups) is in
    ap is_some (group_alone from a e c.0) ∙ sym (any_found (names_keyed a) (keyed_groups e)) ∙ any_keyed a e ∙ c.1

pub found_in_parts : FoundInParts
found_in_parts = record {
  submission = λ hubs from all near far a rise parts.
      evidence_is_of_the_named hubs from all a ∙ ap (evidence_for_one hubs from a) (found_parts (names_submission hubs from a) all near far (one_answered all rise hubs from a) parts);
  interchange = λ hubs from all near far icn rise parts.
      found_parts (is_acknowledged_by hubs from icn) all near far (λ x y at_x at_y is_x is_y. one_number all rise icn x y at_x at_y (named_number hubs from icn x is_x) (named_number hubs from icn y is_y)) parts;
  group = λ from all near far a rise parts. groups from all near far a rise parts;
}
  where
    groups : (from : Party) (all near far : List Submission) (a : FunctionalGroupAnswer) → SubmissionsRise all → IsInParts all near far → found_group all from a ≡ option_or (found_group near from a) (found_group far from a)
    groups from all near far a rise parts =
        let named : Submission → Bool = λ e. is_same_party e.receiver from && list_any (names_group a) e.groups in
        let one : AtMostOne named all = λ x y at_x at_y is_x is_y. one_group all rise a.number x y at_x at_y (named_group from a x is_x) (named_group from a y is_y) in
        group_named from a all
        ∙ ap (option_and_then (λ e. found_group (e ∷ []) from a)) (found_parts named all near far one parts)
        ∙ then_either (λ e. found_group (e ∷ []) from a) named (group_there from a) (find named near) (find named far) (λ e is. (found_passes named near e is).1)
        ∙ sym (ap₂ option_or (group_named from a near) (group_named from a far))

-- Finders.

narrowed : {X : Type 0} (p q : X → Bool) (xs : List X) → ((x : X) → p x ≡ true → q x ≡ true) → AtMostOne q xs → find p xs ≡ found_if p (find q xs)
narrowed p q xs weaker one = by (find p xs) refl (find q xs) refl
  where
    by : (a : Option _) → find p xs ≡ a → (b : Option _) → find q xs ≡ b → find p xs ≡ found_if p (find q xs)
    by (Some x) is b found =
        let c = found_passes p xs x is in
        is ∙ sym (ap (found_if p) (one_found q xs x one c.0 (weaker x c.1)) ∙ rw (c.1) refl)
    by None is (Some y) found =
        let c = found_passes q xs y found in
        is ∙ sym (ap (found_if p) found ∙ rw (none_passes p xs y is c.0) refl)
    by None is None found = is ∙ sym (ap (found_if p) found)

pub finder_finds : FinderFinds
finder_finds = record {
  by_number = λ hubs from all icn note code rise. narrowed (is_acknowledged_by hubs from icn) (λ e. e.icn == icn) all (named_number hubs from icn) (one_number all rise icn);
  by_group = λ hubs from all a rise. narrowed (names_submission hubs from (of_group a)) (λ e. list_any (λ g. g.number == a.number) e.groups) all (named_group from a) (one_group all rise a.number);
}
