-- Transaction sets by their places, one more at each step of a loop, and the first of a number.
use Rattle.std.proofs.Common.{ℕ, ◌≡◌, ◌+◌, ◌-◌, ◌<◌, ◌∙◌, ap, sym, suc, inl, inr, Bool, true, false, not, ◌||◌, List, [], ◌∷◌, ◌++◌, map, filter, find, length, get_or, take, Option, Some, None, option_map, is_some, if◌then◌else◌, arith, refl}
use Rattle.std.specs.List.{enumerate_from}
use Rattle.std.specs.Option.{option_or}
use Rattle.std.specs.Map.{update}
use Rattle.std.specs.Str.{bytes_eq}
use Rattle.std.proofs.lemmas.Bool.{cases_Bool}
use Rattle.std.proofs.lemmas.List.{take_more, length-take, get_or_default, map-append, append_assoc, append-nil}
use Rattle.std.proofs.lemmas.List.Elements.{filter-append}
use Rattle.std.proofs.lemmas.List.Folds.{find-append, list_any_more}
use Rattle.std.proofs.lemmas.Slice.Eq.{bytes_eq-Decides}
use Rattle.x12_envelopes.specs.declared.shape.SetNo.{SetNo}
use Rattle.x12_envelopes.specs.Shape.{bytes_of_set_no}
use Rattle.x12_acks.specs.declared.answer.AnswerCode.{AnswerCode}
use Rattle.x12_outbound.specs.declared.entry.EntrySet.{EntrySet}
use Rattle.x12_outbound.specs.declared.fate.FinalFate.{FinalFate}
use Rattle.x12_outbound.specs.declared.fate.FinalFate.TheVariants.{Accepted}
use Rattle.x12_outbound.specs.declared.evidence.Statement.{Statement}
use Rattle.x12_outbound.specs.declared.statement.Origin.{Origin}
use Rattle.x12_outbound.specs.Statement.{told_of_set, all_told, set_numbered, is_listed, unlisted_told}
use Rattle.x12_numbers.proofs.Shelf.{enumerate_push, none_if_not_some, option_or_none}

some_or : {X : Type 0} (o p : Option X) → is_some o ≡ true → option_or o p ≡ o
some_or None p some = absurd (let no : ⊥ = cc in no)
some_or (Some x) p some = refl

is_some_map : {X Y : Type 0} (f : X → Y) (o : Option X) → is_some (option_map f o) ≡ is_some o
is_some_map f None = refl
is_some_map f (Some x) = refl

pub placed_more : {X : Type 0} (xs : List X) (i : ℕ) (x : X) → i < length xs → x ≡ get_or xs i x
    → enumerate_from 1 (take (i + 1) xs) ≡ enumerate_from 1 (take i xs) ++ (i + 1, x) ∷ []
placed_more xs i x within is =
    let at : 1 + length (take i xs) ≡ i + 1 = omega (arith, length-take i xs) in
    ap (enumerate_from 1) (take_more xs i x within ∙ ap (λ y. take i xs ++ y ∷ []) (sym is))
    ∙ enumerate_push 1 (take i xs) x ∙ ap (λ (m : ℕ). enumerate_from 1 (take i xs) ++ (m, x) ∷ []) at

module _ (o : Origin) (sets : List EntrySet) (i : ℕ) (x : EntrySet) (within : i < length sets) (is : x ≡ get_or sets i x) where
  -- one set more of which the same is told
  pub all_more : (fate : FinalFate) (before : List (Option Statement)) → (before ++ all_told o fate (take i sets)) ++ Some (told_of_set o fate (i + 1, x)) ∷ [] ≡ before ++ all_told o fate (take (i + 1) sets)
  all_more fate before =
      append_assoc before (all_told o fate (take i sets)) _
      ∙ ap (λ rest. before ++ rest) (sym (ap (map (λ s. Some (told_of_set o fate s))) (placed_more sets i x within is) ∙ map-append (λ s. Some (told_of_set o fate s)) (enumerate_from 1 (take i sets)) ((i + 1, x) ∷ [])))

  -- one set more, which isn't listed, or is
  abbrev unlisted : (listed : List (SetNo × AnswerCode)) → ℕ × EntrySet → Bool
  unlisted listed s = not (is_listed listed (bytes_of_set_no s.1.number))

  parted : (listed : List (SetNo × AnswerCode)) → filter (unlisted listed) (enumerate_from 1 (take (i + 1) sets)) ≡ filter (unlisted listed) (enumerate_from 1 (take i sets)) ++ filter (unlisted listed) ((i + 1, x) ∷ [])
  parted listed = ap (filter (unlisted listed)) (placed_more sets i x within is) ∙ filter-append (unlisted listed) (enumerate_from 1 (take i sets)) ((i + 1, x) ∷ [])

  pub unlisted_more : (listed : List (SetNo × AnswerCode)) (before : List (Option Statement)) → is_listed listed (bytes_of_set_no x.number) ≡ false
      → (before ++ unlisted_told o (take i sets) listed) ++ Some (told_of_set o Accepted (i + 1, x)) ∷ [] ≡ before ++ unlisted_told o (take (i + 1) sets) listed
  unlisted_more listed before absent =
      let one : filter (unlisted listed) ((i + 1, x) ∷ []) ≡ (i + 1, x) ∷ [] = rw absent refl in
      append_assoc before (unlisted_told o (take i sets) listed) _
      ∙ ap (λ rest. before ++ rest) (sym (ap (map (λ s. Some (told_of_set o Accepted s))) (parted listed ∙ ap (λ rest. filter (unlisted listed) (enumerate_from 1 (take i sets)) ++ rest) one)
      ∙ map-append (λ s. Some (told_of_set o Accepted s)) (filter (unlisted listed) (enumerate_from 1 (take i sets))) ((i + 1, x) ∷ [])))

  pub listed_more : (listed : List (SetNo × AnswerCode)) → is_listed listed (bytes_of_set_no x.number) ≡ true
      → unlisted_told o (take i sets) listed ≡ unlisted_told o (take (i + 1) sets) listed
  listed_more listed present =
      let none : filter (unlisted listed) ((i + 1, x) ∷ []) ≡ [] = rw present refl in
      ap (map (λ s. Some (told_of_set o Accepted s))) (sym (parted listed ∙ ap (λ rest. filter (unlisted listed) (enumerate_from 1 (take i sets)) ++ rest) none ∙ append-nil _))

module _ (sets : List EntrySet) (i : ℕ) (x : EntrySet) (within : i < length sets) (is : x ≡ get_or sets i x) where
  -- the first set of a number, among one set more
  numbered_more : (number : List ℕ) → set_numbered number (take (i + 1) sets) ≡ option_or (set_numbered number (take i sets)) (if bytes_eq (bytes_of_set_no x.number) number then Some (i + 1, x) else None)
  numbered_more number =
      let q = λ (s : ℕ × EntrySet). bytes_eq (bytes_of_set_no s.1.number) number in
      ap (find q) (placed_more sets i x within is) ∙ find-append q (enumerate_from 1 (take i sets)) ((i + 1, x) ∷ [])

  -- the places of numbers, where the set has a new number, and where it has an old one
  pub places_new : (before after : List ℕ → Option ℕ) (place : ℕ) → ((number : List ℕ) → before number ≡ option_map (λ s. s.0) (set_numbered number (take i sets)))
      → ((number : List ℕ) → after number ≡ update bytes_eq before (bytes_of_set_no x.number) (Some place) number) → place ≡ i + 1
      → is_some (before (bytes_of_set_no x.number)) ≡ false → (number : List ℕ) → after number ≡ option_map (λ s. s.0) (set_numbered number (take (i + 1) sets))
  places_new before after place so_far updates at new number = updates number ∙ elim (cases_Bool (bytes_eq (bytes_of_set_no x.number) number)) [
    | inl same ↦
        let number_is = (bytes_eq-Decides (bytes_of_set_no x.number) number).0 same in
        let none = none_if_not_some (set_numbered number (take i sets)) (sym (is_some_map (λ s. s.0) (set_numbered number (take i sets))) ∙ ap is_some (sym (so_far number) ∙ ap before (sym number_is)) ∙ new) in
        rw (numbered_more number, same, none) (ap Some at)
    | inr other ↦ rw (numbered_more number, other) (so_far number ∙ ap (option_map (λ s. s.0)) (sym (option_or_none (set_numbered number (take i sets)))))
  ]

  pub places_old : (before : List ℕ → Option ℕ) → ((number : List ℕ) → before number ≡ option_map (λ s. s.0) (set_numbered number (take i sets)))
      → is_some (before (bytes_of_set_no x.number)) ≡ true → (number : List ℕ) → before number ≡ option_map (λ s. s.0) (set_numbered number (take (i + 1) sets))
  places_old before so_far old number = elim (cases_Bool (bytes_eq (bytes_of_set_no x.number) number)) [
    | inl same ↦
        let number_is = (bytes_eq-Decides (bytes_of_set_no x.number) number).0 same in
        so_far number ∙ ap (option_map (λ s. s.0)) (sym (numbered_more number ∙ some_or (set_numbered number (take i sets)) _ (sym (is_some_map (λ s. s.0) (set_numbered number (take i sets))) ∙ ap is_some (sym (so_far number) ∙ ap before (sym number_is)) ∙ old)))
    | inr other ↦ rw (numbered_more number, other) (so_far number ∙ ap (option_map (λ s. s.0)) (sym (option_or_none (set_numbered number (take i sets)))))
  ]

-- where an element that was found by place stands
pub record Placed {X : Type 0} (n : ℕ) (xs : List X) (p : ℕ × X) : Type 0 where
  pub index : ℕ
  pub at : p.0 ≡ n + index
  pub within : index < length xs
  pub is : p.1 ≡ get_or xs index p.1

pub found_placed : {X : Type 0} (q : ℕ × X → Bool) (n : ℕ) (xs : List X) (p : ℕ × X) → find q (enumerate_from n xs) ≡ Some p → Placed n xs p
found_placed q n [] p found = absurd (let no : ⊥ = cc in no)
found_placed q n (x ∷ xs) p found = elim (cases_Bool (q (n, x))) [
  | inl here ↦
      let same : (n, x) ≡ p = some_same (rw here at found) in
      rw (← same) (record { index = 0; at = omega arith; within = omega arith; is = refl })
  | inr later ↦
      let rest = found_placed q (n + 1) xs p (rw later at found) in
      record { index = suc rest.index; at = omega (arith, rest.at); within = omega (arith, rest.within); is = rest.is }
]
  where
    some_same : {Y : Type 0} {y z : Y} → Some y ≡ Some z → y ≡ z
    some_same same = cc

-- the set that was found at a place
pub record OfNumber (number : List ℕ) (sets : List EntrySet) (place : ℕ) : Type 0 where
  pub set : EntrySet
  pub found : set_numbered number sets ≡ Some (place, set)
  pub index : ℕ
  pub at : place ≡ 1 + index
  pub within : index < length sets
  pub is : set ≡ get_or sets index set

pub of_number : (number : List ℕ) (sets : List EntrySet) (place : ℕ) → Some place ≡ option_map (λ s. s.0) (set_numbered number sets) → OfNumber number sets place
of_number number sets place tells = go (set_numbered number sets) refl tells
  where
    go : (o : Option (ℕ × EntrySet)) → set_numbered number sets ≡ o → Some place ≡ option_map (λ s. s.0) o → OfNumber number sets place
    go None at none = absurd (let no : ⊥ = cc in no)
    go (Some p) found some =
        let same : p.0 ≡ place = cc in
        let placed = found_placed (λ s. bytes_eq (bytes_of_set_no s.1.number) number) 1 sets p found in
        record { set = p.1; found = found ∙ ap (λ (n : ℕ). Some (n, p.1)) same; index = placed.index; at = sym same ∙ placed.at; within = placed.within; is = placed.is }

-- and the set of a listed number
pub of_listed : (look : List ℕ → Option ℕ) (number bytes : List ℕ) (sets : List EntrySet) (place : ℕ) → ((n : List ℕ) → look n ≡ option_map (λ s. s.0) (set_numbered n sets))
    → Some place ≡ look bytes → bytes ≡ number → OfNumber number sets place
of_listed look number bytes sets place looks found is = of_number number sets place (found ∙ ap look is ∙ looks number)

-- what was told of it
pub told_of_number : (o : Origin) (number : List ℕ) (sets : List EntrySet) (place at : ℕ) (set : EntrySet) (fate : FinalFate) → OfNumber number sets place
    → at ≡ place - 1 → set ≡ get_or sets at set → Some (told_of_set o fate (place, set)) ≡ option_map (told_of_set o fate) (set_numbered number sets)
told_of_number o number sets place at set fate one index is =
    let here : at ≡ one.index = omega (arith, index, one.at) in
    let same : set ≡ one.set = is ∙ ap (λ (n : ℕ). get_or sets n set) here ∙ get_or_default sets one.index set one.set one.within ∙ sym one.is in
    ap (λ (s : EntrySet). Some (told_of_set o fate (place, s))) same ∙ sym (ap (option_map (told_of_set o fate)) one.found)

-- a number more that is listed
pub numbers_more : (listed : List (SetNo × AnswerCode)) (i : ℕ) (x : SetNo × AnswerCode) → i < length listed → x ≡ get_or listed i x
    → (before after : List ℕ → Option (Unit {0})) → ((number : List ℕ) → is_some (before number) ≡ is_listed (take i listed) number)
    → ((number : List ℕ) → after number ≡ update bytes_eq before (bytes_of_set_no x.0) (Some tt) number)
    → (number : List ℕ) → is_some (after number) ≡ is_listed (take (i + 1) listed) number
numbers_more listed i x within is before after so_far updates number =
    let test = λ (a : SetNo × AnswerCode). bytes_eq (bytes_of_set_no a.0) number in
    let more : is_listed (take (i + 1) listed) number ≡ (is_listed (take i listed) number || test x) =
    list_any_more test listed i x within ∙ ap (λ a. is_listed (take i listed) number || test a) (sym is) in
    ap is_some (updates number) ∙ elim (cases_Bool (bytes_eq (bytes_of_set_no x.0) number)) [
      | inl same ↦ rw (more, same) (sym (or_true (is_listed (take i listed) number)))
      | inr other ↦ rw (more, other) (so_far number ∙ sym (or_false (is_listed (take i listed) number)))
    ]
  where
    or_true : (b : Bool) → (b || true) ≡ true
    or_true true = refl
    or_true false = refl

    or_false : (b : Bool) → (b || false) ≡ b
    or_false true = refl
    or_false false = refl
