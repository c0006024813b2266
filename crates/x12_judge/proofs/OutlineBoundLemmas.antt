-- How much an outline holds: no transaction set is longer than the bytes that were read.
use Rattle.std.proofs.Common.{◌≡◌, ℕ, ◌-◌, ◌≤◌, Bool, true, false, List, [], ◌∷◌, length, drop, map, get_or, if◌then◌else◌, Result, Ok, Err, Option, Some, None, subst, arith, zero, suc, vec_len, IfOk, inl, inr, nat_lt}
use Rattle.std.proofs.lemmas.Bool.Decides.{nat_tests}
use Rattle.std.specs.List.{All, AllByRecursion, slice_range}
use Rattle.std.proofs.lemmas.List.{length-take, length-drop}
use Rattle.std.proofs.lemmas.List.Sums.{get_or-le-sum_by}
use Rattle.x12_envelopes.specs.declared.delimiters.Delims.{Delims}
use Rattle.x12_envelopes.specs.declared.shape.GroupView.{GroupView}
use Rattle.x12_envelopes.specs.declared.shape.Outline.{Outline}
use Rattle.x12_envelopes.specs.declared.shape.OutlineFault.{OutlineFault}
use Rattle.x12_envelopes.specs.Row.{ok_unless}
use Rattle.x12_envelopes.specs.declared.header.Header.{Header}
use Rattle.x12_envelopes.specs.Header.{header_of}
use Rattle.x12_envelopes.specs.Byte.{number_of_digits}
use Rattle.x12_envelopes.specs.Segment.{PlacedSegment, element_of, segments_from}
use Rattle.x12_envelopes.specs.Content.{kind_of_segment}
use Rattle.x12_envelopes.specs.Outline.{SetRest, GroupRest, transaction_set_of, set_rest, functional_group_of, group_rest, interchange_of, outline_of, ends_group, with_ta1, with_group, with_sets, offset_behind, is_kind}
use Rattle.x12_envelopes.specs.Shape.{FunctionalGroup, Interchange, set_view, group_view, outline_view, sets_of_outline, GivesUnlessMemory}
use Rattle.x12_envelopes.specs.declared.shape.OutlineFault.TheVariants.{Structure, Premature, Content, Memory}
use Rattle.x12_judge.specs.Interchange.{Reading, reading_is_memory_fault, reading_view}
use Rattle.x12_judge.specs.Bound.{IsSmall, IsSmallGroup}
use Rattle.x12_envelopes.specs.declared.content.Kind.TheVariants.{Ge, Gs, Iea, St, Ta1}
use Rattle.std.proofs.lemmas.Bool.{cases_Bool}

-- each set of the group has at most so many bytes
abbrev IsShort : ℕ → FunctionalGroup → Type 0
IsShort most g = AllByRecursion (λ s. length s.bytes ≤ most) g.sets

pick : {X : Type 0} (P : X → Type 0) (b : Bool) (x y : X) → P x → P y → P (if b then x else y)
pick P true x y p q = p
pick P false x y p q = q

range_short : (input : List ℕ) (from to : ℕ) → length (slice_range input from to) ≤ length input
range_short input from to =
    let cut = length-take (to - from) (drop from input) in
    let offset_behind = length-drop from input in
    omega (arith, cut, offset_behind)

set_short : (d : Delims) (input : List ℕ) (st : PlacedSegment) (r : SetRest) → length (transaction_set_of d input st r).bytes ≤ length input
unfolding transaction_set_of
set_short d input st r = range_short input st.at r.place

sets_short :
    (d : Delims) (input : List ℕ) (ss : List PlacedSegment)
    → AllByRecursion (λ s. length s.bytes ≤ length input) (group_rest d input ss).sets
unfolding group_rest
sets_short d input [] = tt
sets_short d input (s ∷ more) =
    let P : GroupRest → Type 0 = λ r. AllByRecursion (λ s. length s.bytes ≤ length input) r.sets in
    let kind = kind_of_segment d s.bytes in
    let rest = sets_short d input more in
    let goes_on = group_rest d input more in
    let opened : GroupRest = with_sets (transaction_set_of d input s (set_rest d (offset_behind s) more) ∷ []) goes_on in
    let closed : GroupRest = record { sets = []; trailer = Some s.bytes; rest = more } in
    let over : GroupRest = record { sets = []; trailer = None; rest = s ∷ more } in
    let third : P (if ends_group kind then over else goes_on) =
    pick P (ends_group kind) over goes_on (tt {0}) rest in
    let second : P (if is_kind Ge kind then closed else (if ends_group kind then over else goes_on)) =
    pick P (is_kind Ge kind) closed (if ends_group kind then over else goes_on) (tt {0}) third in
    let first : P opened = (set_short d input s (set_rest d (offset_behind s) more), rest) in
    pick P (is_kind St kind) opened (if is_kind Ge kind then closed else (if ends_group kind then over else goes_on)) first second

groups_short :
    (d : Delims) (input : List ℕ) (ss : List PlacedSegment)
    → AllByRecursion (IsShort (length input)) (interchange_of d input ss).groups
unfolding interchange_of functional_group_of
groups_short d input [] = tt
groups_short d input (s ∷ more) =
    let P : Interchange → Type 0 = λ x. AllByRecursion (IsShort (length input)) x.groups in
    let kind = kind_of_segment d s.bytes in
    let rest = groups_short d input more in
    let goes_on = interchange_of d input more in
    let noted : Interchange = with_ta1 s.bytes d goes_on in
    let opened : Interchange = with_group (functional_group_of d s (group_rest d input more)) goes_on in
    let closed : Interchange =
    record { tas = []; groups = []; count = number_of_digits (element_of d s.bytes 1); trailer = number_of_digits (element_of d s.bytes 2) } in
    let third : P (if is_kind Iea kind then closed else goes_on) = pick P (is_kind Iea kind) closed goes_on (tt {0}) rest in
    let here : P opened = (sets_short d input more, rest) in
    let second : P (if is_kind Gs kind then opened else (if is_kind Iea kind then closed else goes_on)) =
    pick P (is_kind Gs kind) opened (if is_kind Iea kind then closed else goes_on) here third in
    pick P (is_kind Ta1 kind) noted (if is_kind Gs kind then opened else (if is_kind Iea kind then closed else goes_on)) rest second

-- what was read is the value, where there is no fault
ok_value : {X F : Type 0} (fault : Option F) (x y : X) → ok_unless fault x ≡ Ok y → x ≡ y
ok_value None x y e = cc
ok_value (Some f) x y e = cc

outline_short :
    (d : Delims) (input : List ℕ) (x : Interchange) → outline_of d input ≡ Ok x
    → AllByRecursion (IsShort (length input)) x.groups
unfolding outline_of
outline_short d input x read =
    let segments = segments_from d 106 (drop 106 input) in
    subst (λ y. AllByRecursion (IsShort (length input)) y.groups)
    (ok_value _ (interchange_of d input segments) x read)
    (groups_short d input segments)

-- what holds of each element of a mapped list
all_mapped :
    {X Y : Type 0} (P : Y → Type 0) (f : X → Y) (xs : List X) → AllByRecursion P (map f xs) → All (λ x. P (f x)) xs
all_mapped P f [] h k d within = absurd (omega (arith, within))
all_mapped P f (x ∷ xs) h zero d within = h.0
all_mapped P f (x ∷ xs) h (suc k) d within = all_mapped P f xs h.1 k d (omega (arith, within))

small_group : (d : Delims) (most : ℕ) (g : GroupView) → most ≤ 1048576 → vec_len g.sets ≤ 400 → IsShort most (group_view d g) → IsSmallGroup g
small_group d most g size few short = record {
  short = λ k s within. omega (arith, all_mapped (λ s. length s.bytes ≤ most) (set_view d) g.sets.items short k s within);
  few = omega (arith, few);
}

-- an outline that was read is small
read_small :
    (d : Delims) (input : List ℕ) (o : Outline) → length input ≤ 1048576 → outline_of d input ≡ Ok (outline_view d o)
    → length o.groups.items ≤ 32 → sets_of_outline o ≤ 400 → IsSmall o
read_small d input o size read groups sets =
    let short = outline_short d input (outline_view d o) read in
    record {
      groups = λ k g within.
          small_group d (length input) (get_or o.groups.items k g) size
          (omega (arith, sets, get_or-le-sum_by (λ (g : GroupView). vec_len g.sets) o.groups.items k g within))
          (all_mapped (IsShort (length input)) (group_view d) o.groups.items short k g within);
      few = groups;
    }

-- what was read, where it was read, is small
pub reading_small :
    (d : Delims) (input : List ℕ) (r : Result Outline OutlineFault) → length input ≤ 1048576
    → GivesUnlessMemory (outline_view d) r (outline_of d input) → IfOk r (λ o. vec_len o.groups ≤ 32) → IfOk r (λ o. sets_of_outline o ≤ 400)
    → IfOk r IsSmall
reading_small d input (Ok o) size read groups sets = read_small d input o size read (omega (arith, groups, o.groups.ok.0)) sets
reading_small d input (Err fault) size read groups sets = tt

-- unless memory ran out, the reading is the one of the definition
pub reading_is :
    (d : Delims) (r : Result Outline OutlineFault) (o : Reading) → GivesUnlessMemory (outline_view d) r o
    → reading_is_memory_fault r ≡ false → o ≡ reading_view d r
reading_is d (Ok x) o read known = read
reading_is d (Err (Structure at)) o read known = read
reading_is d (Err (Premature at)) o read known = read
reading_is d (Err (Content at)) o read known = read
reading_is d (Err Memory) o read known = cc

not_above : (n : ℕ) → nat_lt 1048576 n ≡ false → n ≤ 1048576
not_above n e = grind (arith, nat_tests)

-- bytes with a header are at most 1,048,576
pub header_bound : (bytes : List ℕ) (h : Header) → header_of bytes ≡ Ok h → length bytes ≤ 1048576
unfolding header_of
header_bound bytes h read = elim (cases_Bool (nat_lt 1048576 (length bytes))) [
  | inl e ↦ let bad = rw e at read in cc
  | inr e ↦ not_above (length bytes) e
]
