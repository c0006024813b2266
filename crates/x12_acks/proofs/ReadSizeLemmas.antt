-- What was read of an interchange is short: its header, and its functional groups and transaction sets.
use Rattle.std.proofs.Common.{◌≡◌, ◌≤◌, ℕ, ◌+◌, ◌==◌, Bool, true, false, not, ◌&&◌, List, [], ◌∷◌, ◌++◌, length, drop, map, flat_map, if◌then◌else◌, option_map, is_some, refl, ap, sym, subst, ◌∙◌, arith, length-take, length-drop, length-append, nat_lt, nat_le}
use Rattle.std.specs.Prelude.{Option, Some, None, IfSome, Ok, slice_range}
use Rattle.std.specs.List.{AllByRecursion, slice_split}
use Rattle.std.specs.Option.{option_to_list}
use Rattle.std.proofs.lemmas.Bool.{eqb-true, leb-true, ltb-false, and_parts}
use Rattle.std.proofs.lemmas.List.{length-map}
use Rattle.std.proofs.lemmas.List.Sums.{sum_by-cons, count_by-le-length}
use Rattle.std.proofs.lemmas.List.Splits.{length-slice_split}
use Rattle.x12_envelopes.specs.declared.delimiters.Delims.{Delims}
use Rattle.x12_envelopes.specs.declared.header.Header.{Header}
use Rattle.x12_envelopes.specs.declared.header.HeaderFault.TheVariants.{TooLong, TooShort, NotIsa, BadDelimiters, BadField}
use Rattle.x12_envelopes.specs.Row.{first_of_rows, ok_unless}
use Rattle.x12_envelopes.specs.Byte.{bytes_are_digits, value_of_digits, number_of_digits}
use Rattle.x12_envelopes.specs.Delimiters.{bytes_are_delimiters}
use Rattle.x12_envelopes.specs.Header.{header_of, header_fault, fields_of, elements_are_fields, header_is_isa, delimiters_of}
use Rattle.x12_envelopes.specs.Segment.{PlacedSegment, segments_from, element_of}
use Rattle.x12_envelopes.specs.Content.{segment_is_gs, segment_is_st, group_trailer_of}
use Rattle.x12_envelopes.specs.Shape.{FunctionalGroup, Interchange}
use Rattle.x12_envelopes.specs.Outline.{outline_of}
use Rattle.x12_envelopes.specs.Grammar.{SetTree, GroupTree, InterchangeTree, set_tree_segments, group_tree_segments, interchange_tree_segments, IsSet, IsGroup, sets_in, bytes_of, set_meant, group_meant, interchange_meant, HoldsTree, ReadsTreesAlone}
use Rattle.x12_acks.proofs.ReplySizeLemmas.{IsShortHeader}
use Rattle.x12_acks.proofs.VerdictSizeLemmas.{IsShortRead, IsShortReadGroup, sets_read}
use Rattle.x12_envelopes.proofs.ReadHeaderLemmas.{small_value}
use Rattle.x12_envelopes.proofs.SegmentLemmas.{length-place}

tested : (b : Bool) (value most : ℕ) → (b ≡ true → value ≤ most) → IfSome (if b then Some value else None) (λ n. n ≤ most)
tested true value most small = small refl
tested false value most small = tt

number_small : (text : List ℕ) → IfSome (number_of_digits text) (λ n. n ≤ 999999999)
unfolding number_of_digits
number_small text =
    tested (nat_lt 0 (length text) && nat_le (length text) 9 && bytes_are_digits text) (value_of_digits text) 999999999
    (λ held. let outer = and_parts _ _ held in small_value text outer.1 (leb-true _ 9 (and_parts _ _ outer.0).1))

held_test : (b : Bool) (value : ℕ) → is_some (if b then Some value else None) ≡ true → b ≡ true
held_test true value some = refl
held_test false value some = absurd (cc)

number_length : (text : List ℕ) → is_some (number_of_digits text) ≡ true → length text ≤ 9
unfolding number_of_digits
number_length text some =
    let held = held_test (nat_lt 0 (length text) && nat_le (length text) 9 && bytes_are_digits text) (value_of_digits text) some in
    leb-true _ 9 (and_parts _ _ (and_parts _ _ held).0).1

-- the header
rows_none : (a b c d e : Bool) → first_of_rows ((a, TooLong) ∷ (b, TooShort) ∷ (not c, NotIsa) ∷ (not d, BadDelimiters) ∷ (not e, BadField) ∷ []) ≡ None → (a ≡ false) × (b ≡ false) × (e ≡ true)
rows_none true b c d e none = absurd (cc)
rows_none false true c d e none = absurd (cc)
rows_none false false false d e none = absurd (cc)
rows_none false false true false e none = absurd (cc)
rows_none false false true true false none = absurd (cc)
rows_none false false true true true none = (refl, refl, refl)

ok_fault : {X F : Type 0} (fault : Option F) (made x : X) → ok_unless fault made ≡ Ok x → (fault ≡ None) × (made ≡ x)
ok_fault None made x e = (refl, (cc))
ok_fault (Some f) made x e = absurd (cc)

fields_short : (bytes : List ℕ) → 106 ≤ length bytes → elements_are_fields bytes ≡ true → IsShortHeader (fields_of bytes)
unfolding elements_are_fields
fields_short bytes long are = record {
  qualifier = omega (arith, length-take 2 (drop 32 bytes), length-drop 32 bytes, long);
  id = omega (arith, length-take 15 (drop 35 bytes), length-drop 35 bytes, long);
  date = omega (arith, length-take 6 (drop 70 bytes));
  time = omega (arith, length-take 4 (drop 77 bytes));
  number = small_value (slice_range bytes 90 99) (and_parts _ _ are).1 (omega (arith, length-take 9 (drop 90 bytes)));
}

-- a header that was read, and how many bytes it was read from
pub record ReadsShort (h : Header) (bytes : List ℕ) : Type 0 where
  pub header : IsShortHeader h
  pub few : length bytes ≤ 1048576

pub header_short : (bytes : List ℕ) (h : Header) → header_of bytes ≡ Ok h → ReadsShort h bytes
unfolding header_of
header_short bytes h read =
    let ok = ok_fault (header_fault bytes) (fields_of bytes) h read in
    let rows = rows_none (nat_lt 1048576 (length bytes)) (nat_lt (length bytes) 106) (header_is_isa bytes) (bytes_are_delimiters (delimiters_of bytes)) (elements_are_fields bytes) ok.0 in
    record {
      header = subst IsShortHeader ok.1 (fields_short bytes (ltb-false _ 106 rows.1) rows.2);
      few = ltb-false 1048576 _ rows.0;
    }

-- transaction sets
st_parts : (d : Delims) (part : List ℕ) → segment_is_st d part ≡ true → (length (element_of d part 1) ≡ 3) × (length (element_of d part 2) ≤ 9)
unfolding segment_is_st
st_parts d part held =
    let number = and_parts _ _ held in
    (eqb-true _ 3 (and_parts _ _ number.0).1, leb-true _ 9 (and_parts _ _ number.1).1)

st_short : (d : Delims) (input : List ℕ) (t : SetTree) → IsSet d t → length (set_tree_segments t) ≤ 9999990 → IsShortRead (set_meant d input t)
st_short d input t is few =
    let parts = st_parts d t.st.bytes is.readable in
    record {
      set' = omega (arith, parts.0);
      number = parts.1;
      parts = omega (arith, length-map (set_tree_segments t) bytes_of, few);
    }

sets_short : (d : Delims) (input : List ℕ) (ts : List SetTree) → AllByRecursion (IsSet d) ts → length (flat_map set_tree_segments ts) ≤ 9999990 → AllByRecursion IsShortRead (map (set_meant d input) ts)
sets_short d input [] are few = tt
sets_short d input (t ∷ ts) are few =
    let whole = length-append (set_tree_segments t) (flat_map set_tree_segments ts) in
    (st_short d input t are.0 (omega (arith, whole, few)), sets_short d input ts are.1 (omega (arith, whole, few)))

-- functional groups
count_small : (d : Delims) (ge : Option PlacedSegment) → IfSome (option_map (λ (s : PlacedSegment). group_trailer_of d s.bytes) ge) (λ t. IfSome t.count (λ n. n ≤ 999999999))
unfolding group_trailer_of
count_small d None = tt
count_small d (Some s) = number_small (element_of d s.bytes 1)

-- GS01, GS02, GS03 and GS06
pub record AreShortElements (d : Delims) (part : List ℕ) : Type 0 where
  pub functional : length (element_of d part 1) ≡ 2
  pub sender : length (element_of d part 2) ≤ 15
  pub receiver : length (element_of d part 3) ≤ 15
  pub number : length (element_of d part 6) ≤ 9

gs_parts : (d : Delims) (part : List ℕ) → segment_is_gs d part ≡ true → AreShortElements d part
unfolding segment_is_gs
gs_parts d part held =
    let agency = and_parts _ _ (and_parts _ _ held).0 in
    let number = and_parts _ _ agency.0 in
    let date = and_parts _ _ (and_parts _ _ (and_parts _ _ number.0).0).0 in
    let receiver = and_parts _ _ date.0 in
    let sender = and_parts _ _ receiver.0 in
    record {
      functional = eqb-true _ 2 (and_parts _ _ sender.0).1;
      sender = leb-true _ 15 (and_parts _ _ sender.1).1;
      receiver = leb-true _ 15 (and_parts _ _ receiver.1).1;
      number = number_length (element_of d part 6) number.1;
    }

gs_short : (d : Delims) (input : List ℕ) (t : GroupTree) → IsGroup d t → length (group_tree_segments t) ≤ 9999990 → IsShortReadGroup (group_meant d input t)
gs_short d input t is few =
    let parts = gs_parts d t.gs.bytes is.readable in
    record {
      functional = omega (arith, parts.functional);
      sender = parts.sender;
      receiver = parts.receiver;
      number = parts.number;
      count = count_small d t.ge;
      sets = sets_short d input t.sets is.sets (omega (arith, few, length-append (flat_map set_tree_segments t.sets) (option_to_list t.ge)));
    }

groups_short : (d : Delims) (input : List ℕ) (ts : List GroupTree) → AllByRecursion (IsGroup d) ts → length (flat_map group_tree_segments ts) ≤ 9999990 → AllByRecursion IsShortReadGroup (map (group_meant d input) ts)
groups_short d input [] are few = tt
groups_short d input (t ∷ ts) are few =
    let whole = length-append (group_tree_segments t) (flat_map group_tree_segments ts) in
    (gs_short d input t are.0 (omega (arith, whole, few)), groups_short d input ts are.1 (omega (arith, whole, few)))

same_sets : (d : Delims) (input : List ℕ) (ts : List GroupTree) → sets_read (map (group_meant d input) ts) ≡ sets_in ts
same_sets d input [] = refl
same_sets d input (t ∷ ts) =
    sum_by-cons (λ (g : FunctionalGroup). length g.sets) (group_meant d input t) (map (group_meant d input) ts)
    ∙ omega (arith, sum_by-cons (λ (g : GroupTree). length g.sets) t ts, length-map t.sets (set_meant d input), same_sets d input ts)

few_segments : (d : Delims) (at : ℕ) (bytes : List ℕ) → length (segments_from d at bytes) ≤ length bytes + 1
unfolding segments_from
few_segments d at bytes =
    omega (arith, length-place at (slice_split (λ b. b == d.terminator) bytes), length-slice_split (λ b. b == d.terminator) bytes, count_by-le-length (λ b. b == d.terminator) bytes)

-- an outline that was read
pub record IsShortOutline (x : Interchange) : Type 0 where
  pub groups : AllByRecursion IsShortReadGroup x.groups
  pub few_groups : length x.groups ≤ 32
  pub few_sets : sets_read x.groups ≤ 400

tree_short : (d : Delims) (input : List ℕ) (t : InterchangeTree) → length input ≤ 1048576 → HoldsTree d input t → IsShortOutline (interchange_meant d input t)
tree_short d input t few holds =
    let all = flat_map group_tree_segments t.groups in
    let split = length-append (interchange_tree_segments t) (holds.last ∷ []) in
    let front = length-append t.tas (all ++ t.iea ∷ []) in
    let middle = length-append all (t.iea ∷ []) in
    let whole = ap length holds.segments in
    let within : length all ≤ 9999990 = omega (arith, few, split, front, middle, whole, few_segments d 106 (drop 106 input), length-drop 106 input) in
    record {
      groups = groups_short d input t.groups holds.tree.groups within;
      few_groups = omega (arith, length-map t.groups (group_meant d input), holds.tree.few_groups);
      few_sets = omega (arith, same_sets d input t.groups, holds.tree.few_sets);
    }

pub outline_short : ReadsTreesAlone → (d : Delims) (input : List ℕ) (x : Interchange) → length input ≤ 1048576 → outline_of d input ≡ Ok x → IsShortOutline x
outline_short trees d input x few read =
    let found = trees d input x read in
    subst IsShortOutline (sym found.2) (tree_short d input found.0 few found.1)
