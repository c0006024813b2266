-- The grammar of what stands behind ISA (X12.5, X12.6), as trees of segments. The two laws at the
-- end say that `outline_of` reads each of these trees, and nothing else.
use Rattle.std.specs.Prelude.{◌≡◌, ◌≤◌, ℕ, ◌+◌, true, List, [], ◌∷◌, ◌++◌, length, map, flat_map, drop, Option, None, IfSome, option_map, position, slice_range, Ok}
use Rattle.std.specs.List.{AllByRecursion, sum_by}
use Rattle.std.specs.Option.{option_to_list}
use Rattle.x12_envelopes.specs.declared.delimiters.Delims.{Delims}
use Rattle.x12_envelopes.specs.declared.content.Kind.{Kind}
use Rattle.x12_envelopes.specs.declared.content.Kind.TheVariants.{Ta1, Gs, St, Data, Se, Ge, Iea}
use Rattle.x12_envelopes.specs.Byte.{number_of_digits}
use Rattle.x12_envelopes.specs.Delimiters.{is_control}
use Rattle.x12_envelopes.specs.Segment.{PlacedSegment, segments_from, element_of}
use Rattle.x12_envelopes.specs.Content.{kind_of_segment, segment_is_ta1, ta1_of, segment_is_gs, segment_is_st, set_trailer_of, group_trailer_of, group_of_gs}
use Rattle.x12_envelopes.specs.Shape.{TransactionSet, FunctionalGroup, Interchange}
use Rattle.x12_envelopes.specs.Outline.{offset_behind, outline_of}

-- X12.6, transaction set: ST, segments of data, and SE if it was sent
pub record SetTree : Type 0 where
  pub st : PlacedSegment
  pub body : List PlacedSegment
  pub se : Option PlacedSegment

-- X12.6, functional group: GS, transaction sets, and GE if it was sent
pub record GroupTree : Type 0 where
  pub gs : PlacedSegment
  pub sets : List SetTree
  pub ge : Option PlacedSegment

-- X12.5, interchange behind ISA: interchange acknowledgments (TA1), functional groups, and IEA
pub record InterchangeTree : Type 0 where
  pub tas : List PlacedSegment
  pub groups : List GroupTree
  pub iea : PlacedSegment

-- the segments of a set behind ST
abbrev pub set_tail : SetTree → List PlacedSegment
set_tail t = t.body ++ option_to_list t.se

-- ST and what follows it
abbrev pub set_tree_segments : SetTree → List PlacedSegment
set_tree_segments t = t.st ∷ set_tail t

-- the segments of a group behind GS
abbrev pub group_tail : GroupTree → List PlacedSegment
group_tail t = flat_map set_tree_segments t.sets ++ option_to_list t.ge

-- GS and what follows it
abbrev pub group_tree_segments : GroupTree → List PlacedSegment
group_tree_segments t = t.gs ∷ group_tail t

-- TA1s, groups and IEA
abbrev pub interchange_tree_segments : InterchangeTree → List PlacedSegment
interchange_tree_segments t = t.tas ++ (flat_map group_tree_segments t.groups ++ t.iea ∷ [])

-- a segment of that kind, with no control byte in it
pub record IsSegment (d : Delims) (kind : Kind) (s : PlacedSegment) : Type 0 where
  pub is : kind_of_segment d s.bytes ≡ kind
  pub plain : position (is_control d) s.bytes ≡ None

-- a TA1 that can be read
pub record IsTa1 (d : Delims) (s : PlacedSegment) : Type 0 where
  pub segment : IsSegment d Ta1 s
  pub readable : segment_is_ta1 d s.bytes ≡ true

-- a transaction set whose ST can be read
pub record IsSet (d : Delims) (t : SetTree) : Type 0 where
  pub st : IsSegment d St t.st
  pub readable : segment_is_st d t.st.bytes ≡ true
  pub body : AllByRecursion (IsSegment d Data) t.body
  pub se : IfSome t.se (IsSegment d Se)

-- a functional group whose GS can be read
pub record IsGroup (d : Delims) (t : GroupTree) : Type 0 where
  pub gs : IsSegment d Gs t.gs
  pub readable : segment_is_gs d t.gs.bytes ≡ true
  pub sets : AllByRecursion (IsSet d) t.sets
  pub ge : IfSome t.ge (IsSegment d Ge)

-- how many transaction sets functional groups have
abbrev pub sets_in : List GroupTree → ℕ
sets_in groups = sum_by (λ (g : GroupTree). length g.sets) groups

-- an interchange of at most 32 groups and at most 400 transaction sets
pub record IsInterchange (d : Delims) (t : InterchangeTree) : Type 0 where
  pub tas : AllByRecursion (IsTa1 d) t.tas
  pub groups : AllByRecursion (IsGroup d) t.groups
  pub iea : IsSegment d Iea t.iea
  pub few_groups : length t.groups ≤ 32
  pub few_sets : sets_in t.groups ≤ 400

-- the place behind the last of some segments, and that place where there are none
abbrev pub place_behind : ℕ → List PlacedSegment → ℕ
place_behind place [] = place
place_behind place (s ∷ more) = place_behind (offset_behind s) more

-- the bytes of a segment
abbrev pub bytes_of : PlacedSegment → List ℕ
bytes_of s = s.bytes

-- what the tree of a transaction set says
abbrev pub set_meant : Delims → List ℕ → SetTree → TransactionSet
set_meant d input t = record {
  set = element_of d t.st.bytes 1;
  number = element_of d t.st.bytes 2;
  bytes = slice_range input t.st.at (place_behind (offset_behind t.st) (set_tail t));
  parts = map bytes_of (set_tree_segments t);
  segments = 1 + length (map bytes_of (set_tail t));
  trailer = option_map (λ (s : PlacedSegment). set_trailer_of d s.bytes) t.se;
}

-- what the tree of a functional group says
abbrev pub group_meant : Delims → List ℕ → GroupTree → FunctionalGroup
group_meant d input t =
    group_of_gs (element_of d t.gs.bytes) (map (set_meant d input) t.sets)
    (option_map (λ (s : PlacedSegment). group_trailer_of d s.bytes) t.ge)

-- what the tree of an interchange says
abbrev pub interchange_meant : Delims → List ℕ → InterchangeTree → Interchange
interchange_meant d input t = record {
  tas = map (λ (s : PlacedSegment). ta1_of d s.bytes) t.tas;
  groups = map (group_meant d input) t.groups;
  count = number_of_digits (element_of d t.iea.bytes 1);
  trailer = number_of_digits (element_of d t.iea.bytes 2);
}

-- the bytes hold the tree: behind the header stand its segments, and behind them line ends alone
pub record HoldsTree (d : Delims) (input : List ℕ) (t : InterchangeTree) : Type 0 where
  pub tree : IsInterchange d t
  pub last : PlacedSegment
  pub segments : segments_from d 106 (drop 106 input) ≡ interchange_tree_segments t ++ last ∷ []
  pub nothing : length last.bytes ≡ 0

-- an outline that is read is what a tree says that the bytes hold
abbrev pub ReadsTreesAlone : Type 0
ReadsTreesAlone =
    (d : Delims) (input : List ℕ) (x : Interchange) → outline_of d input ≡ Ok x
    → (t : InterchangeTree) × HoldsTree d input t × (x ≡ interchange_meant d input t)

-- each tree that the bytes hold is read
abbrev pub ReadsEachTree : Type 0
ReadsEachTree =
    (d : Delims) (input : List ℕ) (t : InterchangeTree) → HoldsTree d input t
    → outline_of d input ≡ Ok (interchange_meant d input t)
