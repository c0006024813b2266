-- What a fault of reading means, in the words of the grammar (X12.5, X12.6): the segments in front
-- of it begin an interchange, and it stands where the interchange can't go on.
use Rattle.std.specs.Prelude.{◌≡◌, ◌≢◌, ◌≤◌, ℕ, ◌+◌, true, List, [], ◌∷◌, ◌++◌, length, drop, flat_map, position, Some, None, IfSome, Err, ◌⊎◌}
use Rattle.std.specs.List.{AllByRecursion}
use Rattle.x12_envelopes.specs.declared.delimiters.Delims.{Delims}
use Rattle.x12_envelopes.specs.declared.content.Kind.TheVariants.{Ta1, Gs, St, Data, Se, Ge, Iea}
use Rattle.x12_envelopes.specs.declared.shape.OutlineFault.{OutlineFault}
use Rattle.x12_envelopes.specs.declared.shape.OutlineFault.TheVariants.{Structure, Premature, Content, Memory}
use Rattle.x12_envelopes.specs.Delimiters.{is_control}
use Rattle.x12_envelopes.specs.Segment.{PlacedSegment, segments_from}
use Rattle.x12_envelopes.specs.Content.{kind_of_segment, segment_is_ta1, segment_is_gs, segment_is_st}
use Rattle.x12_envelopes.specs.Outline.{outline_of}
use Rattle.x12_envelopes.specs.Grammar.{SetTree, GroupTree, InterchangeTree, group_tree_segments, interchange_tree_segments, IsSegment, IsTa1, IsGroup, IsInterchange, sets_in}

-- Segments behind ISA that begin an interchange: TA1s, and then functional groups. The last group
-- and its last transaction set may be open, since GE and SE may be missing. IEA ends it.
pub record BeginsInterchange (d : Delims) (segments : List PlacedSegment) : Type 0 where
  pub tas : List PlacedSegment
  pub groups : List GroupTree
  pub are : segments ≡ tas ++ flat_map group_tree_segments groups
  pub read_tas : AllByRecursion (IsTa1 d) tas
  pub read_groups : AllByRecursion (IsGroup d) groups
  pub few_groups : length groups ≤ 32
  pub few_sets : sets_in groups ≤ 400

-- a transaction set and a functional group by the kinds of their segments alone, whatever these say
pub record HasFormOfSet (d : Delims) (t : SetTree) : Type 0 where
  pub st : IsSegment d St t.st
  pub body : AllByRecursion (IsSegment d Data) t.body
  pub se : IfSome t.se (IsSegment d Se)

pub record HasFormOfGroup (d : Delims) (t : GroupTree) : Type 0 where
  pub gs : IsSegment d Gs t.gs
  pub sets : AllByRecursion (HasFormOfSet d) t.sets
  pub ge : IfSome t.ge (IsSegment d Ge)

-- segments that begin an interchange by their kinds alone, whatever they say and however many
pub record HasFormOfFront (d : Delims) (segments : List PlacedSegment) : Type 0 where
  pub tas : List PlacedSegment
  pub groups : List GroupTree
  pub are : segments ≡ tas ++ flat_map group_tree_segments groups
  pub form_of_tas : AllByRecursion (IsSegment d Ta1) tas
  pub form_of_groups : AllByRecursion (HasFormOfGroup d) groups

-- the segments are a whole interchange
pub record AreInterchange (d : Delims) (segments : List PlacedSegment) : Type 0 where
  pub tree : InterchangeTree
  pub is : IsInterchange d tree
  pub are : segments ≡ interchange_tree_segments tree

-- a segment has a control byte, and this is the place of the first one
pub record HasControlByte (d : Delims) (front : List PlacedSegment) (s : PlacedSegment) (at : ℕ)
    : Type 0 where
  pub begins : BeginsInterchange d front
  pub byte : ℕ
  pub first : position (is_control d) s.bytes ≡ Some byte
  pub place : at ≡ s.at + byte

-- a segment, which ends in its terminator, may not stand there, whatever it says
pub record IsMisplaced (d : Delims) (front : List PlacedSegment) (s : PlacedSegment)
    (behind : List PlacedSegment) (at : ℕ) : Type 0 where
  pub begins : BeginsInterchange d front
  pub plain : position (is_control d) s.bytes ≡ None
  pub ended : behind ≢ []
  pub no_trailer : kind_of_segment d s.bytes ≢ Iea
  pub no_form : HasFormOfFront d (front ++ s ∷ []) → ⊥
  pub place : at ≡ s.at

-- behind the interchange stands more than line ends
pub record StandsBehind (d : Delims) (front : List PlacedSegment) (s : PlacedSegment)
    (behind : List PlacedSegment) (at : ℕ) : Type 0 where
  pub whole : AreInterchange d front
  pub more : (length s.bytes ≢ 0) ⊎ (behind ≢ [])
  pub place : at ≡ s.at

-- the header can't be read: TA1, GS or ST
abbrev pub HeaderIsUnreadable : Delims → PlacedSegment → Type 0
HeaderIsUnreadable d s =
    ((kind_of_segment d s.bytes ≡ Ta1) × (segment_is_ta1 d s.bytes ≢ true))
    ⊎ (((kind_of_segment d s.bytes ≡ Gs) × (segment_is_gs d s.bytes ≢ true))
    ⊎ ((kind_of_segment d s.bytes ≡ St) × (segment_is_st d s.bytes ≢ true)))

-- the header of the 33rd functional group, or of the 401st transaction set
abbrev pub HeaderIsOneTooMany : Delims → List GroupTree → PlacedSegment → Type 0
HeaderIsOneTooMany d groups s =
    ((kind_of_segment d s.bytes ≡ Gs) × (length groups ≡ 32))
    ⊎ ((kind_of_segment d s.bytes ≡ St) × (sets_in groups ≡ 400))

-- a header that may stand there can't be read, or is one too many
pub record CantBeRead (d : Delims) (front : List PlacedSegment) (s : PlacedSegment)
    (behind : List PlacedSegment) (at : ℕ) : Type 0 where
  pub begins : BeginsInterchange d front
  pub plain : position (is_control d) s.bytes ≡ None
  pub ended : behind ≢ []
  pub form : HasFormOfFront d (front ++ s ∷ [])
  pub header : HeaderIsUnreadable d s ⊎ HeaderIsOneTooMany d begins.groups s
  pub place : at ≡ s.at

-- the bytes end before IEA does: the place is how many there are
pub record EndsEarly (d : Delims) (input : List ℕ) (front : List PlacedSegment)
    (s : PlacedSegment) (behind : List PlacedSegment) (at : ℕ) : Type 0 where
  pub begins : BeginsInterchange d front
  pub plain : position (is_control d) s.bytes ≡ None
  pub last : behind ≡ []
  pub place : at ≡ length input

-- why the interchange can't go on with a segment, behind those in front of it
abbrev pub IsWhy :
    Delims → List ℕ → List PlacedSegment → PlacedSegment → List PlacedSegment → OutlineFault →
    Type 0
IsWhy d input front s behind (Structure at) =
    HasControlByte d front s at
    ⊎ (IsMisplaced d front s behind at ⊎ StandsBehind d front s behind at)
IsWhy d input front s behind (Content at) = CantBeRead d front s behind at
IsWhy d input front s behind (Premature at) = EndsEarly d input front s behind at
IsWhy d input front s behind Memory = ⊥

-- a fault, the segment at which it was found, and those in front of it and behind it; the last
-- segment is what stands behind the last terminator
pub record IsFaultOf (d : Delims) (input : List ℕ) (fault : OutlineFault) : Type 0 where
  pub front : List PlacedSegment
  pub s : PlacedSegment
  pub behind : List PlacedSegment
  pub segments : segments_from d 106 (drop 106 input) ≡ front ++ s ∷ behind
  pub why : IsWhy d input front s behind fault

-- Each fault of reading has such a reason.
abbrev pub FaultsHaveReasons : Type 0
FaultsHaveReasons =
    (d : Delims) (input : List ℕ) (fault : OutlineFault) →
    106 ≤ length input → outline_of d input ≡ Err fault → IsFaultOf d input fault
