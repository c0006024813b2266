-- The outline of an interchange: what its segments make up (X12.5, X12.6), or the first fault.
use Rattle.std.specs.Prelude.{ℕ, ◌+◌, Bool, true, false, not, ◌||◌, List, [], ◌∷◌, ◌++◌, length, drop, Option, Some, None, Result, if◌then◌else◌, ◌==◌, nat_le, option_map, position, slice_range}
use Rattle.std.specs.Option.{option_or}
use Rattle.std.specs.List.{list_any}
use Rattle.x12_envelopes.specs.declared.delimiters.Delims.{Delims}
use Rattle.x12_envelopes.specs.declared.content.Kind.{Kind}
use Rattle.x12_envelopes.specs.declared.content.Kind.TheVariants.{Empty, Isa, Ta1, Gs, St, Data, Se, Ge, Iea}
use Rattle.x12_envelopes.specs.declared.content.Level.{Level}
use Rattle.x12_envelopes.specs.declared.content.Level.TheVariants.{Front, Between, InGroup, InSet}
use Rattle.x12_envelopes.specs.declared.shape.OutlineFault.{OutlineFault}
use Rattle.x12_envelopes.specs.declared.shape.OutlineFault.TheVariants.{Structure, Premature, Content}
use Rattle.x12_envelopes.specs.Row.{first_of_rows, ok_unless}
use Rattle.x12_envelopes.specs.Byte.{number_of_digits}
use Rattle.x12_envelopes.specs.Delimiters.{is_control}
use Rattle.x12_envelopes.specs.Segment.{PlacedSegment, segments_from, element_of}
use Rattle.x12_envelopes.specs.Content.{kind_of_segment, segment_is_ta1, ta1_of, segment_is_gs, segment_is_st, set_trailer_of, group_trailer_of, group_of_gs}
use Rattle.x12_envelopes.specs.Shape.{TransactionSet, FunctionalGroup, Interchange}

-- the same kind of segment
abbrev pub is_kind : Kind → Kind → Bool
is_kind Empty Empty = true
is_kind Isa Isa = true
is_kind Ta1 Ta1 = true
is_kind Gs Gs = true
is_kind St St = true
is_kind Data Data = true
is_kind Se Se = true
is_kind Ge Ge = true
is_kind Iea Iea = true
is_kind kind other = false

-- Faults.

-- where the next segment stands, by the kind of the one before it
abbrev pub level_behind : Kind → Level
level_behind Gs = InGroup
level_behind Se = InGroup
level_behind St = InSet
level_behind Data = InSet
level_behind Ge = Between
level_behind kind = Front

-- the same level
abbrev pub is_level : Level → Level → Bool
is_level Front Front = true
is_level Between Between = true
is_level InGroup InGroup = true
is_level InSet InSet = true
is_level level other = false

-- the levels at which a kind of segment may stand: TA1 in front of the groups, ST and GE in a group,
-- SE and data in a transaction set; an empty identifier and ISA nowhere, GS and IEA anywhere
abbrev pub levels_of : Kind → List Level
levels_of Empty = []
levels_of Isa = []
levels_of Ta1 = Front ∷ []
levels_of Gs = Front ∷ Between ∷ InGroup ∷ InSet ∷ []
levels_of St = InGroup ∷ InSet ∷ []
levels_of Data = InSet ∷ []
levels_of Se = InSet ∷ []
levels_of Ge = InGroup ∷ InSet ∷ []
levels_of Iea = Front ∷ Between ∷ InGroup ∷ InSet ∷ []

-- a segment that may not stand there
abbrev pub kind_is_misplaced : Level → Kind → Bool
kind_is_misplaced level kind = not (list_any (is_level level) (levels_of kind))

-- content that can't be read, the 33rd group, or the 401st transaction set
abbrev pub segment_is_unreadable : Delims → ℕ → ℕ → Kind → List ℕ → Bool
segment_is_unreadable d groups sets Ta1 part = not (segment_is_ta1 d part)
segment_is_unreadable d groups sets Gs part = not (segment_is_gs d part) || nat_le 32 groups
segment_is_unreadable d groups sets St part = not (segment_is_st d part) || nat_le 400 sets
segment_is_unreadable d groups sets kind part = false

-- a control byte in a segment, at its place
abbrev pub control_fault : Delims → PlacedSegment → Option OutlineFault
control_fault d s = option_map (λ k. Structure (s.at + k)) (position (is_control d) s.bytes)

-- the fault of one segment, behind so many groups and transaction sets
unfoldable pub fault_of_segment : Delims → Level → ℕ → ℕ → PlacedSegment → Option OutlineFault
fault_of_segment d level groups sets s =
    let kind = kind_of_segment d s.bytes in
    option_or (control_fault d s) (first_of_rows (
    (kind_is_misplaced level kind, Structure s.at)
    ∷ (segment_is_unreadable d groups sets kind s.bytes, Content s.at)
    ∷ []))

-- so many, and one more where the segment opens a group
abbrev pub groups_behind : ℕ → Kind → ℕ
groups_behind groups Gs = groups + 1
groups_behind groups kind = groups

-- so many, and one more where the segment opens a transaction set
abbrev pub sets_behind : ℕ → Kind → ℕ
sets_behind sets St = sets + 1
sets_behind sets kind = sets

-- behind IEA and its line ends stands nothing
abbrev pub fault_behind_trailer : List PlacedSegment → Option OutlineFault
fault_behind_trailer [] = None
fault_behind_trailer (s ∷ []) = if length s.bytes == 0 then None else Some (Structure s.at)
fault_behind_trailer (s ∷ next ∷ more) = Some (Structure s.at)

-- the first fault of the segments from here on; the last of them has no terminator
unfoldable pub first_fault : Delims → Level → ℕ → ℕ → List PlacedSegment → Option OutlineFault
first_fault d level groups sets [] = None
first_fault d level groups sets (s ∷ []) =
    option_or (control_fault d s) (Some (Premature (s.at + length s.bytes)))
first_fault d level groups sets (s ∷ next ∷ more) =
    let kind = kind_of_segment d s.bytes in
    option_or (fault_of_segment d level groups sets s)
    (if is_kind Iea kind then fault_behind_trailer (next ∷ more)
    else
    first_fault d (level_behind kind) (groups_behind groups kind) (sets_behind sets kind)
    (next ∷ more))

-- What the segments make up.

-- where the segment behind this one may begin: past its terminator
abbrev pub offset_behind : PlacedSegment → ℕ
offset_behind s = s.at + length s.bytes + 1

-- what ends a group that has no GE
abbrev pub ends_group : Kind → Bool
ends_group kind = not (is_kind Data kind || is_kind Se kind)

-- the rest of an open transaction set: its segments of data and SE, the place behind the last of
-- them, SE where it was sent, and the segments behind the set
pub record SetRest : Type 0 where
  pub parts : List (List ℕ)
  pub place : ℕ
  pub trailer : Option (List ℕ)
  pub rest : List PlacedSegment

-- with a segment in front
abbrev pub with_part : List ℕ → SetRest → SetRest
with_part part r = record r { parts = part ∷ r.parts }

-- an open set goes on with data, and ends with SE or in front of any other segment
unfoldable pub set_rest : Delims → ℕ → List PlacedSegment → SetRest
set_rest d place [] = record { parts = []; place = place; trailer = None; rest = [] }
set_rest d place (s ∷ more) =
    let kind = kind_of_segment d s.bytes in
    if is_kind Data kind then with_part s.bytes (set_rest d (offset_behind s) more)
    else (if is_kind Se kind then
    record { parts = s.bytes ∷ []; place = offset_behind s; trailer = Some s.bytes; rest = more }
    else record { parts = []; place = place; trailer = None; rest = s ∷ more })

-- the transaction set that an ST opens, of the interchange's bytes
unfoldable pub transaction_set_of : Delims → List ℕ → PlacedSegment → SetRest → TransactionSet
transaction_set_of d input st r = record {
  set = element_of d st.bytes 1;
  number = element_of d st.bytes 2;
  bytes = slice_range input st.at r.place;
  parts = st.bytes ∷ r.parts;
  segments = 1 + length r.parts;
  trailer = option_map (set_trailer_of d) r.trailer;
}

-- the rest of an open group: its transaction sets, GE where it was sent, and what stands behind it
pub record GroupRest : Type 0 where
  pub sets : List TransactionSet
  pub trailer : Option (List ℕ)
  pub rest : List PlacedSegment

-- with transaction sets in front
abbrev pub with_sets : List TransactionSet → GroupRest → GroupRest
with_sets sets r = record r { sets = sets ++ r.sets }

-- an open group goes on with transaction sets, and ends with GE or in front of GS or IEA
unfoldable pub group_rest : Delims → List ℕ → List PlacedSegment → GroupRest
group_rest d input [] = record { sets = []; trailer = None; rest = [] }
group_rest d input (s ∷ more) =
    let kind = kind_of_segment d s.bytes in
    if is_kind St kind then
    with_sets (transaction_set_of d input s (set_rest d (offset_behind s) more)
    ∷ []) (group_rest d input more)
    else (if is_kind Ge kind then record { sets = []; trailer = Some s.bytes; rest = more }
    else (if ends_group kind then record { sets = []; trailer = None; rest = s ∷ more }
    else group_rest d input more))

-- the functional group that a GS opens
unfoldable pub functional_group_of : Delims → PlacedSegment → GroupRest → FunctionalGroup
functional_group_of d gs r =
    group_of_gs (element_of d gs.bytes) r.sets (option_map (group_trailer_of d) r.trailer)

-- with a TA1 in front
abbrev pub with_ta1 : List ℕ → Delims → Interchange → Interchange
with_ta1 part d x = record x { tas = ta1_of d part ∷ x.tas }

-- with a functional group in front
abbrev pub with_group : FunctionalGroup → Interchange → Interchange
with_group group x = record x { groups = group ∷ x.groups }

-- TA1s, groups, and IEA
unfoldable pub interchange_of : Delims → List ℕ → List PlacedSegment → Interchange
interchange_of d input [] = record { tas = []; groups = []; count = None; trailer = None }
interchange_of d input (s ∷ more) =
    let kind = kind_of_segment d s.bytes in
    if is_kind Ta1 kind then with_ta1 s.bytes d (interchange_of d input more)
    else (if is_kind Gs kind then
    with_group (functional_group_of d s (group_rest d input more)) (interchange_of d input more)
    else (if is_kind Iea kind then
    record {
      tas = [];
      groups = [];
      count = number_of_digits (element_of d s.bytes 1);
      trailer = number_of_digits (element_of d s.bytes 2);
    }
    else interchange_of d input more))

-- the outline of an interchange whose header takes the first 106 bytes, or its first fault
unfoldable pub outline_of : Delims → List ℕ → Result Interchange OutlineFault
outline_of d input =
    let segments = segments_from d 106 (drop 106 input) in
    ok_unless (first_fault d Front 0 0 segments) (interchange_of d input segments)
