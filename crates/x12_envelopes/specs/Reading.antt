-- Words for the readers that take an interchange's segments in turn.
use Rattle.std.specs.Prelude.{◌≡◌, ◌≤◌, ◌+◌, ℕ, ◌==◌, false, List, [], ◌∷◌, ◌++◌, length, drop, Option, Some, slice_range, not, ◌&&◌}
use Rattle.std.specs.List.{All}
use Rattle.std.specs.Option.{option_or}
use Rattle.x12_envelopes.specs.declared.delimiters.Delims.{Delims}
use Rattle.x12_envelopes.specs.declared.source.Source.{Source}
use Rattle.x12_envelopes.specs.declared.source.FoundSegment.{FoundSegment}
use Rattle.x12_envelopes.specs.declared.shape.OutlineFault.{OutlineFault}
use Rattle.x12_envelopes.specs.declared.shape.OutlineFault.TheVariants.{Structure, Content, Memory}
use Rattle.x12_envelopes.specs.declared.content.Kind.TheVariants.{Gs}
use Rattle.x12_envelopes.specs.declared.remaining.GroupHeader.{GroupHeader}
use Rattle.x12_envelopes.specs.Row.{first_of_rows}
use Rattle.x12_envelopes.specs.Remaining.{AreReadOfGs}
use Rattle.x12_envelopes.specs.Segment.{PlacedSegment, segments_from, parts_of, element_of}
use Rattle.x12_envelopes.specs.Outline.{offset_behind, SetRest, set_rest, transaction_set_of, GroupRest, group_rest, functional_group_of, interchange_of, first_fault, control_fault, is_kind, kind_is_misplaced, segment_is_unreadable}
use Rattle.x12_envelopes.specs.Content.{kind_of_segment, group_of_gs}
use Rattle.x12_envelopes.specs.declared.content.Level.{Level}
use Rattle.x12_envelopes.specs.declared.content.Level.TheVariants.{Front, Between, InGroup, InSet}
use Rattle.x12_envelopes.specs.Shape.{TransactionSet, TransactionSetTrailer, FunctionalGroup, FunctionalGroupTrailer, Interchange}

-- the front of bytes, up to their first terminator, and what stands behind it
pub record IsCut (terminator : ℕ) (bytes front back : List ℕ) : Type 0 where
  pub clean : All (λ b. (b == terminator) ≡ false) front
  pub whole : bytes ≡ front ++ terminator ∷ back

-- the segments from a place on
abbrev pub rest_at : Source → ℕ → List PlacedSegment
rest_at s at = segments_from s.delims at (drop at s.input.now)

-- where a segment was found
abbrev pub placed : FoundSegment → PlacedSegment
placed f = record { at = f.at; bytes = f.part.now }

-- the bytes are these segments, whatever follows
pub record AreParts (d : Delims) (bytes : List ℕ) (parts : List (List ℕ)) : Type 0 where
  pub whole : (more : List ℕ) → parts_of d (bytes ++ more) ≡ parts ++ parts_of d more

-- the segment that stands next, from a place on: the line ends in front of it are skipped, and its
-- terminator lies within the bytes
pub record IsNext (d : Delims) (input : List ℕ) (at : ℕ) (s : PlacedSegment) : Type 0 where
  pub rest :
      segments_from d at (drop at input) ≡ s
      ∷ segments_from d (offset_behind s) (drop (offset_behind s) input)
  pub low : at ≤ s.at
  pub high : offset_behind s ≤ length input
  pub text : AreParts d (slice_range input at (offset_behind s)) (s.bytes ∷ [])
  pub own : AreParts d (slice_range input s.at (offset_behind s)) (s.bytes ∷ [])

-- how an open transaction set goes on from a place
abbrev pub rest_of_set : Source → ℕ → SetRest
rest_of_set s at = set_rest s.delims at (rest_at s at)

-- a transaction set from its ST up to a place, with that many segments and that trailer
abbrev pub set_up_to :
    Delims → List ℕ → PlacedSegment → ℕ → ℕ → Option TransactionSetTrailer → TransactionSet
set_up_to d input st end segments trailer = record {
  set = element_of d st.bytes 1;
  number = element_of d st.bytes 2;
  bytes = slice_range input st.at end;
  parts = parts_of d (slice_range input st.at end);
  segments = segments;
  trailer = trailer;
}

-- how an open functional group goes on from a place
abbrev pub rest_of_group : Source → ℕ → GroupRest
rest_of_group s at = group_rest s.delims s.input.now (rest_at s at)

-- a functional group with its GS, those transaction sets and that trailer
abbrev pub group_with :
    Delims → PlacedSegment → List TransactionSet → Option FunctionalGroupTrailer → FunctionalGroup
group_with d gs sets trailer = group_of_gs (element_of d gs.bytes) sets trailer

-- the first fault from a place on
abbrev pub fault_from : Source → Level → ℕ → ℕ → ℕ → Option OutlineFault
fault_from s level groups sets at = first_fault s.delims level groups sets (rest_at s at)

-- the bytes of a segment, with its terminator, are that segment alone
abbrev pub IsOneSegment : Source → PlacedSegment → Type 0
IsOneSegment s p = AreParts s.delims (slice_range s.input.now p.at (offset_behind p)) (p.bytes ∷ [])

-- a place from that one on, and within the bytes
abbrev pub IsFrom : Source → ℕ → ℕ → Type 0
IsFrom s low at = (low ≤ at) × (at ≤ length s.input.now)

-- the transaction set that an ST opens
abbrev pub set_from : Source → PlacedSegment → TransactionSet
set_from s st = transaction_set_of s.delims s.input.now st (rest_of_set s (offset_behind st))

-- what stands behind the transaction set that an ST opens
abbrev pub behind_set : Source → PlacedSegment → List PlacedSegment
behind_set s st = (rest_of_set s (offset_behind st)).rest

-- the first fault behind an ST
abbrev pub fault_in_set : Source → ℕ → ℕ → PlacedSegment → Option OutlineFault
fault_in_set s groups sets st = fault_from s InSet groups sets (offset_behind st)

-- up to that place the transaction set has no fault
abbrev pub IsSoundSet : Source → ℕ → ℕ → PlacedSegment → ℕ → Type 0
IsSoundSet s groups sets st at = fault_in_set s groups sets st ≡ fault_from s InGroup groups sets at

-- the functional group that a GS opens
abbrev pub group_from : Source → PlacedSegment → FunctionalGroup
group_from s gs = functional_group_of s.delims gs (rest_of_group s (offset_behind gs))

-- what stands behind the functional group that a GS opens
abbrev pub behind_group : Source → PlacedSegment → List PlacedSegment
behind_group s gs = (rest_of_group s (offset_behind gs)).rest

-- the first fault behind a GS
abbrev pub fault_in_group : Source → ℕ → ℕ → PlacedSegment → Option OutlineFault
fault_in_group s groups sets gs = fault_from s InGroup groups sets (offset_behind gs)

-- up to that place the functional group, with so many transaction sets, has no fault
abbrev pub IsSoundGroup : Source → ℕ → ℕ → PlacedSegment → ℕ → ℕ → Type 0
IsSoundGroup s groups sets gs count at =
    fault_in_group s groups sets gs ≡ fault_from s Between groups (sets + count) at

-- the fault of a segment, but that of a GS which can't be read
abbrev pub fault_but_in_gs : Delims → Level → ℕ → ℕ → PlacedSegment → Option OutlineFault
fault_but_in_gs d level groups sets s =
    let kind = kind_of_segment d s.bytes in
    option_or (control_fault d s) (first_of_rows (
    (kind_is_misplaced level kind, Structure s.at)
    ∷ (not (is_kind Gs kind) && segment_is_unreadable d groups sets kind s.bytes, Content s.at)
    ∷ []))

-- the elements of that GS, and the whole segment stands in the interchange
abbrev pub IsGroupHeader : Source → PlacedSegment → GroupHeader → Type 0
IsGroupHeader s gs header =
    AreReadOfGs s.delims gs.bytes header × (offset_behind gs ≤ length s.input.now)

-- what stands behind the header
abbrev pub interchange_from : Source → Interchange
interchange_from s = interchange_of s.delims s.input.now (rest_at s 106)

-- the first fault behind the header
abbrev pub fault_in_interchange : Source → Option OutlineFault
fault_in_interchange s = fault_from s Front 0 0 106

-- the fault is that one, unless memory ran out
abbrev pub IsFault : OutlineFault → Option OutlineFault → Type 0
IsFault Memory fault = Unit {0}
IsFault e fault = fault ≡ Some e
