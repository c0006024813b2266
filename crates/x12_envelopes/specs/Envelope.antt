-- An interchange to be written (X12.5, X12.6): what its sender chooses. Its trailers, counts and
-- written text follow from that.
use Rattle.std.specs.Prelude.{ℕ, ◌+◌, List, [], ◌∷◌, ◌++◌, length, drop, map, replicate, unwrap_or}
use Rattle.std.specs.Prelude.{slice_get, flat_map, codes, decimal}
use Rattle.std.specs.Global.{Vec}
use Rattle.x12_envelopes.specs.declared.delimiters.Delims.{Delims}
use Rattle.x12_envelopes.specs.declared.party.Party.{Party}
use Rattle.x12_envelopes.specs.declared.moment.Moment.{Moment}
use Rattle.x12_envelopes.specs.declared.envelope.SetEnvelope.{SetEnvelope}
use Rattle.x12_envelopes.specs.declared.envelope.GroupEnvelope.{GroupEnvelope}
use Rattle.x12_envelopes.specs.declared.envelope.Envelope.{Envelope}
use Rattle.x12_envelopes.specs.declared.header.Header.{Header}
use Rattle.x12_envelopes.specs.Letter.{letter, space}
use Rattle.x12_envelopes.specs.Byte.{zero_padded_number}
use Rattle.x12_envelopes.specs.Segment.{Segment, text_of}
use Rattle.x12_envelopes.specs.Writing.{texts}

-- a transaction set: ST, and the segments between ST and SE
pub record WrittenSet : Type 0 where
  pub header : Segment
  pub segments : List Segment

-- a functional group: GS, and its transaction sets
pub record WrittenGroup : Type 0 where
  pub header : Segment
  pub sets : List WrittenSet

-- an interchange: its delimiters and parties, date (CCYYMMDD) and time, control number,
-- acknowledgment requested (ISA14), usage indicator (ISA15), TA1s and functional groups
pub record WrittenInterchange : Type 0 where
  pub delims : Delims
  pub sender : Party
  pub receiver : Party
  pub date : List ℕ
  pub time : List ℕ
  pub icn : ℕ
  pub ack : ℕ
  pub usage : ℕ
  pub tas : List Segment
  pub groups : List WrittenGroup

-- an interchange without TA1s and groups
abbrev pub bare_interchange : Delims → Party → Party → Moment → ℕ → ℕ → ℕ → WrittenInterchange
bare_interchange delims sender receiver at icn ack usage =
    record {
      delims = delims;
      sender = sender;
      receiver = receiver;
      date = at.date;
      time = at.time;
      icn = icn;
      ack = ack;
      usage = usage;
      tas = [];
      groups = [];
    }

-- an element of a segment by its place from 1: empty where it is missing
abbrev pub element_at : Segment → ℕ → List ℕ
element_at s n = unwrap_or (slice_get s n) []

-- SE: how many segments with ST and SE, and the number of ST
abbrev pub se_segment : WrittenSet → Segment
se_segment s = codes "SE" ∷ decimal (length s.segments + 2) ∷ element_at s.header 2 ∷ []

-- ST, the segments, SE
abbrev pub set_segments : WrittenSet → List Segment
set_segments s = s.header ∷ s.segments ++ se_segment s ∷ []

-- GE: how many transaction sets, and the number of GS
abbrev pub ge_segment : WrittenGroup → Segment
ge_segment g = codes "GE" ∷ decimal (length g.sets) ∷ element_at g.header 6 ∷ []

-- GS, the transaction sets, GE
abbrev pub group_segments : WrittenGroup → List Segment
group_segments g = g.header ∷ flat_map set_segments g.sets ++ ge_segment g ∷ []

-- ISA with the fields of a header: no authorization, no security information
abbrev pub segment_of_header : Header → Segment
segment_of_header h =
    codes "ISA"
    ∷ codes "00" ∷ replicate 10 space
    ∷ codes "00" ∷ replicate 10 space
    ∷ h.sender.qualifier ∷ h.sender.id
    ∷ h.receiver.qualifier ∷ h.receiver.id
    ∷ h.date ∷ h.time
    ∷ (h.standard ∷ []) ∷ h.version
    ∷ zero_padded_number 9 h.icn
    ∷ (h.ack ∷ []) ∷ (h.usage ∷ []) ∷ (h.delims.component ∷ [])
    ∷ []

-- the header of a written interchange: standard U, version 00401
abbrev pub written_header : WrittenInterchange → Header
written_header x = record {
  delims = x.delims;
  sender = x.sender;
  receiver = x.receiver;
  date = drop 2 x.date;
  time = x.time;
  standard = letter (codes "U");
  version = codes "00401";
  icn = x.icn;
  ack = x.ack;
  usage = x.usage;
}

-- ISA of a written interchange
abbrev pub isa_segment : WrittenInterchange → Segment
isa_segment x = segment_of_header (written_header x)

-- IEA: how many functional groups, and the number of ISA
abbrev pub iea_segment : WrittenInterchange → Segment
iea_segment x = codes "IEA" ∷ decimal (length x.groups) ∷ zero_padded_number 9 x.icn ∷ []

-- ISA, the TA1s, the functional groups, IEA
abbrev pub interchange_segments : WrittenInterchange → List Segment
interchange_segments x =
    isa_segment x ∷ x.tas ++ flat_map group_segments x.groups ++ iea_segment x ∷ []

-- the bytes of an interchange as this product writes it
unfoldable pub written : WrittenInterchange → List ℕ
written x = text_of x.delims (interchange_segments x)

-- What the code's values stand for.

-- the elements of a segment
abbrev pub elements_view : List (Vec ℕ) → Segment
elements_view elements = map (λ e. e.items) elements

-- a segment
abbrev pub segment_view : Vec (Vec ℕ) → Segment
segment_view s = elements_view s.items

-- a transaction set
abbrev pub set_written : SetEnvelope → WrittenSet
set_written s =
    record { header = texts s.header.items; segments = map segment_view s.segments.now }

-- a functional group
abbrev pub group_written : GroupEnvelope → WrittenGroup
group_written g = record { header = texts g.header.items; sets = map set_written g.sets.items }

-- an interchange
abbrev pub envelope_view : Envelope → WrittenInterchange
envelope_view x = record {
  delims = x.delims;
  sender = x.sender;
  receiver = x.receiver;
  date = x.at.date;
  time = x.at.time;
  icn = x.icn;
  ack = x.ack;
  usage = x.usage;
  tas = map segment_view x.tas.items;
  groups = map group_written x.groups.items;
}
