-- Which interchanges can be written (X12.5, X12.6): those that are read back as they were meant.
use Rattle.std.specs.Prelude.{ℕ, Bool, true, false, ◌&&◌, ◌||◌, not, List, [], ◌∷◌, ◌++◌, length, ◌==◌, nat_le, drop, flat_map}
use Rattle.std.specs.List.{list_all, list_any, sum_by}
use Rattle.x12_envelopes.specs.declared.delimiters.Delims.{Delims}
use Rattle.x12_envelopes.specs.Segment.{Segment}
use Rattle.x12_envelopes.specs.Content.{kind_of_segment, segment_is_ta1, segment_is_gs, segment_is_st}
use Rattle.x12_envelopes.specs.Outline.{is_kind}
use Rattle.x12_envelopes.specs.Delimiters.{bytes_are_delimiters}
use Rattle.x12_envelopes.specs.Header.{is_barred}
use Rattle.x12_envelopes.specs.Envelope.{WrittenSet, WrittenGroup, WrittenInterchange, written}
use Rattle.x12_envelopes.specs.declared.content.Kind.TheVariants.{Data, Gs, St, Ta1}

-- a byte that an element may hold: neither the element separator nor the terminator, and of those
-- below 0x20 the component separator alone
abbrev pub byte_is_writable : Delims → ℕ → Bool
byte_is_writable d b =
    not (b == d.element) && not (b == d.terminator) && (nat_le 32 b || b == d.component)

-- an element that can be written
unfoldable pub element_is_writable : Delims → List ℕ → Bool
element_is_writable d element = list_all (byte_is_writable d) element

-- an element that isn't empty
abbrev pub is_filled : List ℕ → Bool
is_filled [] = false
is_filled (b ∷ bytes) = true

-- the last element isn't empty
abbrev pub segment_ends_filled : Segment → Bool
segment_ends_filled [] = false
segment_ends_filled (element ∷ []) = is_filled element
segment_ends_filled (element ∷ next ∷ more) = segment_ends_filled (next ∷ more)

-- a segment that can be written: each of its elements can, and the last isn't empty
unfoldable pub segment_is_writable : Delims → Segment → Bool
segment_is_writable d s = list_all (element_is_writable d) s && segment_ends_filled s

-- the bytes of a written segment, without its terminator
unfoldable pub joined : Delims → Segment → List ℕ
joined d [] = []
joined d (identifier ∷ elements) = identifier ++ flat_map (λ element. d.element ∷ element) elements

-- TA1, with content that can be read
unfoldable pub ta1_is_writable : Delims → Segment → Bool
ta1_is_writable d s =
    segment_is_writable d s && is_kind Ta1 (kind_of_segment d (joined d s))
    && segment_is_ta1 d (joined d s)

-- GS, with content that can be read
unfoldable pub gs_is_writable : Delims → Segment → Bool
gs_is_writable d s =
    segment_is_writable d s && is_kind Gs (kind_of_segment d (joined d s))
    && segment_is_gs d (joined d s)

-- ST, with content that can be read
unfoldable pub st_is_writable : Delims → Segment → Bool
st_is_writable d s =
    segment_is_writable d s && is_kind St (kind_of_segment d (joined d s))
    && segment_is_st d (joined d s)

-- a segment of data
unfoldable pub data_is_writable : Delims → Segment → Bool
data_is_writable d s = segment_is_writable d s && is_kind Data (kind_of_segment d (joined d s))

-- a transaction set that can be written
unfoldable pub set_is_writable : Delims → WrittenSet → Bool
set_is_writable d s = st_is_writable d s.header && list_all (data_is_writable d) s.segments

-- a functional group that can be written
unfoldable pub group_is_writable : Delims → WrittenGroup → Bool
group_is_writable d g = gs_is_writable d g.header && list_all (set_is_writable d) g.sets

-- parties, date and time have the sizes of ISA05 to ISA08 and ISA10, and the date has its century
unfoldable pub has_sizes : WrittenInterchange → Bool
has_sizes x =
    length x.sender.qualifier == 2 && length x.sender.id == 15
    && length x.receiver.qualifier == 2 && length x.receiver.id == 15
    && length x.date == 8 && length x.time == 4

-- an element of ISA holds no delimiter and no byte below 0x20
unfoldable pub field_is_writable : Delims → List ℕ → Bool
field_is_writable d text = not (list_any (is_barred d) text)

-- ISA can be read: delimiters that can delimit, a number of at most nine digits, and elements that
-- ISA may hold
unfoldable pub header_is_writable : WrittenInterchange → Bool
header_is_writable x =
    bytes_are_delimiters x.delims && nat_le x.icn 999999999
    && field_is_writable x.delims x.sender.qualifier && field_is_writable x.delims x.sender.id
    && field_is_writable x.delims x.receiver.qualifier && field_is_writable x.delims x.receiver.id
    && field_is_writable x.delims (drop 2 x.date) && field_is_writable x.delims x.time
    && field_is_writable x.delims (x.ack ∷ []) && field_is_writable x.delims (x.usage ∷ [])

-- at most 32 functional groups, 400 transaction sets and 1,048,576 bytes
unfoldable pub interchange_is_within_limits : WrittenInterchange → Bool
interchange_is_within_limits x =
    nat_le (length x.groups) 32
    && nat_le (sum_by (λ g. length g.sets) x.groups) 400
    && nat_le (length (written x)) 1048576

-- an interchange that can be written and read back
unfoldable pub interchange_fits : WrittenInterchange → Bool
interchange_fits x =
    has_sizes x && header_is_writable x
    && list_all (ta1_is_writable x.delims) x.tas
    && list_all (group_is_writable x.delims) x.groups
    && interchange_is_within_limits x
