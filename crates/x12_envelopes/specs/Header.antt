-- The interchange header, ISA (X12.5): its fields, and the first fault that it has.
use Rattle.std.specs.Prelude.{ℕ, ◌+◌, ◌-◌, Bool, ◌&&◌, ◌||◌, not, List, [], ◌∷◌, length, take}
use Rattle.std.specs.Prelude.{Option, Result, ◌==◌, nat_lt, slice_index, slice_range, codes}
use Rattle.std.specs.Prelude.{bytes_eq}
use Rattle.std.specs.List.{list_all, list_any}
use Rattle.x12_envelopes.specs.declared.delimiters.Delims.{Delims}
use Rattle.x12_envelopes.specs.declared.header.Header.{Header}
use Rattle.x12_envelopes.specs.declared.header.HeaderFault.{HeaderFault}
use Rattle.x12_envelopes.specs.declared.header.HeaderFault.TheVariants.{TooLong, TooShort, NotIsa}
use Rattle.x12_envelopes.specs.declared.header.HeaderFault.TheVariants.{BadDelimiters, BadField}
use Rattle.x12_envelopes.specs.Row.{first_of_rows, ok_unless}
use Rattle.x12_envelopes.specs.Byte.{bytes_are_digits, value_of_digits}
use Rattle.x12_envelopes.specs.Delimiters.{byte_is_delimiter, bytes_are_delimiters}

-- where an element of ISA stands: its offset and its length
pub record IsaElement : Type 0 where
  pub offset : ℕ
  pub size : ℕ

-- a row of the table: an offset and a length
abbrev pub isa_element : ℕ → ℕ → IsaElement
isa_element offset size = record { offset = offset; size = size }

-- ISA01 to ISA15, in their order; ISA16, at offset 104, is the component separator
abbrev pub isa_elements : List IsaElement
isa_elements =
    isa_element 4 2 ∷ isa_element 7 10  -- authorization information
    ∷ isa_element 18 2 ∷ isa_element 21 10  -- security information
    ∷ isa_element 32 2 ∷ isa_element 35 15  -- sender
    ∷ isa_element 51 2 ∷ isa_element 54 15  -- receiver
    ∷ isa_element 70 6 ∷ isa_element 77 4  -- date and time
    ∷ isa_element 82 1 ∷ isa_element 84 5  -- standard and version of the controls
    ∷ isa_element 90 9  -- control number
    ∷ isa_element 100 1 ∷ isa_element 102 1  -- acknowledgment requested, usage indicator
    ∷ []

-- what an element of ISA holds
abbrev pub isa_text : List ℕ → IsaElement → List ℕ
isa_text bytes e = slice_range bytes e.offset (e.offset + e.size)

-- the bytes at offsets 3, 104 and 105
abbrev pub delimiters_of : List ℕ → Delims
delimiters_of bytes = record {
  element = slice_index bytes 3;
  component = slice_index bytes 104;
  terminator = slice_index bytes 105;
}

-- ISA in front, and the element separator before each element
unfoldable pub header_is_isa : List ℕ → Bool
header_is_isa bytes =
    bytes_eq (take 3 bytes) (codes "ISA")
    && list_all (λ e. slice_index bytes (e.offset - 1) == slice_index bytes 3) isa_elements
    && slice_index bytes 103 == slice_index bytes 3

-- a byte that no element of ISA may hold: a delimiter, or a byte below 0x20
abbrev pub is_barred : Delims → ℕ → Bool
is_barred d b = byte_is_delimiter d b || nat_lt b 32

-- ISA01 to ISA15 hold no barred byte
unfoldable pub elements_are_plain : List ℕ → Bool
elements_are_plain bytes =
    list_all (λ e. not (list_any (is_barred (delimiters_of bytes)) (isa_text bytes e))) isa_elements

-- ISA01 to ISA15 hold no barred byte, and ISA13 is nine digits
unfoldable pub elements_are_fields : List ℕ → Bool
elements_are_fields bytes = elements_are_plain bytes && bytes_are_digits (slice_range bytes 90 99)

-- the first fault of a header, in this order
abbrev pub header_fault : List ℕ → Option HeaderFault
header_fault bytes = first_of_rows (
    (nat_lt 1048576 (length bytes), TooLong)
    ∷ (nat_lt (length bytes) 106, TooShort)
    ∷ (not (header_is_isa bytes), NotIsa)
    ∷ (not (bytes_are_delimiters (delimiters_of bytes)), BadDelimiters)
    ∷ (not (elements_are_fields bytes), BadField)
    ∷ [])

-- the fields of a header, by their offsets
abbrev pub fields_of : List ℕ → Header
fields_of bytes = record {
  delims = delimiters_of bytes;
  sender = record { qualifier = slice_range bytes 32 34; id = slice_range bytes 35 50 };
  receiver = record { qualifier = slice_range bytes 51 53; id = slice_range bytes 54 69 };
  date = slice_range bytes 70 76;
  time = slice_range bytes 77 81;
  standard = slice_index bytes 82;
  version = slice_range bytes 84 89;
  icn = value_of_digits (slice_range bytes 90 99);
  ack = slice_index bytes 100;
  usage = slice_index bytes 102;
}

-- the header of an interchange, or its first fault
unfoldable pub header_of : List ℕ → Result Header HeaderFault
header_of bytes = ok_unless (header_fault bytes) (fields_of bytes)
