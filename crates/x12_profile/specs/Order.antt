-- What a station writes of orders: one interchange with one functional group PO of transaction sets
-- 850 (X12.5, X12.6).
use Rattle.std.specs.Prelude.{ℕ, Bool, ◌&&◌, List, [], ◌∷◌, length, map, codes, decimal, nat_le}
use Rattle.std.specs.List.{enumerate_from, list_all}
use Rattle.x12_envelopes.specs.declared.delimiters.Delims.{Delims}
use Rattle.x12_envelopes.specs.declared.party.Party.{Party}
use Rattle.x12_envelopes.specs.declared.moment.Moment.{Moment}
use Rattle.x12_envelopes.specs.Byte.{zero_padded_number}
use Rattle.x12_envelopes.specs.Letter.{letter}
use Rattle.x12_envelopes.specs.Party.{identifier_of_party, is_plain_party}
use Rattle.x12_envelopes.specs.Segment.{Segment}
use Rattle.x12_envelopes.specs.Envelope.{WrittenInterchange, WrittenGroup, WrittenSet, bare_interchange}
use Rattle.x12_envelopes.specs.Fitting.{data_is_writable, field_is_writable}
use Rattle.x12_profile.specs.Interchange.{Order, Book}

-- the delimiters of orders
abbrev pub order_delimiters : Delims
order_delimiters = record {
  element = letter (codes "*");
  component = letter (codes ":");
  terminator = letter (codes "~");
}

-- a segment that an order may hold: one of data, whose last element isn't empty, and whose elements
-- hold no delimiter and no byte below 0x20
abbrev pub is_order_segment : Segment → Bool
is_order_segment s =
    data_is_writable order_delimiters s && list_all (field_is_writable order_delimiters) s

-- the segments between ST and SE of an order
abbrev pub is_order : Order → Bool
is_order segments = list_all is_order_segment segments

-- orders that may be written to a party: its address is plain, there are 1 to 400, and each is such
-- an order
abbrev pub are_orders : Party → List Order → Bool
are_orders to texts =
    is_plain_party to && nat_le 1 (length texts) && nat_le (length texts) 400
    && list_all is_order texts

-- ST 850 with the order's number, and the order's segments
abbrev pub order_set : ℕ × Order → WrittenSet
order_set place = record {
  header = codes "ST" ∷ codes "850" ∷ zero_padded_number 4 place.0 ∷ [];
  segments = place.1;
}

-- GS: purchase orders, between the two identifiers without their spaces, in version 004010
abbrev pub order_header : Party → Party → Moment → ℕ → Segment
order_header me to at gcn =
    codes "GS" ∷ codes "PO" ∷ identifier_of_party me ∷ identifier_of_party to ∷ at.date ∷ at.time ∷ decimal gcn
    ∷ codes "X" ∷ codes "004010" ∷ []

-- the functional group of orders, numbered 0001 upwards
abbrev pub order_group : Party → Party → Moment → ℕ → List Order → WrittenGroup
order_group me to at gcn texts = record {
  header = order_header me to at gcn;
  sets = map order_set (enumerate_from 1 texts);
}

-- the interchange of orders: it asks for no interchange acknowledgment (ISA14 is 0), and it is for
-- production (ISA15 is P)
unfoldable pub order_interchange :
    Party → Party → Moment → Book → List Order → WrittenInterchange
order_interchange me to at book texts =
    let asks_none = letter (codes "0") in
    let production = letter (codes "P") in
    record (bare_interchange order_delimiters me to at book.interchange asks_none production) {
      groups = order_group me to at book.group texts ∷ [];
    }
