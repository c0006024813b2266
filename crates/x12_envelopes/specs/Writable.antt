-- What was read can be written under the same delimiters (X12.5, X12.6).
use Rattle.std.specs.Prelude.{◌≡◌, ◌≤◌, ℕ, Bool, true, ◌&&◌, List, length, Ok}
use Rattle.std.specs.List.{AllByRecursion, list_all}
use Rattle.x12_envelopes.specs.declared.delimiters.Delims.{Delims}
use Rattle.x12_envelopes.specs.declared.party.Party.{Party}
use Rattle.x12_envelopes.specs.declared.header.Header.{Header}
use Rattle.x12_envelopes.specs.Delimiters.{bytes_are_delimiters}
use Rattle.x12_envelopes.specs.Header.{header_of}
use Rattle.x12_envelopes.specs.Segment.{elements_of}
use Rattle.x12_envelopes.specs.Byte.{text_has_length}
use Rattle.x12_envelopes.specs.Outline.{outline_of}
use Rattle.x12_envelopes.specs.Shape.{TransactionSet, FunctionalGroup, Interchange}
use Rattle.x12_envelopes.specs.Fitting.{element_is_writable, field_is_writable}

-- a text that stands in ISA: of that length, without delimiters and bytes below 0x20
pub record IsField (d : Delims) (count : ℕ) (text : List ℕ) : Type 0 where
  pub size : length text ≡ count
  pub plain : field_is_writable d text ≡ true

-- a party that stands in ISA: two bytes of qualifier and fifteen of identifier
pub record IsAddress (d : Delims) (p : Party) : Type 0 where
  pub qualifier : IsField d 2 p.qualifier
  pub id : IsField d 15 p.id

-- a header that may be written: delimiters that can delimit, parties, date and time that stand in
-- ISA, and a number of at most nine digits
pub record IsWritableHeader (h : Header) : Type 0 where
  pub delims : bytes_are_delimiters h.delims ≡ true
  pub sender : IsAddress h.delims h.sender
  pub receiver : IsAddress h.delims h.receiver
  pub date : IsField h.delims 6 h.date
  pub time : IsField h.delims 4 h.time
  pub icn : h.icn ≤ 999999999

-- the header of each interchange that was read can be written
abbrev pub HeaderIsWritable : Type 0
HeaderIsWritable = (bytes : List ℕ) (h : Header) → header_of bytes ≡ Ok h → IsWritableHeader h

-- each element of a segment that was read can be written
abbrev pub has_writable_elements : Delims → List ℕ → Bool
has_writable_elements d part = list_all (element_is_writable d) (elements_of d part)

-- ST01, ST02 and each element of each segment of a transaction set can be written
pub record IsWritableSet (d : Delims) (s : TransactionSet) : Type 0 where
  pub set : element_is_writable d s.set ≡ true
  pub number : element_is_writable d s.number ≡ true
  pub parts : list_all (has_writable_elements d) s.parts ≡ true

-- a party in GS: two to fifteen bytes that can be written
abbrev pub is_party_code : Delims → List ℕ → Bool
is_party_code d text = element_is_writable d text && text_has_length 2 15 text

-- GS01, GS02, GS03 and GS06 of a functional group can be written, and so can its transaction sets
pub record IsWritableGroup (d : Delims) (g : FunctionalGroup) : Type 0 where
  pub functional : element_is_writable d g.functional ≡ true
  pub sender : is_party_code d g.sender ≡ true
  pub receiver : is_party_code d g.receiver ≡ true
  pub number_text : element_is_writable d g.number_text ≡ true
  pub sets : AllByRecursion (IsWritableSet d) g.sets

-- the groups of each interchange that was read can be written
abbrev pub OutlineIsWritable : Type 0
OutlineIsWritable =
    (d : Delims) (bytes : List ℕ) (x : Interchange) → outline_of d bytes ≡ Ok x
    → AllByRecursion (IsWritableGroup d) x.groups
