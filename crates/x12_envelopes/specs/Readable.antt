-- The numbers of an interchange that was read (X12.5, X12.6).
use Rattle.std.specs.Prelude.{◌≡◌, ℕ, List, length, true, Ok, Some}
use Rattle.std.specs.List.{AllByRecursion}
use Rattle.x12_envelopes.specs.declared.delimiters.Delims.{Delims}
use Rattle.x12_envelopes.specs.declared.header.Header.{Header}
use Rattle.x12_envelopes.specs.Header.{header_of}
use Rattle.x12_envelopes.specs.Byte.{number_of_digits, value_of_digits, zero_padded_number, text_has_length}
use Rattle.x12_envelopes.specs.Outline.{outline_of}
use Rattle.x12_envelopes.specs.Shape.{FunctionalGroup, Interchange}

-- GS01 has two bytes, GS06 is a number, and ST02 of each transaction set has four to nine bytes
pub record IsReadable (g : FunctionalGroup) : Type 0 where
  pub functional : length g.functional ≡ 2
  pub number : number_of_digits g.number_text ≡ Some g.number
  pub sets : AllByRecursion (λ s. text_has_length 4 9 s.number ≡ true) g.sets

-- so are the groups of an interchange that was read
abbrev pub ReadIsReadable : Type 0
ReadIsReadable =
    (d : Delims) (bytes : List ℕ) (x : Interchange) → outline_of d bytes ≡ Ok x
    → AllByRecursion IsReadable x.groups

-- ISA13, written in nine digits, is the number that was read
abbrev pub HeaderNumberIsReadable : Type 0
HeaderNumberIsReadable =
    (bytes : List ℕ) (h : Header) → header_of bytes ≡ Ok h
    → value_of_digits (zero_padded_number 9 h.icn) ≡ h.icn
