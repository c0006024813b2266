-- What the control segments say (X12.5: TA1; X12.6: GS, ST, SE, GE, IEA).
use Rattle.std.specs.Prelude.{ℕ, Bool, ◌&&◌, ◌||◌, List, [], ◌∷◌, length, Option, ◌==◌, nat_le, is_some, unwrap_or, codes, bytes_eq}
use Rattle.x12_envelopes.specs.declared.delimiters.Delims.{Delims}
use Rattle.x12_envelopes.specs.declared.content.Kind.{Kind}
use Rattle.x12_envelopes.specs.declared.content.Kind.TheVariants.{Empty, Isa, Ta1 as Ta1Kind, Gs, St, Data, Se, Ge, Iea}
use Rattle.x12_envelopes.specs.declared.shape.Ta1.{Ta1}
use Rattle.x12_envelopes.specs.declared.shape.AcknowledgmentCode.{AcknowledgmentCode}
use Rattle.x12_envelopes.specs.declared.shape.AcknowledgmentCode.TheVariants.{Accepted, ErrorsNoted, Rejected}
use Rattle.x12_envelopes.specs.Row.{first_of_rows}
use Rattle.x12_envelopes.specs.Byte.{bytes_are_digits, value_of_digits, number_of_digits, text_has_length}
use Rattle.x12_envelopes.specs.Segment.{element_of, count_of_elements}
use Rattle.x12_envelopes.specs.Shape.{TransactionSet, TransactionSetTrailer, FunctionalGroup, FunctionalGroupTrailer}

-- the kind that an identifier names
unfoldable pub kind_of_name : List ℕ → Kind
kind_of_name identifier =
    unwrap_or (first_of_rows (
    (bytes_eq identifier [], Empty)
    ∷ (bytes_eq identifier (codes "ISA"), Isa)
    ∷ (bytes_eq identifier (codes "TA1"), Ta1Kind)
    ∷ (bytes_eq identifier (codes "GS"), Gs)
    ∷ (bytes_eq identifier (codes "ST"), St)
    ∷ (bytes_eq identifier (codes "SE"), Se)
    ∷ (bytes_eq identifier (codes "GE"), Ge)
    ∷ (bytes_eq identifier (codes "IEA"), Iea)
    ∷ [])) Data

-- the kind of a segment, by its identifier
unfoldable pub kind_of_segment : Delims → List ℕ → Kind
kind_of_segment d part = kind_of_name (element_of d part 0)

-- that many digits
abbrev pub text_is_digits : ℕ → List ℕ → Bool
text_is_digits count text = length text == count && bytes_are_digits text

-- TA104: A, E or R
unfoldable pub code_of_acknowledgment : List ℕ → Option AcknowledgmentCode
code_of_acknowledgment text = first_of_rows (
    (bytes_eq text (codes "A"), Accepted)
    ∷ (bytes_eq text (codes "E"), ErrorsNoted)
    ∷ (bytes_eq text (codes "R"), Rejected)
    ∷ [])

-- the form of TA1, by how many elements it has and each by its place: exactly five
abbrev pub is_ta1_form : ℕ → (ℕ → List ℕ) → Bool
is_ta1_form count element =
    count == 5
    && text_is_digits 9 (element 1)
    && length (element 2) == 6
    && length (element 3) == 4
    && is_some (code_of_acknowledgment (element 4))
    && text_is_digits 3 (element 5)

-- TA1 can be read
unfoldable pub segment_is_ta1 : Delims → List ℕ → Bool
segment_is_ta1 d part = is_ta1_form (count_of_elements d part) (element_of d part)

-- what a TA1 says
unfoldable pub ta1_of : Delims → List ℕ → Ta1
ta1_of d part = record {
  icn = value_of_digits (element_of d part 1);
  date = element_of d part 2;
  time = element_of d part 3;
  code = unwrap_or (code_of_acknowledgment (element_of d part 4)) Accepted;
  note = value_of_digits (element_of d part 5);
}

-- a date of GS: six or eight digits
abbrev pub is_group_date : List ℕ → Bool
is_group_date text = text_is_digits 6 text || text_is_digits 8 text

-- a responsible agency code (GS07): X or T
abbrev pub is_agency : List ℕ → Bool
is_agency text = bytes_eq text (codes "X") || bytes_eq text (codes "T")

-- the form of GS: exactly eight elements
abbrev pub is_gs_form : ℕ → (ℕ → List ℕ) → Bool
is_gs_form count element =
    count == 8
    && length (element 1) == 2
    && text_has_length 2 15 (element 2)
    && text_has_length 2 15 (element 3)
    && is_group_date (element 4)
    && text_has_length 4 8 (element 5)
    && bytes_are_digits (element 5)
    && is_some (number_of_digits (element 6))
    && is_agency (element 7)
    && text_has_length 1 12 (element 8)

-- GS can be read
unfoldable pub segment_is_gs : Delims → List ℕ → Bool
segment_is_gs d part = is_gs_form (count_of_elements d part) (element_of d part)

-- the form of ST: at least two elements
abbrev pub is_st_form : ℕ → (ℕ → List ℕ) → Bool
is_st_form count element =
    nat_le 2 count
    && length (element 1) == 3
    && text_has_length 4 9 (element 2)

-- ST can be read
unfoldable pub segment_is_st : Delims → List ℕ → Bool
segment_is_st d part = is_st_form (count_of_elements d part) (element_of d part)

-- a functional group, by the elements of its GS, with its transaction sets and what GE says
abbrev pub group_of_gs :
    (ℕ → List ℕ) → List TransactionSet → Option FunctionalGroupTrailer → FunctionalGroup
group_of_gs element sets trailer = record {
  functional = element 1;
  sender = element 2;
  receiver = element 3;
  number_text = element 6;
  number = unwrap_or (number_of_digits (element 6)) 0;
  version = element 8;
  sets = sets;
  trailer = trailer;
}

-- what SE says
unfoldable pub set_trailer_of : Delims → List ℕ → TransactionSetTrailer
set_trailer_of d part =
    record { count = number_of_digits (element_of d part 1); number = element_of d part 2 }

-- what GE says
unfoldable pub group_trailer_of : Delims → List ℕ → FunctionalGroupTrailer
group_trailer_of d part = record {
  count_text = element_of d part 1;
  count = number_of_digits (element_of d part 1);
  number = number_of_digits (element_of d part 2);
}
