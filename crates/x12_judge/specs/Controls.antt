-- Which versions of the interchange controls a station takes (X12.5, ISA11 and ISA12), and the terms by
-- which it judges.
use Rattle.std.specs.Prelude.{ℕ, Bool, false, ◌&&◌, ◌||◌, not, List, Option, Some, None}
use Rattle.std.specs.Prelude.{◌==◌, nat_le, codes}
use Rattle.std.specs.Char.{is_ascii_digit, is_ascii_alphabetic}
use Rattle.x12_envelopes.specs.declared.header.Header.{Header}
use Rattle.x12_envelopes.specs.Letter.{letter, space}
use Rattle.x12_envelopes.specs.Byte.{number_of_digits}
use Rattle.x12_judge.specs.declared.controls.Controls.{Controls}
use Rattle.x12_judge.specs.declared.controls.Controls.TheVariants.{Until401, Until501}
use Rattle.x12_judge.specs.Agreement.{TradingAgreement}

-- by what a station judges: its agreements, and which versions of the controls it takes
pub record JudgingTerms : Type 0 where
  pub agreements : List TradingAgreement
  pub controls : Controls

-- the terms of today: the newest controls
abbrev pub newest_terms : List TradingAgreement → JudgingTerms
newest_terms agreements = record { agreements = agreements; controls = Until501 }

-- a version of the controls (ISA12) in five digits between the two, both included
abbrev pub is_between : ℕ → ℕ → Option ℕ → Bool
is_between least most None = false
is_between least most (Some version) = nat_le least version && nat_le version most

-- a version of the interchange controls that is taken: from 00200
abbrev pub version_is_supported : Controls → List ℕ → Bool
version_is_supported Until401 version = is_between 200 401 (number_of_digits version)
version_is_supported Until501 version = is_between 200 501 (number_of_digits version)

-- U, the X12 standards
abbrev pub is_of_x12 : ℕ → Bool
is_of_x12 byte = byte == letter (codes "U")

-- a space, a digit or a letter: none of them separates repetitions
abbrev pub is_no_separator : ℕ → Bool
is_no_separator byte = byte == space || is_ascii_digit byte || is_ascii_alphabetic byte

-- ISA11 isn't supported. To 00401 it is the standard, U; from 00402 it is U or the repetition separator.
abbrev pub standard_is_unsupported : Controls → Header → Bool
standard_is_unsupported Until401 h = not (is_of_x12 h.standard)
standard_is_unsupported Until501 h = not (is_of_x12 h.standard)
    && (is_between 200 401 (number_of_digits h.version)
    || is_between 402 501 (number_of_digits h.version) && is_no_separator h.standard)
