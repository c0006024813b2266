-- The repetition separator of an interchange (X12.5, ISA11 since version 00402 of the controls).
use Rattle.std.specs.Prelude.{ℕ, Bool, false, not, ◌&&◌, List, Option, Some, None}
use Rattle.std.specs.Prelude.{if◌then◌else◌, ◌==◌, nat_le, codes}
use Rattle.x12_envelopes.specs.declared.header.Header.{Header}
use Rattle.x12_envelopes.specs.Letter.{letter}
use Rattle.x12_envelopes.specs.Byte.{number_of_digits}

-- a version of the controls (ISA12) with the repetition separator in ISA11: 00402 to 00501
abbrev pub has_repetition : List ℕ → Bool
has_repetition version = is_since_402 (number_of_digits version)
  where
    is_since_402 : Option ℕ → Bool
    is_since_402 None = false
    is_since_402 (Some n) = nat_le 402 n && nat_le n 501

-- ISA11, where the version has the separator there and it isn't U, the X12 standards
abbrev pub repetition_of : Header → Option ℕ
repetition_of h =
    if not (h.standard == letter (codes "U")) && has_repetition h.version then Some h.standard
    else None
