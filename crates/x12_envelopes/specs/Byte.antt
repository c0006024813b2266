-- Bytes and numbers of an element (X12.6, data element types N0, ID and AN).
use Rattle.std.specs.Prelude.{ℕ, ◌-◌, Bool, ◌&&◌, ◌||◌, List, length, Option, Some, None}
use Rattle.std.specs.Prelude.{if◌then◌else◌, ◌==◌, nat_lt, nat_le, replicate, ◌++◌, decimal}
use Rattle.std.specs.List.{list_all}
use Rattle.std.specs.Char.{is_ascii_digit, is_ascii_uppercase}
use Rattle.std.specs.Str.Parse.{digits_value}
use Rattle.x12_envelopes.specs.Letter.{zero_digit}

-- a carriage return or a line feed
abbrev pub byte_is_line_end : ℕ → Bool
byte_is_line_end b = b == 13 || b == 10

-- a capital letter or a digit
abbrev pub byte_is_capital_or_digit : ℕ → Bool
byte_is_capital_or_digit b = is_ascii_uppercase b || is_ascii_digit b

-- digits alone
abbrev pub bytes_are_digits : List ℕ → Bool
bytes_are_digits text = list_all is_ascii_digit text

-- a text of a length between the two, both included
abbrev pub text_has_length : ℕ → ℕ → List ℕ → Bool
text_has_length least most text = nat_le least (length text) && nat_le (length text) most

-- the number that digits spell
unfoldable pub value_of_digits : List ℕ → ℕ
value_of_digits text = digits_value 10 text

-- a number of one to nine digits, leading zeros allowed
unfoldable pub number_of_digits : List ℕ → Option ℕ
number_of_digits text =
    if nat_lt 0 (length text) && nat_le (length text) 9 && bytes_are_digits text then
    Some (value_of_digits text)
    else None

-- the number in that many digits, with leading zeros
unfoldable pub zero_padded_number : ℕ → ℕ → List ℕ
zero_padded_number width n = replicate (width - length (decimal n)) zero_digit ++ decimal n
