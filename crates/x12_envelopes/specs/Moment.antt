-- The moment at which an interchange is written: a date and a time of day (X12 types DT and TM).
use Rattle.std.specs.Prelude.{ℕ, ◌-◌, Bool, ◌&&◌, List, length, take, drop, nat_le, ◌==◌}
use Rattle.x12_envelopes.specs.Byte.{bytes_are_digits, value_of_digits}

-- a number between the two, both included
abbrev pub digits_are_between : ℕ → ℕ → List ℕ → Bool
digits_are_between low high text =
    nat_le low (value_of_digits text) && nat_le (value_of_digits text) high

-- a month from 01 to 12, then a day from 01 to 31
abbrev pub text_is_month_and_day : List ℕ → Bool
text_is_month_and_day text =
    digits_are_between 1 12 (take 2 text) && digits_are_between 1 31 (drop 2 text)

-- digits, of which the last four are month and day: YYMMDD, or with the century CCYYMMDD
unfoldable pub text_is_date : List ℕ → Bool
text_is_date text =
    bytes_are_digits text && nat_le 4 (length text)
    && text_is_month_and_day (drop (length text - 4) text)

-- four digits: an hour from 00 to 23, then a minute from 00 to 59
unfoldable pub text_is_time : List ℕ → Bool
text_is_time text =
    bytes_are_digits text && length text == 4
    && digits_are_between 0 23 (take 2 text) && digits_are_between 0 59 (drop 2 text)
