-- What a rule says of an element, and what is wrong with one (X12.6, data element types).
use Rattle.std.specs.Prelude.{ℕ, ◌-◌, ◌%◌, Bool, true, ◌&&◌, ◌||◌, not, List, [], ◌∷◌, length, filter, take, drop, Option, Some, None, unwrap_or, if◌then◌else◌, ◌==◌, nat_le, nat_lt, bytes_eq}
use Rattle.std.specs.List.{list_any, slice_split}
use Rattle.std.specs.Char.{is_ascii_digit}
use Rattle.x12_envelopes.specs.Byte.{bytes_are_digits, number_of_digits}
use Rattle.x12_envelopes.specs.Moment.{text_is_date, text_is_time}
use Rattle.x12_envelopes.specs.Row.{first_of_rows}
use Rattle.x12_lint.specs.declared.element.ElementKind.{ElementKind}
use Rattle.x12_lint.specs.declared.element.ElementKind.TheVariants.{Text, Integer, Decimal, Date, Time}
use Rattle.x12_lint.specs.declared.element.Rule.{Rule}
use Rattle.x12_lint.specs.declared.element.Flaw.{Flaw}
use Rattle.x12_lint.specs.declared.element.Flaw.TheVariants.{Missing, OfAnotherKind, TooShort, TooLong, OfAnotherCode}

-- how many digits a text has
abbrev pub digits_of : List ℕ → ℕ
digits_of text = length (filter is_ascii_digit text)

-- how many decimal points
abbrev pub points_of : List ℕ → ℕ
points_of text = length (filter (λ b. b == 46) text)

-- a text without the minus in front
abbrev pub behind_sign : List ℕ → List ℕ
behind_sign [] = []
behind_sign (b ∷ more) = if b == 45 then more else b ∷ more

-- digits with one point or none, and no other letter
abbrev pub is_decimal : List ℕ → Bool
is_decimal text =
    nat_le 1 (digits_of text) && nat_le (points_of text) 1
    && nat_le (length text - digits_of text) (points_of text)

-- a year with a 29th of February
abbrev pub is_leap_year : ℕ → Bool
is_leap_year year = (year % 4 == 0 && not (year % 100 == 0)) || year % 400 == 0

-- how many days a month of a year has
unfoldable pub days_of_month : ℕ → ℕ → ℕ
days_of_month year month =
    if month == 2 then (if is_leap_year year then 29 else 28)
    else if month == 4 || month == 6 || month == 9 || month == 11 then 30
    else 31

-- the number that digits spell
abbrev pub value_of_text : List ℕ → ℕ
value_of_text text = unwrap_or (number_of_digits text) 0

-- a day of the calendar, CCYYMMDD (DT)
unfoldable pub is_calendar_day : List ℕ → Bool
is_calendar_day text =
    length text == 8 && text_is_date text
    && nat_le (value_of_text (drop 2 (drop 4 text)))
    (days_of_month (value_of_text (take 4 text)) (value_of_text (take 2 (drop 4 text))))

-- a time of day, HHMM, then no digit or two and more of them (TM)
unfoldable pub is_moment : List ℕ → Bool
is_moment text =
    nat_le 4 (length text) && text_is_time (take 4 text)
    && not (length (drop 4 text) == 1) && bytes_are_digits (drop 4 text)

-- a text of this kind
abbrev pub is_of_kind : ElementKind → List ℕ → Bool
is_of_kind Text text = true
is_of_kind Integer text =
    nat_le 1 (length (behind_sign text)) && bytes_are_digits (behind_sign text)
is_of_kind Decimal text = is_decimal (behind_sign text)
is_of_kind Date text = is_calendar_day text
is_of_kind Time text = is_moment text

-- the length of a text of this kind: a sign and a point aren't counted
abbrev pub length_by : ElementKind → List ℕ → ℕ
length_by Integer text = digits_of text
length_by Decimal text = digits_of text
length_by Text text = length text
length_by Date text = length text
length_by Time text = length text

-- one of these codes, which spaces part
abbrev pub is_code_listed : List ℕ → List ℕ → Bool
is_code_listed codes text = list_any (λ code. bytes_eq code text) (slice_split (λ b. b == 32) codes)

-- an element that is empty and has to be there
abbrev pub flaw_of_empty : Rule → Option Flaw
flaw_of_empty r = if r.is_required then Some Missing else None

-- what is wrong with an element that isn't empty: the first row whose condition holds
abbrev pub flaw_of_text : Rule → List ℕ → Option Flaw
flaw_of_text r text = first_of_rows (
    (not (is_of_kind r.kind text), OfAnotherKind)
    ∷ (nat_lt (length_by r.kind text) r.least, TooShort)
    ∷ (nat_lt r.most (length_by r.kind text), TooLong)
    ∷ (not (length r.codes.items == 0) && not (is_code_listed r.codes.items text), OfAnotherCode)
    ∷ [])

-- what is wrong with an element by its rule
unfoldable pub flaw_of_element : Rule → List ℕ → Option Flaw
flaw_of_element r text = if length text == 0 then flaw_of_empty r else flaw_of_text r text
