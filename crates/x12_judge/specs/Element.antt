-- The elements of a purchase order that are checked (997, AK4), as docs/profile.md shows them.
use Rattle.std.specs.Prelude.{ℕ, Bool, true, false, ◌&&◌, ◌||◌, not, List, [], ◌∷◌, length, take}
use Rattle.std.specs.Prelude.{Option, ◌==◌, nat_lt, codes}
use Rattle.std.specs.List.{list_any, before_first}
use Rattle.x12_envelopes.specs.declared.delimiters.Delims.{Delims}
use Rattle.x12_envelopes.specs.Row.{first_of_rows}
use Rattle.x12_envelopes.specs.Byte.{bytes_are_digits}
use Rattle.x12_envelopes.specs.Moment.{text_is_date}
use Rattle.x12_judge.specs.declared.element.Form.{Form}
use Rattle.x12_judge.specs.declared.element.Form.TheVariants.{Text, Date, Number}
use Rattle.x12_judge.specs.declared.element.ElementRule.{ElementRule}
use Rattle.x12_judge.specs.declared.verdict.ElementCode.{ElementCode}
use Rattle.x12_judge.specs.declared.verdict.ElementCode.TheVariants.{Missing, TooShort, TooLong}
use Rattle.x12_judge.specs.declared.verdict.ElementCode.TheVariants.{InvalidCharacter, InvalidDate}

-- a form that asks for a date
abbrev pub is_date_form : Form → Bool
is_date_form Date = true
is_date_form form = false

-- a form that asks for digits
abbrev pub is_number_form : Form → Bool
is_number_form Number = true
is_number_form form = false

-- a row of the table: an element's segment, its place in it from 1, its data element number, its
-- least and greatest length, and its form
abbrev pub rule : List ℕ → ℕ → ℕ → ℕ → ℕ → Form → ElementRule
rule segment place reference least most form =
    record {
      segment = segment;
      place = place;
      reference = reference;
      least = least;
      most = most;
      form = form;
    }

-- each of them is mandatory
abbrev pub rules_of_elements : List ElementRule
rules_of_elements =
    rule (codes "BEG") 1 353 2 2 Text
    ∷ rule (codes "BEG") 2 92 2 2 Text
    ∷ rule (codes "BEG") 3 324 1 22 Text
    ∷ rule (codes "BEG") 5 373 8 8 Date
    ∷ rule (codes "CTT") 1 354 1 6 Number
    ∷ []

-- what is wrong with an element: the first row whose condition holds
unfoldable pub fault_of_element : Delims → ElementRule → List ℕ → Option ElementCode
fault_of_element d r value = first_of_rows (
    (length value == 0, Missing)
    ∷ (nat_lt (length value) r.least, TooShort)
    ∷ (nat_lt r.most (length value), TooLong)
    ∷ (
      list_any (λ b. b == d.component) value || is_number_form r.form
          && not (bytes_are_digits value),
      InvalidCharacter,
    )
    ∷ (is_date_form r.form && not (text_is_date value), InvalidDate)
    ∷ [])

-- the copy of an element (AK404): up to 99 bytes, ended before the first component separator
unfoldable pub copy_of_element : Delims → List ℕ → List ℕ
copy_of_element d value = before_first (λ b. b == d.component) (take 99 value)
