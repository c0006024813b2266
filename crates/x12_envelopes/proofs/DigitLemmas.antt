-- Texts of digits.
use Rattle.std.proofs.Common.{◌≡◌, ℕ, ◌+◌, ◌-◌, ◌*◌, ◌<◌, ◌≤◌, ◌^◌, Bool, true, List, [], ◌∷◌, length, get_or, take, drop, refl, subst, sym, ◌∙◌, ap, arith, rules}
use Rattle.std.specs.List.{list_all}
use Rattle.std.specs.Char.{is_ascii_digit, digit_value}
use Rattle.std.specs.Int.{IsInRange}
use Rattle.std.specs.Str.{all_ascii_digits}
use Rattle.std.specs.Str.Parse.{AllDigits, digits_value}
use Rattle.std.proofs.lemmas.Str.Parse.{tells_all_ascii_digits, tells_digits, numerals_by_value, digit_at, digits_value_short, digits_value-take-le}
use Rattle.std.proofs.lemmas.Int.Digits.{digits_value_more, digits_value-lt}
use Rattle.std.proofs.lemmas.Grind.{common_steps}
use Rattle.std.proofs.lemmas.Bool.{and_parts}
use Rattle.std.proofs.lemmas.List.{take-append-drop}
use Rattle.std.proofs.lemmas.List.Folds.{list_all-append}

pub same_digits : (text : List ℕ) → list_all is_ascii_digit text ≡ all_ascii_digits text
same_digits [] = refl
same_digits (b ∷ bs) = rw (same_digits bs)

pub AllDigits-are : (text : List ℕ) → list_all is_ascii_digit text ≡ true → AllDigits 10 text
AllDigits-are text are =
    (numerals_by_value _ tells_all_ascii_digits).to text (subst (λ (b : Bool). b ≡ true) (same_digits text) are)

pub digit_value_is : (b : ℕ) → IsInRange 48 57 b → digit_value b ≡ b - 48
digit_value_is b in_range = grind (arith, common_steps)

-- the value so far and one digit more
pub record DigitStep (text : List ℕ) (i : ℕ) : Type 0 where
  pub more : digits_value 10 (take (i + 1) text) ≡ digits_value 10 (take i text) * 10 + (get_or text i 0 - 48)
  pub low : 48 ≤ get_or text i 0
  pub high : get_or text i 0 ≤ 57
  pub within : digits_value 10 (take (i + 1) text) ≤ digits_value 10 text
  pub below : digits_value 10 text < 10 ^ length text
  pub small : digits_value 10 text < 1000000000

pub digit_step : (text : List ℕ) (i : ℕ) → list_all is_ascii_digit text ≡ true → length text ≤ 9 → i < length text → DigitStep text i
digit_step text i are short inside =
    let digits = AllDigits-are text are in
    let at = digit_at text i digits inside in
    record {
      more = digits_value_more 10 text i inside ∙ ap (λ d. digits_value 10 (take i text) * 10 + d) (digit_value_is _ at);
      low = search (rules, at);
      high = search (rules, at);
      within = digits_value-take-le 10 text (i + 1) (omega arith);
      below = digits_value-lt 10 text digits;
      small = digits_value_short (numerals_by_value _ tells_digits) text 9 digits short;
    }

pub digits_before : (text : List ℕ) (n : ℕ) → list_all is_ascii_digit text ≡ true → list_all is_ascii_digit (take n text) ≡ true
digits_before text n are = (and_parts (list_all is_ascii_digit (take n text)) (list_all is_ascii_digit (drop n text)) (sym (list_all-append is_ascii_digit (take n text) (drop n text)) ∙ ap (list_all is_ascii_digit) (take-append-drop n text) ∙ are)).0

pub digits_behind : (text : List ℕ) (n : ℕ) → list_all is_ascii_digit text ≡ true → list_all is_ascii_digit (drop n text) ≡ true
digits_behind text n are = (and_parts (list_all is_ascii_digit (take n text)) (list_all is_ascii_digit (drop n text)) (sym (list_all-append is_ascii_digit (take n text) (drop n text)) ∙ ap (list_all is_ascii_digit) (take-append-drop n text) ∙ are)).1
