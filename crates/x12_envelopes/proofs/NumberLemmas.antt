-- The numbers that written digits spell.
use Rattle.std.proofs.Common.{◌≡◌, ℕ, zero, suc, ◌-◌, ◌<◌, ◌≤◌, true, ◌&&◌, List, ◌++◌, length, replicate, decimal, Some, refl, ap₂, ◌∙◌, arith}
use Rattle.std.specs.Char.{is_ascii_digit}
use Rattle.std.specs.Str.Parse.{digits_value}
use Rattle.std.proofs.lemmas.Bool.{lt-ltb, le-leb}
use Rattle.std.proofs.lemmas.Str.Parse.{tells_all_ascii_digits, numerals_by_value}
use Rattle.std.proofs.lemmas.Fmt.{digits_decimal, digits_value-decimal, length-decimal-le, decimal_nonempty}
use Rattle.std.proofs.lemmas.List.Folds.{list_all-append}
use Rattle.x12_envelopes.specs.Byte.{bytes_are_digits, value_of_digits, number_of_digits, zero_padded_number}
use Rattle.x12_envelopes.proofs.WrittenLengthLemmas.{length_padded}
use Rattle.x12_envelopes.proofs.DigitLemmas.{same_digits}

pub decimal_digits : (n : ℕ) → n ≤ 999999999 → bytes_are_digits (decimal n) ≡ true
decimal_digits n small = same_digits (decimal n) ∙ digits_decimal (numerals_by_value _ tells_all_ascii_digits) n (omega (arith, small))

decimal_value : (n : ℕ) → n ≤ 999999999 → digits_value 10 (decimal n) ≡ n
decimal_value n small = digits_value-decimal (numerals_by_value _ tells_all_ascii_digits) n (omega (arith, small))

pub zeros : (k : ℕ) → bytes_are_digits (replicate k 48) ≡ true
zeros zero = refl
zeros (suc k) = zeros k

zeros_value : (k : ℕ) (text : List ℕ) → digits_value 10 (replicate k 48 ++ text) ≡ digits_value 10 text
zeros_value zero text = refl
zeros_value (suc k) text = zeros_value k text

pub padded_digits : (k n : ℕ) → n ≤ 999999999 → bytes_are_digits (zero_padded_number k n) ≡ true
unfolding zero_padded_number
padded_digits k n small =
    list_all-append is_ascii_digit (replicate (k - length (decimal n)) 48) (decimal n)
    ∙ ap₂ (λ x y. x && y) (zeros (k - length (decimal n))) (decimal_digits n small)

pub padded_value : (k n : ℕ) → n ≤ 999999999 → value_of_digits (zero_padded_number k n) ≡ n
unfolding zero_padded_number value_of_digits
padded_value k n small = zeros_value (k - length (decimal n)) (decimal n) ∙ decimal_value n small

-- a text of one to nine digits is a number
number_is : (text : List ℕ) (n : ℕ) → 0 < length text → length text ≤ 9 → bytes_are_digits text ≡ true → value_of_digits text ≡ n → number_of_digits text ≡ Some n
unfolding number_of_digits
number_is text n some few digits value =
    rw (lt-ltb 0 (length text) some, le-leb (length text) 9 few, digits, value) refl

pub number_decimal : (n : ℕ) → n ≤ 999999999 → number_of_digits (decimal n) ≡ Some n
unfolding value_of_digits
number_decimal n small =
    number_is (decimal n) n (decimal_nonempty n (omega (arith, small))) (length-decimal-le 9 n (omega arith) (omega (arith, small)) (omega (arith, small))) (decimal_digits n small) (decimal_value n small)

pub number_padded : (n : ℕ) → n ≤ 999999999 → number_of_digits (zero_padded_number 9 n) ≡ Some n
number_padded n small =
    let nine = length_padded 9 n (omega arith) (omega (arith, small)) (omega (arith, small)) in
    number_is (zero_padded_number 9 n) n (omega (arith, nine)) (omega (arith, nine)) (padded_digits 9 n small) (padded_value 9 n small)
