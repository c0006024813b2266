-- The number of a header that was read.
use Rattle.std.proofs.Common.{◌≡◌, ◌∷◌, [], List, ℕ, Bool, true, false, not, ◌<◌, ◌≤◌, ◌^◌, length, refl, subst, ap, arith, nat_lt, drop, length-take}
use Rattle.std.specs.Prelude.{Option, Some, None, Ok, slice_range}
use Rattle.std.specs.Str.Parse.{digits_value}
use Rattle.std.proofs.lemmas.Str.Parse.{tells_digits, numerals_by_value, digits_value_short}
use Rattle.x12_envelopes.specs.declared.header.Header.{Header}
use Rattle.x12_envelopes.specs.declared.header.HeaderFault.{HeaderFault}
use Rattle.x12_envelopes.specs.Row.{first_of_rows, ok_unless}
use Rattle.x12_envelopes.specs.Byte.{value_of_digits, zero_padded_number, bytes_are_digits}
use Rattle.x12_envelopes.specs.Header.{header_of, header_fault, fields_of, elements_are_fields, elements_are_plain, header_is_isa, delimiters_of}
use Rattle.x12_envelopes.specs.Delimiters.{bytes_are_delimiters}
use Rattle.x12_envelopes.specs.declared.header.HeaderFault.TheVariants.{TooLong, TooShort, NotIsa, BadDelimiters, BadField}
use Rattle.x12_envelopes.specs.Readable.{HeaderNumberIsReadable}
use Rattle.x12_envelopes.proofs.DigitLemmas.{AllDigits-are}
use Rattle.x12_envelopes.proofs.NumberLemmas.{padded_value}
use Rattle.x12_numbers.proofs.Shelf.{and_second}

fifth_row : (a b c d e : Bool) (f1 f2 f3 f4 f5 : HeaderFault) → first_of_rows ((a, f1) ∷ (b, f2) ∷ (c, f3) ∷ (d, f4) ∷ (not e, f5) ∷ []) ≡ None → e ≡ true
fifth_row true b c d e f1 f2 f3 f4 f5 is = absurd (cc)
fifth_row false true c d e f1 f2 f3 f4 f5 is = absurd (cc)
fifth_row false false true d e f1 f2 f3 f4 f5 is = absurd (cc)
fifth_row false false false true e f1 f2 f3 f4 f5 is = absurd (cc)
fifth_row false false false false true f1 f2 f3 f4 f5 is = refl
fifth_row false false false false false f1 f2 f3 f4 f5 is = absurd (cc)

pub read_by : (fault : Option HeaderFault) (made h : Header) → ok_unless fault made ≡ Ok h → (fault ≡ None) × (made ≡ h)
read_by None made h e = (refl, (cc))
read_by (Some f) made h e = absurd (cc)

pub nine : (bytes : List ℕ) → length (slice_range bytes 90 99) ≤ 9
nine bytes = rw (length-take 9 (drop 90 bytes)) (omega arith)

pub small_value : (text : List ℕ) → bytes_are_digits text ≡ true → length text ≤ 9 → value_of_digits text ≤ 999999999
unfolding value_of_digits
small_value text digits short =
    let below : digits_value 10 text < 10 ^ 9 = digits_value_short (numerals_by_value _ tells_digits) text 9 (AllDigits-are text digits) short in
    omega (arith, below)

pub header_number : HeaderNumberIsReadable
unfolding header_of elements_are_fields
header_number bytes h e =
    let read = read_by (header_fault bytes) (fields_of bytes) h e in
    let digits : bytes_are_digits (slice_range bytes 90 99) ≡ true = and_second (elements_are_plain bytes) (bytes_are_digits (slice_range bytes 90 99)) (fifth_row (nat_lt 1048576 (length bytes)) (nat_lt (length bytes) 106) (not (header_is_isa bytes)) (not (bytes_are_delimiters (delimiters_of bytes))) (elements_are_fields bytes) TooLong TooShort NotIsa BadDelimiters BadField read.0) in
    let bound : value_of_digits (slice_range bytes 90 99) ≤ 999999999 = small_value (slice_range bytes 90 99) digits (nine bytes) in
    let same : value_of_digits (slice_range bytes 90 99) ≡ h.icn = ap (λ (x : Header). x.icn) read.1 in
    subst (λ (n : ℕ). value_of_digits (zero_padded_number 9 n) ≡ n) same (padded_value 9 (value_of_digits (slice_range bytes 90 99)) bound)
