-- The texts that a reply writes can be written: numbers, and the addresses of parties.
use Rattle.std.proofs.Common.{◌≡◌, ℕ, zero, suc, ◌-◌, ◌/◌, ◌%◌, ◌<◌, ◌≤◌, Bool, true, false, not, ◌&&◌, ◌||◌, ◌==◌, nat_lt, nat_le, if◌then◌else◌, List, [], ◌∷◌, length, reverse, take, get_or, replicate, decimal, refl, sym, subst, ap, ap₂, ◌∙◌, ◌⊎◌, inl, inr, arith}
use Rattle.std.specs.List.{list_all, list_any, AllPass, suffix_len}
use Rattle.std.specs.Char.{is_ascii_digit}
use Rattle.std.specs.Fmt.{digit_glyph, digits_onto}
use Rattle.std.proofs.DigitsParse.{digits_onto-nil}
use Rattle.std.proofs.lemmas.Bool.{ltb-true, ltb-false, eqb-true, or_parts, and_parts, not-true}
use Rattle.std.proofs.lemmas.List.{get_or-take, get_or-reverse, length-take-le}
use Rattle.std.proofs.lemmas.List.Folds.{list_all-append}
use Rattle.std.proofs.lemmas.List.Sums.{AllPass-from_list_all, list_all-from_AllPass, prefix_len_passes, suffix_len-le-length}
use Rattle.std.proofs.lemmas.Grind.{common_steps}
use Rattle.x12_envelopes.specs.declared.delimiters.Delims.{Delims}
use Rattle.x12_envelopes.specs.declared.party.Party.{Party}
use Rattle.x12_envelopes.specs.Byte.{bytes_are_digits, byte_is_capital_or_digit, zero_padded_number}
use Rattle.x12_envelopes.specs.Delimiters.{byte_is_text, bytes_are_delimiters}
use Rattle.x12_envelopes.specs.Header.{is_barred}
use Rattle.x12_envelopes.specs.Party.{identifier_of_party, is_plain_party}
use Rattle.x12_envelopes.specs.Fitting.{byte_is_writable, element_is_writable, is_filled, field_is_writable}
use Rattle.x12_envelopes.specs.Writable.{IsAddress, IsWritableHeader}
use Rattle.x12_envelopes.specs.declared.header.Header.{Header}
use Rattle.x12_envelopes.specs.declared.moment.Moment.{Moment}
use Rattle.x12_envelopes.specs.Moment.{text_is_date, text_is_time}
use Rattle.x12_acks.proofs.ReplySizeLemmas.{AreSized}
use Rattle.x12_acks.specs.Reply.{MayAnswer}
use Rattle.x12_envelopes.proofs.HeaderTextLemmas.{digits_free, free_field}
use Rattle.x12_envelopes.proofs.WrittenKindLemmas.{free_element}
use Rattle.x12_envelopes.proofs.WritableElementLemmas.{not_low}
use Rattle.x12_envelopes.proofs.WritableHeaderLemmas.{text_writable}
use Rattle.x12_envelopes.proofs.NumberLemmas.{zeros}

-- Numbers.

digit_is : (n : ℕ) → is_ascii_digit (digit_glyph false (n % 10)) ≡ true
digit_is n = grind (arith, common_steps)

either : (p : List ℕ → Bool) (b : Bool) (x y : List ℕ) → p x ≡ true → p y ≡ true → p (if b then x else y) ≡ true
either p true x y first second = first
either p false x y first second = second

all_digits : (k n : ℕ) (text : List ℕ) → bytes_are_digits text ≡ true → bytes_are_digits (digits_onto k 10 false n text) ≡ true
all_digits zero n text held = held
all_digits (suc k) n text held =
    let more : bytes_are_digits (digit_glyph false (n % 10) ∷ text) ≡ true = rw (digit_is n, held) refl in
    either bytes_are_digits (n / 10 == 0) _ _ more (all_digits k (n / 10) (digit_glyph false (n % 10) ∷ text) more)

some_digits : (k n b : ℕ) (text : List ℕ) → is_filled (digits_onto k 10 false n (b ∷ text)) ≡ true
some_digits zero n b text = refl
some_digits (suc k) n b text =
    either is_filled (n / 10 == 0) _ _ refl (some_digits k (n / 10) (digit_glyph false (n % 10)) (b ∷ text))

pub decimal_digits : (n : ℕ) → bytes_are_digits (decimal n) ≡ true
decimal_digits n = ap bytes_are_digits (sym (digits_onto-nil 10 false n)) ∙ all_digits 64 n [] refl

pub decimal_filled : (n : ℕ) → is_filled (decimal n) ≡ true
decimal_filled n =
    ap is_filled (sym (digits_onto-nil 10 false n))
    ∙ either is_filled (n / 10 == 0) _ _ refl (some_digits 63 (n / 10) (digit_glyph false (n % 10)) [])

pub padded_digits : (k n : ℕ) → bytes_are_digits (zero_padded_number k n) ≡ true
unfolding zero_padded_number
padded_digits k n =
    list_all-append is_ascii_digit (replicate (k - length (decimal n)) 48) (decimal n)
    ∙ ap₂ (λ x y. x && y) (zeros (k - length (decimal n))) (decimal_digits n)

pub digits_writable : (d : Delims) (text : List ℕ) → bytes_are_delimiters d ≡ true → bytes_are_digits text ≡ true → element_is_writable d text ≡ true
digits_writable d text good held = free_element d text good (digits_free text held)

pub digits_field : (d : Delims) (text : List ℕ) → bytes_are_delimiters d ≡ true → bytes_are_digits text ≡ true → field_is_writable d text ≡ true
digits_field d text good held = free_field d text good (digits_free text held)

pub decimal_writable : (d : Delims) (n : ℕ) → bytes_are_delimiters d ≡ true → element_is_writable d (decimal n) ≡ true
decimal_writable d n good = digits_writable d (decimal n) good (decimal_digits n)

-- What ISA may hold, any element may.

field_byte : (separator component terminator low high : Bool) → (low ≡ false → high ≡ true) → (separator || component || terminator || low) ≡ false → (not separator && not terminator && (high || component)) ≡ true
field_byte true component terminator low high is clear = absurd (cc)
field_byte false true terminator low high is clear = absurd (cc)
field_byte false false true low high is clear = absurd (cc)
field_byte false false false true high is clear = absurd (cc)
field_byte false false false false high is clear = rw (is refl) refl

field_bytes : (d : Delims) (text : List ℕ) → list_any (is_barred d) text ≡ false → list_all (byte_is_writable d) text ≡ true
field_bytes d [] clear = refl
field_bytes d (b ∷ bytes) clear =
    let h = or_parts (is_barred d b) (list_any (is_barred d) bytes) clear in
    rw (field_byte (b == d.element) (b == d.component) (b == d.terminator) (nat_lt b 32) (nat_le 32 b) (not_low b) h.0, field_bytes d bytes h.1) refl

pub field_writable : (d : Delims) (text : List ℕ) → field_is_writable d text ≡ true → element_is_writable d text ≡ true
unfolding field_is_writable element_is_writable
field_writable d text plain = field_bytes d text (not-true _ plain)

-- The moment.

pub date_digits : (at : Moment) → bytes_are_digits at.date ≡ true
unfolding text_is_date
date_digits at = of_date at.date at.on_a_day
  where
    of_date : (text : List ℕ) → text_is_date text ≡ true → bytes_are_digits text ≡ true
    of_date text is = (and_parts _ _ (and_parts _ _ is).0).0

pub time_digits : (at : Moment) → (bytes_are_digits at.time ≡ true) × (length at.time ≡ 4)
unfolding text_is_time
time_digits at = of_time at.time at.in_a_day
  where
    of_time : (text : List ℕ) → text_is_time text ≡ true → (bytes_are_digits text ≡ true) × (length text ≡ 4)
    of_time text is = let h = and_parts _ _ (and_parts _ _ (and_parts _ _ is).0).0 in (h.0, eqb-true (length text) 4 h.1)

-- A plain party.

pub capital_text : (b : ℕ) → byte_is_capital_or_digit b ≡ true → byte_is_text b ≡ true
capital_text b held = grind (arith, common_steps)

pub capitals : (text : List ℕ) → list_all byte_is_capital_or_digit text ≡ true → list_all byte_is_text text ≡ true
capitals [] held = refl
capitals (b ∷ bytes) held = let h = and_parts _ _ held in rw (capital_text b h.0, capitals bytes h.1) refl

order : (a b : ℕ) (c : Bool) → nat_lt a b ≡ c → (a < b) ⊎ (b ≤ a)
order a b true is = inl (ltb-true a b is)
order a b false is = inr (ltb-false a b is)

-- a text whose last bytes pass a test, and whose others pass another
ends_pass : (p q : ℕ → Bool) (text : List ℕ) → ((b : ℕ) → q b ≡ true → p b ≡ true) → list_all p (take (length text - suffix_len q text) text) ≡ true → AllPass p text
ends_pass p q text each front k d within =
    let ends = suffix_len q text in
    let few = suffix_len-le-length q text in
    elim (order k (length text - ends) (nat_lt k (length text - ends)) refl) [
      | inl low ↦ ap p (sym (get_or-take (length text - ends) text k d low))
          ∙ AllPass-from_list_all p (take (length text - ends) text) front k d (omega (arith, low, length-take-le (length text - ends) text (omega arith)))
      | inr high ↦ let from_end = length text - 1 - k in
          let place : length text - 1 - from_end ≡ k = omega (arith, within) in
          let same = get_or-reverse text from_end d (omega (arith, within)) ∙ ap (λ i. get_or text i d) place in
          each (get_or text k d) (ap q (sym same) ∙ prefix_len_passes q (reverse text) from_end d (omega (arith, high, within)))
    ]

space_text : (b : ℕ) → (b == 32) ≡ true → byte_is_text b ≡ true
space_text b held = grind (arith, common_steps)

-- a plain party may stand in ISA
pub plain_address : (d : Delims) (p : Party) → bytes_are_delimiters d ≡ true → is_plain_party p ≡ true → IsAddress d p
unfolding is_plain_party
plain_address d p good plain =
    let identifier = and_parts _ _ plain in
    let texts = and_parts _ _ (and_parts _ _ identifier.0).0 in
    let sizes = and_parts _ _ texts.0 in
    let id = list_all-from_AllPass byte_is_text p.id (ends_pass byte_is_text (λ b. b == 32) p.id space_text (capitals (identifier_of_party p) identifier.1)) in
    record {
      qualifier = record { size = eqb-true (length p.qualifier) 2 sizes.0; plain = (text_writable d p.qualifier good (capitals p.qualifier texts.1)).1 };
      id = record { size = eqb-true (length p.id) 15 sizes.1; plain = (text_writable d p.id good id).1 };
    }

-- and so may the receiver of an interchange whose header can be read
pub may_answer_address : (h : Header) (me : Party) → IsWritableHeader h → MayAnswer h me → IsAddress h.delims me
may_answer_address h me is (inl receiver) = subst (IsAddress h.delims) (sym receiver) is.receiver
may_answer_address h me is (inr plain) = plain_address h.delims me is.delims plain

-- an address and a moment have their sizes
pub sized : (d : Delims) (me : Party) (at : Moment) → IsAddress d me → AreSized me at
sized d me at own = record {
  qualifier = own.qualifier.size;
  id = own.id.size;
  date = at.with_century;
  time = (time_digits at).1;
}
