-- The written ISA, read again.
use Rattle.std.proofs.Common.{◌≡◌, ℕ, zero, suc, ◌≤◌, Bool, true, false, not, ◌&&◌, ◌==◌, List, [], ◌∷◌, ◌++◌, length, replicate, drop, get_or, map, codes, nat_lt, slice_range, Ok, refl, sym, ap, ap₂, ◌∙◌, inl, inr, arith}
use Rattle.std.specs.List.{list_all, list_any}
use Rattle.std.proofs.lemmas.Bool.{eqb-true, eq-eqb, le-ltb, cases_Bool, and_parts, not-true}
use Rattle.std.proofs.lemmas.List.Folds.{list_all-map}
use Rattle.x12_envelopes.specs.declared.delimiters.Delims.{Delims}
use Rattle.std.specs.Char.{is_ascii_digit}
use Rattle.std.proofs.lemmas.Grind.{common_steps}
use Rattle.x12_envelopes.specs.declared.header.Header.{Header}
use Rattle.x12_envelopes.specs.Byte.{bytes_are_digits, value_of_digits}
use Rattle.x12_envelopes.specs.Delimiters.{bytes_are_delimiters, byte_is_text}
use Rattle.x12_envelopes.specs.Fitting.{field_is_writable}
use Rattle.x12_envelopes.specs.Segment.{segment_text}
use Rattle.x12_envelopes.specs.Header.{isa_elements, isa_text, delimiters_of, header_is_isa, is_barred, elements_are_plain, elements_are_fields, fields_of, header_of}

-- a list by its places
abbrev pub cells : ℕ → List ℕ → List ℕ
cells zero xs = []
cells (suc n) xs = get_or xs 0 0 ∷ cells n (drop 1 xs)

pub cells_are : (n : ℕ) (xs : List ℕ) → length xs ≡ n → xs ≡ cells n xs
cells_are zero [] is = refl
cells_are zero (x ∷ xs) is = absurd (omega (arith, is))
cells_are (suc n) [] is = absurd (omega (arith, is))
cells_are (suc n) (x ∷ xs) is = ap (λ ys. x ∷ ys) (cells_are n xs (omega (arith, is)))

-- ISA and what follows it
abbrev isa_of : Delims → List ℕ → List ℕ → List ℕ → List ℕ → List ℕ → List ℕ → List ℕ → ℕ → ℕ → List ℕ → List ℕ
isa_of d sq sid rq rid date time number ack usage rest =
    segment_text d (codes "ISA" ∷ codes "00" ∷ replicate 10 32 ∷ codes "00" ∷ replicate 10 32 ∷ sq ∷ sid ∷ rq ∷ rid ∷ date ∷ time ∷ codes "U" ∷ codes "00401" ∷ number ∷ (ack ∷ []) ∷ (usage ∷ []) ∷ (d.component ∷ []) ∷ []) ++ rest

abbrev cells_of : Delims → List ℕ → List ℕ → List ℕ → List ℕ → List ℕ → List ℕ → List ℕ → ℕ → ℕ → List ℕ → List ℕ
cells_of d sq sid rq rid date time number ack usage rest =
    isa_of d (cells 2 sq) (cells 15 sid) (cells 2 rq) (cells 15 rid) (cells 6 date) (cells 4 time) (cells 9 number) ack usage rest

pub at3 : (d : Delims) (sq sid rq rid date time number : List ℕ) (ack usage : ℕ) (rest : List ℕ) → delimiters_of (cells_of d sq sid rq rid date time number ack usage rest) ≡ d
unfolding segment_text
at3 d sq sid rq rid date time number ack usage rest = refl

pub isa_stands : (d : Delims) (sq sid rq rid date time number : List ℕ) (ack usage : ℕ) (rest : List ℕ) → header_is_isa (cells_of d sq sid rq rid date time number ack usage rest) ≡ true
unfolding segment_text header_is_isa
isa_stands d sq sid rq rid date time number ack usage rest = rw (eq-eqb d.element d.element refl) refl

pub elements_stand : (d : Delims) (sq sid rq rid date time number : List ℕ) (ack usage : ℕ) (rest : List ℕ) → map (isa_text (cells_of d sq sid rq rid date time number ack usage rest)) isa_elements ≡ codes "00" ∷ replicate 10 32 ∷ codes "00" ∷ replicate 10 32 ∷ cells 2 sq ∷ cells 15 sid ∷ cells 2 rq ∷ cells 15 rid ∷ cells 6 date ∷ cells 4 time ∷ codes "U" ∷ codes "00401" ∷ cells 9 number ∷ (ack ∷ []) ∷ (usage ∷ []) ∷ []
unfolding segment_text
elements_stand d sq sid rq rid date time number ack usage rest = refl

-- a header of these fields
abbrev pub header_with : Delims → List ℕ → List ℕ → List ℕ → List ℕ → List ℕ → List ℕ → ℕ → ℕ → ℕ → Header
header_with d sq sid rq rid date time icn ack usage = record {
  delims = d;
  sender = record { qualifier = sq; id = sid };
  receiver = record { qualifier = rq; id = rid };
  date = date;
  time = time;
  standard = 85;
  version = codes "00401";
  icn = icn;
  ack = ack;
  usage = usage;
}

fields_stand : (d : Delims) (sq sid rq rid date time number : List ℕ) (ack usage : ℕ) (rest : List ℕ) → fields_of (cells_of d sq sid rq rid date time number ack usage rest) ≡ header_with d (cells 2 sq) (cells 15 sid) (cells 2 rq) (cells 15 rid) (cells 6 date) (cells 4 time) (value_of_digits (cells 9 number)) ack usage
unfolding segment_text
fields_stand d sq sid rq rid date time number ack usage rest = refl

number_stands : (d : Delims) (sq sid rq rid date time number : List ℕ) (ack usage : ℕ) (rest : List ℕ) → slice_range (cells_of d sq sid rq rid date time number ack usage rest) 90 99 ≡ cells 9 number
unfolding segment_text
number_stands d sq sid rq rid date time number ack usage rest = refl

plain_from : (bytes : List ℕ) (d : Delims) (texts : List (List ℕ)) → delimiters_of bytes ≡ d → map (isa_text bytes) isa_elements ≡ texts → list_all (field_is_writable d) texts ≡ true → elements_are_plain bytes ≡ true
unfolding elements_are_plain field_is_writable
plain_from bytes d texts delims stand fields =
    sym (list_all-map (λ t. not (list_any (is_barred (delimiters_of bytes)) t)) (isa_text bytes) isa_elements)
    ∙ ap₂ (λ (e : Delims) ts. list_all (λ t. not (list_any (is_barred e) t)) ts) delims stand ∙ fields

header_good : (bytes : List ℕ) (d : Delims) (h : Header) → 106 ≤ length bytes → length bytes ≤ 1048576 → header_is_isa bytes ≡ true → delimiters_of bytes ≡ d → bytes_are_delimiters d ≡ true → elements_are_plain bytes ≡ true → bytes_are_digits (slice_range bytes 90 99) ≡ true → fields_of bytes ≡ h → header_of bytes ≡ Ok h
unfolding header_of elements_are_fields
header_good bytes d h least most isa delims good plain digits fields =
    let long : nat_lt 1048576 (length bytes) ≡ false = le-ltb 1048576 (length bytes) most in
    let short : nat_lt (length bytes) 106 ≡ false = le-ltb (length bytes) 106 least in
    rw (long, short, isa, ap bytes_are_delimiters delims ∙ good, plain, digits) (ap Ok fields)

-- a byte that is text and no control byte
abbrev pub free : ℕ → Bool
free b = byte_is_text b && not (nat_lt b 32)

pub differs : (b e : ℕ) → byte_is_text b ≡ true → not (byte_is_text e) ≡ true → (b == e) ≡ false
differs b e text delimiter =
    elim (cases_Bool (b == e)) [ inl same ↦ absurd (clash (byte_is_text e) (ap byte_is_text (sym (eqb-true b e same)) ∙ text) delimiter) | inr is ↦ is ]
  where
    clash : (x : Bool) → x ≡ true → not x ≡ true → ⊥
    clash true is other = absurd cc
    clash false is other = absurd cc

not_barred : (d : Delims) (b : ℕ) → bytes_are_delimiters d ≡ true → free b ≡ true → is_barred d b ≡ false
unfolding bytes_are_delimiters
not_barred d b good held =
    let h = and_parts _ _ held in
    let three = and_parts _ _ (and_parts _ _ (and_parts _ _ (and_parts _ _ (and_parts _ _ (and_parts _ _ good).0).0).0).0).0 in
    let two = and_parts _ _ three.0 in
    rw (differs b d.element h.0 two.0, differs b d.component h.0 two.1, differs b d.terminator h.0 three.1, not-true _ h.1) refl

pub free_field : (d : Delims) (text : List ℕ) → bytes_are_delimiters d ≡ true → list_all free text ≡ true → field_is_writable d text ≡ true
unfolding field_is_writable
free_field d text good held = ap not (none_barred text held)
  where
    none_barred : (text : List ℕ) → list_all free text ≡ true → list_any (is_barred d) text ≡ false
    none_barred [] held = refl
    none_barred (b ∷ bytes) held = let h = and_parts _ _ held in rw (not_barred d b good h.0, none_barred bytes h.1) refl

digit_free : (b : ℕ) → is_ascii_digit b ≡ true → free b ≡ true
digit_free b digit = grind (arith, common_steps)

pub digits_free : (text : List ℕ) → list_all is_ascii_digit text ≡ true → list_all free text ≡ true
digits_free [] held = refl
digits_free (b ∷ bytes) held = let h = and_parts _ _ held in rw (digit_free b h.0, digits_free bytes h.1) refl

-- each of the lists may be another that is equal
isa_same : (d : Delims) (a b c e f g h a' b' c' e' f' g' h' : List ℕ) (ack usage : ℕ) (rest : List ℕ) → a ≡ a' → b ≡ b' → c ≡ c' → e ≡ e' → f ≡ f' → g ≡ g' → h ≡ h' → isa_of d a b c e f g h ack usage rest ≡ isa_of d a' b' c' e' f' g' h' ack usage rest
isa_same d a b c e f g h a' b' c' e' f' g' h' ack usage rest i j k l m n o = rw (i, j, k, l, m, n, o) refl

header_same : (d : Delims) (a b c e f g a' b' c' e' f' g' : List ℕ) (icn icn' ack usage : ℕ) → a ≡ a' → b ≡ b' → c ≡ c' → e ≡ e' → f ≡ f' → g ≡ g' → icn ≡ icn' → header_with d a b c e f g icn ack usage ≡ header_with d a' b' c' e' f' g' icn' ack usage
header_same d a b c e f g a' b' c' e' f' g' icn icn' ack usage i j k l m n o = rw (i, j, k, l, m, n, o) refl

-- the lists of ISA, as long as they have to be and without barred bytes
pub record Fields (d : Delims) (sq sid rq rid date time number : List ℕ) (ack usage : ℕ) : Type 0 where
  pub sq_size : length sq ≡ 2
  pub sid_size : length sid ≡ 15
  pub rq_size : length rq ≡ 2
  pub rid_size : length rid ≡ 15
  pub date_size : length date ≡ 6
  pub time_size : length time ≡ 4
  pub number_size : length number ≡ 9
  pub good : bytes_are_delimiters d ≡ true
  pub sq_field : field_is_writable d sq ≡ true
  pub sid_field : field_is_writable d sid ≡ true
  pub rq_field : field_is_writable d rq ≡ true
  pub rid_field : field_is_writable d rid ≡ true
  pub date_field : field_is_writable d date ≡ true
  pub time_field : field_is_writable d time ≡ true
  pub digits : bytes_are_digits number ≡ true
  pub ack_field : field_is_writable d (ack ∷ []) ≡ true
  pub usage_field : field_is_writable d (usage ∷ []) ≡ true

pub header_reads : (d : Delims) (sq sid rq rid date time number : List ℕ) (ack usage icn : ℕ) (rest bytes : List ℕ) → Fields d sq sid rq rid date time number ack usage → bytes ≡ isa_of d sq sid rq rid date time number ack usage rest → 106 ≤ length bytes → length bytes ≤ 1048576 → value_of_digits number ≡ icn → header_of bytes ≡ Ok (header_with d sq sid rq rid date time icn ack usage)
header_reads d sq sid rq rid date time number ack usage icn rest bytes f is least most value =
    let a = cells_are 2 sq f.sq_size in
    let b = cells_are 15 sid f.sid_size in
    let c = cells_are 2 rq f.rq_size in
    let e = cells_are 15 rid f.rid_size in
    let g = cells_are 6 date f.date_size in
    let h = cells_are 4 time f.time_size in
    let k = cells_are 9 number f.number_size in
    let same : bytes ≡ cells_of d sq sid rq rid date time number ack usage rest =
    is ∙ isa_same d sq sid rq rid date time number _ _ _ _ _ _ _ ack usage rest a b c e g h k in
    let isa : header_is_isa bytes ≡ true = ap header_is_isa same ∙ isa_stands d sq sid rq rid date time number ack usage rest in
    let delims : delimiters_of bytes ≡ d = ap delimiters_of same ∙ at3 d sq sid rq rid date time number ack usage rest in
    let stand = ap (λ bytes. map (isa_text bytes) isa_elements) same ∙ elements_stand d sq sid rq rid date time number ack usage rest in
    let zeros = free_field d (codes "00") f.good refl in
    let spaces = free_field d (replicate 10 32) f.good refl in
    let plain = plain_from bytes d _ delims stand (
    rw (zeros, spaces, sym a, sym b, sym c, sym e, sym g, sym h, sym k, f.sq_field, f.sid_field, f.rq_field, f.rid_field, f.date_field, f.time_field, f.ack_field, f.usage_field, free_field d (codes "U") f.good refl, free_field d (codes "00401") f.good refl, free_field d number f.good (digits_free number f.digits)) refl) in
    let nine = ap (λ bytes. slice_range bytes 90 99) same ∙ number_stands d sq sid rq rid date time number ack usage rest ∙ sym k in
    let fields = ap fields_of same ∙ fields_stand d sq sid rq rid date time number ack usage rest in
    header_good bytes d _ least most isa delims f.good plain (ap bytes_are_digits nine ∙ f.digits)
    (fields ∙ header_same d _ _ _ _ _ _ _ _ _ _ _ _ _ _ ack usage (sym a) (sym b) (sym c) (sym e) (sym g) (sym h) (ap value_of_digits (sym k) ∙ value))
