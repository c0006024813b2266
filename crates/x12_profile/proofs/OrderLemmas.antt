-- What is written of orders fits, and is a submission.
use Rattle.std.specs.Prelude.{◌≡◌, ℕ, ◌+◌, ◌-◌, ◌<◌, ◌≤◌, Bool, true, false, ◌&&◌, ◌==◌, not, List, [], ◌∷◌, length, map, drop, nat_le, nat_lt, codes, Ok, Err, bytes_eq, refl}
use Rattle.std.specs.List.{enumerate_from, list_all, list_any, suffix_len, sum_by}
use native.Mathlib.Omega.{arith}
use mathlib.Core.Path.{sym, ap, ap₂, subst, ◌∙◌}
use mathlib.Core.List.{append-nil}
use mathlib.Core.Logic.{inl, inr}
use Rattle.std.proofs.lemmas.Bool.{and_parts, eqb-true, leb-true, le-leb, ltb-false}
use Rattle.std.proofs.lemmas.Bool.Decides.{eqb_tells}
use Rattle.std.proofs.lemmas.List.{length-map, length-take-le}
use Rattle.std.proofs.lemmas.List.FromFn.{length-enumerate_from}
use Rattle.std.proofs.lemmas.Slice.Eq.{bytes_eq-Decides}
use Rattle.x12_envelopes.specs.declared.party.Party.{Party}
use Rattle.x12_envelopes.specs.declared.moment.Moment.{Moment}
use Rattle.x12_envelopes.specs.declared.header.Header.{Header}
use Rattle.x12_envelopes.specs.declared.header.HeaderFault.TheVariants.{TooLong}
use Rattle.x12_envelopes.specs.Header.{header_of}
use Rattle.x12_envelopes.specs.Byte.{byte_is_capital_or_digit, value_of_digits, zero_padded_number, text_has_length}
use Rattle.x12_envelopes.specs.Content.{kind_of_name}
use Rattle.x12_envelopes.specs.Delimiters.{bytes_are_delimiters}
use Rattle.x12_envelopes.specs.Element.{elements_are_gs, elements_are_st}
use Rattle.x12_envelopes.specs.Envelope.{WrittenInterchange, WrittenGroup, written, written_header}
use Rattle.x12_envelopes.specs.Fitting.{interchange_fits, has_sizes, header_is_writable, interchange_is_within_limits, group_is_writable, set_is_writable, gs_is_writable, st_is_writable, data_is_writable, element_is_writable, field_is_writable, segment_is_writable}
use Rattle.x12_envelopes.specs.Party.{is_plain_party, identifier_of_party}
use Rattle.x12_envelopes.specs.RoundTrip.{written_outline, written_set_outline}
use Rattle.x12_envelopes.specs.Shape.{TransactionSet as ReadSet}
use Rattle.x12_envelopes.proofs.ContentLemmas.{gs_by_elements, st_by_elements}
use Rattle.x12_envelopes.proofs.HeaderTextLemmas.{free_field}
use Rattle.x12_envelopes.proofs.NumberLemmas.{number_decimal, padded_value}
use Rattle.x12_envelopes.proofs.WritableHeaderLemmas.{text_writable}
use Rattle.x12_envelopes.proofs.WrittenKindLemmas.{free_element, filled_by_length}
use Rattle.x12_envelopes.proofs.WrittenLengthLemmas.{length_padded}
use Rattle.x12_acks.proofs.WritableNoteLemmas.{cut}
use Rattle.x12_acks.proofs.WritableTextLemmas.{date_digits, time_digits, digits_field, digits_writable, decimal_writable, padded_digits, capitals}
use Rattle.x12_acks.specs.Laws.{PlainPartyIsAddress}
use Rattle.x12_profile.specs.Interchange.{Bytes, Book, Order, PlacedTransactionSet}
use Rattle.x12_profile.specs.Order.{order_delimiters, order_group, order_header, order_interchange, order_set, is_order, is_order_segment}
use Rattle.x12_profile.specs.OrderLaw.{MayWrite, SubmitsOrders, OrdersAreSubmitted, order_at}
use Rattle.x12_profile.specs.X12.{x12, are_new_numbers, group_numbers, is_order_outline, sets_by_place}
use Rattle.x12_profile.proofs.Below.{ReadBack}
use Rattle.x12_profile.proofs.FieldLemmas as field
use Rattle.x12_profile.proofs.ReplyLemmas.{plainly}
use Rattle.x12_profile.proofs.SubmissionLemmas as submission
use Rattle.x12_profile.proofs.WrittenLemmas as back
use Rattle.x12_numbers.proofs.Shelf.{and_four}

-- The delimiters of orders can delimit.

delimit : bytes_are_delimiters order_delimiters ≡ true
unfolding bytes_are_delimiters
delimit = refl

-- An identifier without its spaces.

five : (a b c d e : Bool) → (a && b && c && d && e) ≡ true → (b ≡ true) × (d ≡ true) × (e ≡ true)
five true true true true e is = (refl, refl, is)
five true true true false e is = absurd cc
five true true false d e is = absurd cc
five true false c d e is = absurd cc
five false b c d e is = absurd cc

identifier : (p : Party) → is_plain_party p ≡ true → (element_is_writable order_delimiters (identifier_of_party p) ≡ true) × (text_has_length 2 15 (identifier_of_party p) ≡ true)
unfolding is_plain_party
identifier p plain =
    let parts = five (length p.qualifier == 2) (length p.id == 15) (list_all byte_is_capital_or_digit p.qualifier) (nat_le 2 (length (identifier_of_party p))) (list_all byte_is_capital_or_digit (identifier_of_party p)) plain in
    let size : length p.id ≡ 15 = eqb-true (length p.id) 15 parts.0 in
    let within : length (identifier_of_party p) ≤ 15 = omega (arith, size, length-take-le (length p.id - suffix_len (λ b. b == 32) p.id) p.id (omega arith)) in
    ((text_writable order_delimiters (identifier_of_party p) delimit (capitals (identifier_of_party p) parts.2)).0, rw (parts.1, le-leb (length (identifier_of_party p)) 15 within) refl)

-- Each order's transaction set fits.

orders_of : (segments : Order) → is_order segments ≡ true → list_all (data_is_writable order_delimiters) segments ≡ true
orders_of [] held = refl
orders_of (s ∷ segments) held =
    let h = and_parts (is_order_segment s) (is_order segments) held in
    rw ((and_parts (data_is_writable order_delimiters s) (list_all (field_is_writable order_delimiters) s) h.0).0, orders_of segments h.1) refl

st_fits : (n : ℕ) → n ≤ 9999 → st_is_writable order_delimiters (codes "ST" ∷ codes "850" ∷ zero_padded_number 4 n ∷ []) ≡ true
unfolding kind_of_name elements_are_st segment_is_writable
st_fits n small =
    let and_four = length_padded 4 n (omega arith) (omega (arith, small)) (omega (arith, small)) in
    st_by_elements order_delimiters (codes "ST" ∷ codes "850" ∷ zero_padded_number 4 n ∷ [])
    ∙ rw (free_element order_delimiters (codes "ST") delimit refl, free_element order_delimiters (codes "850") delimit refl, digits_writable order_delimiters (zero_padded_number 4 n) delimit (padded_digits 4 n), filled_by_length (zero_padded_number 4 n) (omega (arith, and_four)), and_four) refl

sets_fit : (n : ℕ) (texts : List Order) → n + length texts ≤ 9999 → list_all is_order texts ≡ true → list_all (set_is_writable order_delimiters) (map order_set (enumerate_from n texts)) ≡ true
unfolding set_is_writable
sets_fit n [] few held = refl
sets_fit n (t ∷ texts) few held =
    let h = and_parts (is_order t) (list_all is_order texts) held in
    rw (st_fits n (omega (arith, few)), orders_of t h.0, sets_fit (n + 1) texts (omega (arith, few)) h.1) refl

-- GS, and the group.

gs_fits : (me to : Party) (at : Moment) (gcn : ℕ) → is_plain_party me ≡ true → is_plain_party to ≡ true → gcn ≤ 999999999 → gs_is_writable order_delimiters (order_header me to at gcn) ≡ true
unfolding kind_of_name elements_are_gs segment_is_writable
gs_fits me to at gcn plain plain_to small =
    let d = order_delimiters in
    let own = identifier me plain in
    let other = identifier to plain_to in
    let date = date_digits at in
    let time = time_digits at in
    gs_by_elements d (order_header me to at gcn)
    ∙ rw (free_element d (codes "GS") delimit refl, free_element d (codes "PO") delimit refl, own.0, other.0, digits_writable d at.date delimit date, digits_writable d at.time delimit time.0, decimal_writable d gcn delimit, free_element d (codes "X") delimit refl, free_element d (codes "004010") delimit refl, own.1, other.1, at.with_century, date, time.1, time.0, number_decimal gcn small) refl

group_fits : (me to : Party) (at : Moment) (gcn : ℕ) (texts : List Order) → is_plain_party me ≡ true → is_plain_party to ≡ true → gcn ≤ 999999999 → length texts ≤ 400 → list_all is_order texts ≡ true → group_is_writable order_delimiters (order_group me to at gcn texts) ≡ true
unfolding group_is_writable
group_fits me to at gcn texts plain plain_to small few held =
    rw (gs_fits me to at gcn plain plain_to small, sets_fit 1 texts (omega (arith, few)) held) refl

-- The interchange.

within_by : (x : WrittenInterchange) → length x.groups ≤ 32 → sum_by (λ (g : WrittenGroup). length g.sets) x.groups ≤ 400 → length (written x) ≤ 1048576 → interchange_is_within_limits x ≡ true
unfolding interchange_is_within_limits
within_by x groups sets size = rw (le-leb (length x.groups) 32 groups, le-leb (sum_by (λ (g : WrittenGroup). length g.sets) x.groups) 400 sets, le-leb (length (written x)) 1048576 size) refl

module _ (address : PlainPartyIsAddress) (me to : Party) (at : Moment) (book : Book) (texts : List Order) (may : MayWrite me to book texts) (short : length (x12.orders me to at book texts) ≤ 1048576) where
  abbrev w : WrittenInterchange
  w = order_interchange me to at book texts

  own : is_plain_party me ≡ true
  own = plainly me may.plain

  asked : (is_plain_party to ≡ true) × (1 ≤ length texts) × (length texts ≤ 400) × (list_all is_order texts ≡ true)
  unfolding x12
  asked =
      let parts = and_four (is_plain_party to) (nat_le 1 (length texts)) (nat_le (length texts) 400) (list_all is_order texts) may.orders in
      (parts.0, leb-true 1 (length texts) parts.1, leb-true (length texts) 400 parts.2, parts.3)

  numbers : (book.interchange ≤ 999999999) × (book.group ≤ 999999999)
  numbers = back.within book.interchange book.group may.within

  size : length (written w) ≤ 1048576
  size = subst (λ bytes. length bytes ≤ 1048576) (field.orders_are me to at book texts) short

  sets_count : length (map order_set (enumerate_from 1 texts)) ≡ length texts
  sets_count = length-map (enumerate_from 1 texts) order_set ∙ length-enumerate_from 1 texts

  count : sum_by (λ (g : WrittenGroup). length g.sets) (order_group me to at book.group texts ∷ []) ≤ 400
  count = let few = asked.2 in omega (arith, few, sets_count)

  within_limits : interchange_is_within_limits w ≡ true
  unfolding order_interchange
  within_limits = within_by w (omega arith) count size

  sized : has_sizes w ≡ true
  unfolding has_sizes order_interchange
  sized =
      let mine = address order_delimiters me delimit own in
      let other = address order_delimiters to delimit asked.0 in
      rw (mine.qualifier.size, mine.id.size, other.qualifier.size, other.id.size, at.with_century, (time_digits at).1) refl

  headed : header_is_writable w ≡ true
  unfolding header_is_writable order_interchange
  headed =
      let d = order_delimiters in
      let mine = address d me delimit own in
      let other = address d to delimit asked.0 in
      let century = (cut _ 2 at.date (date_digits at)).1 in
      rw (delimit, le-leb book.interchange 999999999 numbers.0, mine.qualifier.plain, mine.id.plain, other.qualifier.plain, other.id.plain, digits_field d (drop 2 at.date) delimit century, digits_field d at.time delimit (time_digits at).0, free_field d (48 ∷ []) delimit refl, free_field d (80 ∷ []) delimit refl) refl

  groups_fit : list_all (group_is_writable w.delims) w.groups ≡ true
  unfolding order_interchange
  groups_fit = rw (group_fits me to at book.group texts own asked.0 numbers.1 asked.2 asked.3) refl

  pub counted : (1 ≤ length texts) × (length texts ≤ 400)
  counted = (asked.1, asked.2)

  pub fit : interchange_fits w ≡ true
  unfolding interchange_fits order_interchange
  fit = rw (sized, headed, groups_fit, within_limits) refl

-- It is a submission.

-- a number doesn't stand among later ones
differ : (k n : ℕ) → k < n → n ≤ 9999 → bytes_eq (zero_padded_number 4 k) (zero_padded_number 4 n) ≡ false
differ k n lt few = by (bytes_eq (zero_padded_number 4 k) (zero_padded_number 4 n)) refl
  where
    by : (b : Bool) → bytes_eq (zero_padded_number 4 k) (zero_padded_number 4 n) ≡ b → bytes_eq (zero_padded_number 4 k) (zero_padded_number 4 n) ≡ false
    by false is = is
    by true is =
        let value : k ≡ n = sym (padded_value 4 k (omega (arith, lt, few))) ∙ ap value_of_digits ((bytes_eq-Decides (zero_padded_number 4 k) (zero_padded_number 4 n)).0 is) ∙ padded_value 4 n (omega (arith, few)) in
        absurd (omega (arith, value, lt))

later_differs : (k n : ℕ) (texts : List Order) → k < n → n + length texts ≤ 9999 → list_any (λ (t : ReadSet). bytes_eq (zero_padded_number 4 k) t.number) (map (written_set_outline order_delimiters) (map order_set (enumerate_from n texts))) ≡ false
later_differs k n [] lt few = refl
later_differs k n (t ∷ texts) lt few = rw (differ k n lt (omega (arith, few)), later_differs k (n + 1) texts (omega (arith, lt)) (omega (arith, few))) refl

new_numbers : (n : ℕ) (texts : List Order) → n + length texts ≤ 9999 → are_new_numbers (map (written_set_outline order_delimiters) (map order_set (enumerate_from n texts))) ≡ true
new_numbers n [] few = refl
new_numbers n (t ∷ texts) few = rw (later_differs n (n + 1) texts (omega arith) (omega (arith, few)), new_numbers (n + 1) texts (omega (arith, few))) refl

not_none : (n : ℕ) → 1 ≤ n → not (n == 0) ≡ true
not_none n some = elim (eqb_tells n 0) [
  | inl is ↦ let none = is.1 in absurd (omega (arith, some, none))
  | inr apart ↦ rw (apart.0) refl
]

placed_orders : (group : ℕ × List ℕ) (n : ℕ) (texts : List Order) → group ≡ (1, codes "PO")
    → map (λ s. record { place = record { group = group.0; set = s.0 }; functional = group.1; set = s.1.set; number = s.1.number; bytes = s.1.bytes }) (enumerate_from n (map (written_set_outline order_delimiters) (map order_set (enumerate_from n texts)))) ≡ map order_at (enumerate_from n texts)
placed_orders group n [] is = refl
placed_orders group n (t ∷ texts) is = ap₂ (λ (g : ℕ × List ℕ) (sets : List PlacedTransactionSet). record { place = record { group = g.0; set = n }; functional = g.1; set = codes "850"; number = zero_padded_number 4 n; bytes = (order_at (n, t)).bytes } ∷ sets) is (placed_orders group (n + 1) texts is)

module _ (me to : Party) (at : Moment) (book : Book) (texts : List Order) (some : 1 ≤ length texts) (few : length texts ≤ 400) (small : book.group ≤ 999999999) where
  abbrev sets : List ReadSet
  sets = map (written_set_outline order_delimiters) (map order_set (enumerate_from 1 texts))

  set_count : length sets ≡ length texts
  set_count = length-map (map order_set (enumerate_from 1 texts)) (written_set_outline order_delimiters) ∙ length-map (enumerate_from 1 texts) order_set ∙ length-enumerate_from 1 texts

  outlined : is_order_outline (written_outline (order_interchange me to at book texts)) ≡ true
  unfolding order_interchange
  outlined = rw (not_none (length sets) (omega (arith, set_count, some)), new_numbers 1 texts (omega (arith, few))) refl

  numbered : group_numbers (written_outline (order_interchange me to at book texts)) ≡ book.group ∷ []
  unfolding order_interchange
  numbered = rw (number_decimal book.group small) refl

  placed : sets_by_place (written_outline (order_interchange me to at book texts)) ≡ map order_at (enumerate_from 1 texts)
  unfolding order_interchange
  placed = append-nil _ ∙ placed_orders (1, codes "PO") 1 texts refl

-- The law.

module _ (g : ReadBack) (address : PlainPartyIsAddress) (me to : Party) (at : Moment) (book : Book) (texts : List Order) (may : MayWrite me to book texts) (short : length (x12.orders me to at book texts) ≤ 1048576) where
  abbrev x : Bytes
  x = x12.orders me to at book texts

  abbrev v : WrittenInterchange
  v = order_interchange me to at book texts

  fits_it : interchange_fits v ≡ true
  fits_it = fit address me to at book texts may short

  bytes : x ≡ written v
  bytes = field.orders_are me to at book texts

  many : (1 ≤ length texts) × (length texts ≤ 400)
  many = counted address me to at book texts may short

  numbers_in : (book.interchange ≤ 999999999) × (book.group ≤ 999999999)
  numbers_in = back.within book.interchange book.group may.within

  pub submits : SubmitsOrders me to book texts x
  unfolding order_interchange
  submits = record {
    submission = field.is_submission_is x (written_header v) (back.header_is g x v bytes fits_it) (written_outline v) (back.outline_is g x v bytes fits_it) ∙ outlined me to at book texts many.0 many.1 numbers_in.1;
    sender = back.sender_is g x v bytes fits_it;
    receiver = back.receiver_is g x v bytes fits_it;
    number = back.number_is g x v bytes fits_it;
    groups = back.groups_are g x v bytes fits_it ∙ numbered me to at book texts many.0 many.1 numbers_in.1;
    sets = field.sets_are x (written_header v) (back.header_is g x v bytes fits_it) (written_outline v) (back.outline_is g x v bytes fits_it) ∙ placed me to at book texts many.0 many.1 numbers_in.1;
  }

-- bytes that are too long have no header
too_long : (b : Bytes) (h : Header) (t : Bool) → nat_lt 1048576 (length b) ≡ t → header_of b ≡ Ok h → length b ≤ 1048576
unfolding header_of
too_long b h true is read = absurd (wrong (sym read ∙ rw is refl))
  where
    wrong : Ok h ≡ Err TooLong → ⊥
    wrong e = cc
too_long b h false is read = ltb-false 1048576 (length b) is

pub orders_submitted : ReadBack → PlainPartyIsAddress → OrdersAreSubmitted
orders_submitted g address = record {
  fit = fit address;
  submitted = submits g address;
  only = λ me to at book texts is. let s = submission.submitted (x12.orders me to at book texts) is in too_long (x12.orders me to at book texts) s.header (nat_lt 1048576 (length (x12.orders me to at book texts))) refl s.is_header;
}
