-- The tables of orders and of arriving bytes name the rows of the definition's.
use Rattle.std.specs.Prelude.{◌≡◌, ◌↔◌, ℕ, ◌+◌, ◌≤◌, min, List, [], ◌∷◌, Bool, true, false, not, ◌&&◌, ◌||◌, ◌==◌, nat_le, nat_lt, length, Option, Some, None, Result, Ok, Err, option_map, IsTrue, is_some, refl}
use Rattle.std.specs.List.{list_all}
use mathlib.Core.Path.{sym, ap, ap₂, subst, ◌∙◌}
use native.Mathlib.Omega.{arith}
use Rattle.std.proofs.lemmas.Bool.{leb-true, le-leb, ltb-false, ltb-true, and_parts}
use Rattle.std.proofs.lemmas.Bool.Decides.{nat_tests}
use Rattle.x12_numbers.specs.Book.{Numbers, are_new, is_rising}
use Rattle.x12_numbers.specs.declared.book.TheConstants.{MAX_CONTROL_NUMBER}
use Rattle.x12_envelopes.specs.declared.header.Header.{Header}
use Rattle.x12_envelopes.specs.declared.header.HeaderFault.{HeaderFault}
use Rattle.x12_envelopes.specs.declared.moment.Moment.{Moment}
use Rattle.x12_envelopes.specs.declared.party.Party.{Party}
use Rattle.x12_envelopes.specs.Header.{header_of}
use Rattle.x12_envelopes.specs.Party.{is_plain_party}
use Rattle.x12_envelopes.specs.Row.{first_of_rows}
use Rattle.x12_judge.specs.Agreement.{is_same_party}
use Rattle.x12_profile.specs.Interchange.{Bytes, Order, is_within}
use Rattle.x12_profile.specs.Order.{are_orders, is_order}
use Rattle.x12_profile.specs.OrderLaw.{MayWrite, OrdersAreSubmitted}
use Rattle.x12_profile.specs.X12.{x12}
use Rattle.x12_profile.proofs.FieldLemmas as field
use Rattle.x12_acks.proofs.ReplyGroupLemmas.{same_party_itself}
use Rattle.x12_station.specs.declared.fault.StationFault.{StationFault}
use Rattle.x12_station.specs.declared.fault.StationFault.TheVariants as fault
use Rattle.x12_station.specs.Fault.{arrival_fault, arrived_fault, orders_fault, takes_item, has_no_item_left}
use Rattle.x12_station.specs.History.{KeptArrival, filed}
use Rattle.x12_station.specs.Station.{Station}
use Rattle.x12_station.specs.StationRefusal.{StationRefusal, arrival_refusal, arrival_takes, book_of_orders, is_spent, orders_refusal, prepared_refusal, within_numbers, written_orders}
use Rattle.x12_station.specs.StationRefusal as refusal
use Rattle.x12_station.specs.TableLaw.{ArrivalTable, OrdersTable, row_of_fault, row_of_orders_fault, row_or_spent}
use Rattle.x12_station.proofs.TableLemmas.{empty_together}

-- Arriving bytes.

number_rows : (spent takes : Bool) → option_map row_of_fault (first_of_rows ((spent, fault.Exhausted) ∷ (takes, fault.Exhausted) ∷ []))
    ≡ option_map Some (row_or_spent (first_of_rows ((not true, refusal.Unreadable) ∷ (spent, refusal.Exhausted) ∷ [])) takes)
number_rows true takes = refl
number_rows false true = refl
number_rows false false = refl

module _ (s : Station) (b : Bytes) where
  abbrev found : Option KeptArrival
  found = filed x12 s.items (x12.sender b) (x12.number b)

  by_header : (r : Result Header HeaderFault) → header_of b ≡ r → option_map row_of_fault (arrived_fault s b r) ≡ option_map Some (row_or_spent (arrival_refusal x12 s b) (takes_item found && has_no_item_left s))
  by_header (Ok h) is =
      rw (field.has_header_is b h is, field.sender_is b h is, field.number_is b h is)
      (number_rows (is_spent s.book (arrival_takes x12 s b (filed x12 s.items h.sender h.icn))) (takes_item (filed x12 s.items h.sender h.icn) && has_no_item_left s))
  by_header (Err f) is = unheard (x12.has_header b) refl
    where
      unheard : (t : Bool) → x12.has_header b ≡ t → Some (Some refusal.Unreadable) ≡ option_map Some (row_or_spent (arrival_refusal x12 s b) (takes_item found && has_no_item_left s))
      unheard true e = let known = field.header_known b e in absurd (let no : Ok known.0 ≡ Err f = sym known.1 ∙ is in cc)
      unheard false e = rw e refl

pub arrival_table : ArrivalTable
unfolding arrival_fault
arrival_table s b = by_header s b (header_of b) refl

-- Orders.

may_order_is : (to : Party) (texts : List Order) → x12.may_order to texts ≡ are_orders to texts
unfolding x12
may_order_is to texts = refl

is_plain_is : (p : Party) → x12.is_plain p ≡ is_plain_party p
unfolding x12
is_plain_is p = refl

-- a number that is one above the last, and may be written, rises
next_rises : (n : ℕ) → nat_le (n + 1) MAX_CONTROL_NUMBER ≡ true → is_rising n ((n + 1) ∷ []) ≡ true
next_rises n small = let up : nat_lt n (n + 1) ≡ true = grind (arith, nat_tests) in rw (up, small) refl

within_least : (n : ℕ) → nat_le n MAX_CONTROL_NUMBER ≡ true → min n MAX_CONTROL_NUMBER ≡ n
within_least n small = let le : n ≤ MAX_CONTROL_NUMBER = leb-true n MAX_CONTROL_NUMBER small in omega arith

least_within : (n : ℕ) → nat_le (min n MAX_CONTROL_NUMBER) MAX_CONTROL_NUMBER ≡ true
least_within n = le-leb (min n MAX_CONTROL_NUMBER) MAX_CONTROL_NUMBER (omega arith)

book_within : (b : Numbers) → is_within (within_numbers b) ≡ true
book_within b = rw (least_within b.interchange, least_within b.group) refl

pub book_same : (b : Numbers) → is_within b ≡ true → within_numbers b ≡ b
book_same b small =
    let parts = and_parts (nat_le b.interchange MAX_CONTROL_NUMBER) (nat_le b.group MAX_CONTROL_NUMBER) small in
    ap₂ (λ i g. record { interchange = i; group = g }) (within_least b.interchange parts.0) (within_least b.group parts.1)

header_told : (x : Bytes) → x12.is_submission x ≡ true → x12.has_header x ≡ true
header_told x orders = by (header_of x) refl
  where
    by : (r : Result Header HeaderFault) → header_of x ≡ r → x12.has_header x ≡ true
    by (Ok h) is = field.has_header_is x h is
    by (Err f) is = absurd (let no : true ≡ false = sym orders ∙ field.not_submitted_of x f is in cc)

-- the tests of the two tables
abbrev names : Option StationFault → Option StationRefusal → Bool → Type 0
names fault row last = option_map row_of_orders_fault fault ≡ option_map Some (row_or_spent row last)

orders_rows : (own none text many large sub within after last plain some few : Bool) (may : Bool)
    → may ≡ (plain && some && few && text) → none ≡ not some → many ≡ not few
    → (may ≡ true → sub ≡ not large) → (may ≡ true → sub ≡ true → within ≡ true → own ≡ false → after ≡ false)
    → names (first_of_rows ((own, fault.OwnAddress) ∷ (none, fault.Empty) ∷ (not (plain && text), fault.BadText) ∷ (many || large, fault.TooLarge) ∷ (not within, fault.Exhausted) ∷ (last, fault.Exhausted) ∷ []))
    (first_of_rows ((own, refusal.OwnAddress) ∷ (not may, refusal.NotWritable) ∷ (not sub, refusal.NotWritable) ∷ (not within, refusal.Exhausted) ∷ (after, refusal.NotWritable) ∷ [])) last
orders_rows true none text many large sub within after last plain some few may is a b c d = refl
orders_rows false none text many large sub within after last plain false few may is a b c d = rw (a, is) (by plain)
  where
    by : (t : Bool) → names (Some fault.Empty) (first_of_rows ((not (t && false && few && text), refusal.NotWritable) ∷ (not sub, refusal.NotWritable) ∷ (not within, refusal.Exhausted) ∷ (after, refusal.NotWritable) ∷ [])) last
    by true = refl
    by false = refl
orders_rows false none text many large sub within after last false true few may is a b c d = rw (a, is) refl
orders_rows false none false many large sub within after last true true few may is a b c d = rw (a, is) (by few)
  where
    by : (t : Bool) → names (Some fault.BadText) (first_of_rows ((not (t && false), refusal.NotWritable) ∷ (not sub, refusal.NotWritable) ∷ (not within, refusal.Exhausted) ∷ (after, refusal.NotWritable) ∷ [])) last
    by true = refl
    by false = refl
orders_rows false none true many large sub within after last true true false may is a b c d = rw (a, b, is) refl
orders_rows false none true many true sub within after last true true true may is a b c d = rw (a, b, c is, is) refl
orders_rows false none true many false sub false after last true true true may is a b c d = rw (a, b, c is, is) refl
orders_rows false none true many false sub true after true true true true may is a b c d = rw (a, b, d is (c is) refl refl, c is, is) refl
orders_rows false none true many false sub true after false true true true may is a b c d = rw (a, b, d is (c is) refl refl, c is, is) refl

none_for_one : (n : ℕ) → (n == 0) ≡ not (nat_le 1 n)
none_for_one n = grind (arith, nat_tests)

many_for_few : (n most : ℕ) → nat_lt most n ≡ not (nat_le n most)
many_for_few n most = grind (arith, nat_tests)

none_of_rows : (h m o q n : Bool) → h ≡ true → m ≡ true → o ≡ false → q ≡ true → n ≡ true
    → is_some (first_of_rows ((not h, refusal.BadHeader) ∷ (not m, refusal.NotMine) ∷ (o, refusal.OwnAddress) ∷ (not q, refusal.NotSubmission) ∷ (not n, refusal.NotNew) ∷ [])) ≡ false
none_of_rows h m o q n a b c d e = rw (a, b, c, d, e) refl

module _ (law : OrdersAreSubmitted) (s : Station) (to : Party) (at : Moment) (texts : List Order) (plain : IsTrue (is_plain_party s.me)) (may : x12.may_order to texts ≡ true) where
  abbrev least : Numbers
  least = within_numbers (book_of_orders s)

  may_write : (book : Numbers) → is_within book ≡ true → MayWrite s.me to book texts
  may_write book within = record { plain = is_plain_is s.me ∙ plain; orders = may; within = within }

  -- what is written is a submission where it isn't too large
  written_fits : x12.is_submission (x12.orders s.me to at least texts) ≡ not (nat_lt 1048576 (length (x12.orders s.me to at least texts)))
  written_fits = by (x12.is_submission (x12.orders s.me to at least texts)) refl (nat_lt 1048576 (length (x12.orders s.me to at least texts))) refl
    where
      by : (t : Bool) → x12.is_submission (x12.orders s.me to at least texts) ≡ t → (u : Bool) → nat_lt 1048576 (length (x12.orders s.me to at least texts)) ≡ u → t ≡ not u
      by true is true large =
          let few = law.only s.me to at least texts is in
          let many = ltb-true 1048576 (length (x12.orders s.me to at least texts)) large in
          absurd (omega arith)
      by true is false small = refl
      by false is true large = refl
      by false is false small =
          let few = ltb-false 1048576 (length (x12.orders s.me to at least texts)) small in
          let orders = (law.submitted s.me to at least texts (may_write least (book_within (book_of_orders s))) few).submission in
          sym is ∙ orders

  -- and no row of prepared bytes refuses it
  written_allowed : x12.is_submission (x12.orders s.me to at least texts) ≡ true → is_within (book_of_orders s) ≡ true → is_same_party to s.me ≡ false
      → is_some (prepared_refusal x12 s (written_orders x12 s to at texts)) ≡ false
  written_allowed orders within other =
      let book = book_of_orders s in
      let same = book_same book within in
      let few : length (x12.orders s.me to at book texts) ≤ 1048576 = subst (λ b. length (x12.orders s.me to at b texts) ≤ 1048576) same (law.only s.me to at least texts orders) in
      let is = law.submitted s.me to at book texts (may_write book within) few in
      let parts = and_parts (nat_le book.interchange MAX_CONTROL_NUMBER) (nat_le book.group MAX_CONTROL_NUMBER) within in
      let x = x12.orders s.me to at book texts in
      none_of_rows (x12.has_header x) (is_same_party (x12.sender x) s.me) (is_same_party (x12.receiver x) s.me) (x12.is_submission x) (are_new s.book (x12.number x ∷ []) (x12.groups x))
      (header_told x is.submission)
      (ap (λ p. is_same_party p s.me) is.sender ∙ same_party_itself s.me)
      (ap (λ p. is_same_party p s.me) is.receiver ∙ other)
      is.submission
      (rw (is.number, is.groups, next_rises s.book.interchange parts.0, next_rises s.book.group parts.1) refl)

pub orders_table : OrdersAreSubmitted → OrdersTable
unfolding orders_fault
orders_table law s to at texts plain =
    orders_rows (is_same_party to s.me) (length texts == 0) (list_all is_order texts) (nat_lt 400 (length texts))
    (nat_lt 1048576 (length (x12.orders s.me to at (within_numbers (book_of_orders s)) texts)))
    (x12.is_submission (x12.orders s.me to at (within_numbers (book_of_orders s)) texts)) (is_within (book_of_orders s))
    (is_some (prepared_refusal x12 s (written_orders x12 s to at texts))) (has_no_item_left s) (is_plain_party to) (nat_le 1 (length texts)) (nat_le (length texts) 400)
    (x12.may_order to texts) (may_order_is to texts) (none_for_one (length texts)) (many_for_few (length texts) 400)
    (written_fits law s to at texts plain) (written_allowed law s to at texts plain)

pub orders_empty : OrdersAreSubmitted → (s : Station) (to : Party) (at : Moment) (texts : List Order) → IsTrue (is_plain_party s.me)
    → (orders_fault s to at texts ≡ None) ↔ ((orders_refusal x12 s to at texts ≡ None) × (has_no_item_left s ≡ false))
orders_empty law s to at texts plain = empty_together row_of_orders_fault (orders_fault s to at texts) (orders_refusal x12 s to at texts) (has_no_item_left s) (orders_table law s to at texts plain)
