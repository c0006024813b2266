-- What is entered of orders that were written.
use Rattle.std.specs.Prelude.{◌≡◌, ℕ, ◌+◌, ◌-◌, ◌^◌, ◌<◌, ◌≤◌, List, [], ◌∷◌, ◌++◌, Bool, true, false, not, ◌&&◌, length, map, nat_le, codes, None, Ok, IsTrue, is_some, refl}
use Rattle.std.specs.List.{enumerate_from, list_all, sum_by}
use mathlib.Core.Path.{sym, ap, ap₂, subst, ◌∙◌}
use native.Mathlib.Omega.{arith}
use Rattle.std.proofs.lemmas.Bool.{leb-true}
use Rattle.std.proofs.lemmas.Bool.Decides.{nat_tests}
use Rattle.std.proofs.lemmas.List.{length-map}
use Rattle.std.proofs.lemmas.List.FromFn.{length-enumerate_from}
use Rattle.x12_numbers.specs.Book.{Numbers, Uses, are_new}
use Rattle.x12_numbers.proofs.Shelf.{and_four}
use Rattle.x12_envelopes.specs.declared.header.Header.{Header}
use Rattle.x12_envelopes.specs.declared.moment.Moment.{Moment}
use Rattle.x12_envelopes.specs.declared.party.Party.{Party}
use Rattle.x12_envelopes.specs.Envelope.{WrittenInterchange, written, written_header}
use Rattle.x12_envelopes.specs.Fitting.{interchange_fits}
use Rattle.x12_envelopes.specs.Header.{header_of}
use Rattle.x12_envelopes.specs.Outline.{outline_of}
use Rattle.x12_envelopes.specs.Party.{is_plain_party}
use Rattle.x12_envelopes.specs.RoundTrip.{HeaderReadBack, OutlineReadBack, written_outline, written_set_outline}
use Rattle.x12_envelopes.specs.Row.{first_of_rows}
use Rattle.x12_envelopes.specs.Shape.{Interchange, FunctionalGroup}
use Rattle.x12_envelopes.proofs.NumberLemmas.{number_decimal}
use Rattle.x12_acks.specs.Submission.{submission_of, submitted_set}
use Rattle.x12_judge.specs.Agreement.{is_same_party}
use Rattle.x12_outbound.specs.declared.entry.EntryGroup.{EntryGroup}
use Rattle.x12_outbound.specs.Entry.{GroupRow, InterchangeRow, SetRow, group_row, pending_entry, pending_set}
use Rattle.x12_profile.specs.Interchange.{Book, Bytes, Order, is_within}
use Rattle.x12_profile.specs.Order.{is_order, order_delimiters, order_interchange, order_set}
use Rattle.x12_profile.specs.OrderLaw.{MayWrite, OrdersAreSubmitted, SubmitsOrders}
use Rattle.x12_profile.specs.X12.{x12}
use Rattle.x12_profile.proofs.FieldLemmas as field
use Rattle.x12_station.specs.declared.cached.Cached.{Cached}
use Rattle.x12_station.specs.Fault.{has_no_item_left}
use Rattle.x12_station.specs.Station.{Station}
use Rattle.x12_station.specs.StationRefusal.{StationRefusal, book_of_orders, orders_refusal, prepared_refusal, written_orders, within_numbers}
use Rattle.x12_station.specs.StationRefusal as refusal
use Rattle.x12_station.specs.working.Orders.{IsOrdered, pending_order}
use Rattle.x12_outbound.specs.Submitting.{contents_fault, parties_fault}
use Rattle.x12_outbound.proofs.SendableLemmas.{sendable}
use Rattle.x12_station.specs.working.Prepared.{Knows, MayEnter}
use Rattle.x12_station.proofs.ArrivedNewLemmas.{plain_is}
use Rattle.x12_station.proofs.EnterLemmas.{contents_of_orders, may_enter}
use Rattle.x12_station.proofs.TableLemmas.{prepared_empty}

-- Tables that are empty.

five : (a b c d e : Bool) → first_of_rows ((a, refusal.OwnAddress) ∷ (not b, refusal.NotWritable) ∷ (c, refusal.NotWritable) ∷ (not d, refusal.Exhausted) ∷ (e, refusal.NotWritable) ∷ []) ≡ None
    → (b ≡ true) × (d ≡ true)
five true b c d e is = absurd cc
five false false c d e is = absurd cc
five false true true d e is = absurd cc
five false true false false e is = absurd cc
five false true false true true is = absurd cc
five false true false true false is = (refl, refl)

rows_of : (h s r p n : Bool) → first_of_rows ((not h, refusal.BadHeader) ∷ (not s, refusal.NotMine) ∷ (r, refusal.OwnAddress) ∷ (not p, refusal.NotSubmission) ∷ (not n, refusal.NotNew) ∷ []) ≡ None
    → (s ≡ true) × (r ≡ false) × (p ≡ true) × (n ≡ true)
rows_of false s r p n is = absurd cc
rows_of true false r p n is = absurd cc
rows_of true true true p n is = absurd cc
rows_of true true false false n is = absurd cc
rows_of true true false true false is = absurd cc
rows_of true true false true true is = (refl, refl, refl, refl)

parties_empty : (me : Party) (h : Header) → is_same_party h.sender me ≡ true → is_same_party h.receiver me ≡ false → parties_fault me h ≡ None
parties_empty me h mine other = rw (mine, other) refl

-- The transaction sets, by their places.

sets_are : (n : ℕ) (texts : List Order) → map pending_set (map submitted_set (map (written_set_outline order_delimiters) (map order_set (enumerate_from n texts)))) ≡ map pending_order (enumerate_from n texts)
sets_are n [] = refl
sets_are n (t ∷ texts) = ap (λ (rows : List SetRow). pending_order (n, t) ∷ rows) (sets_are (n + 1) texts)

-- what is entered of them
abbrev pub entered_orders : Party → Book → List Order → Bytes → InterchangeRow
entered_orders to book texts x = record {
  icn = book.interchange;
  receiver = to;
  bytes = x;
  groups = record { functional = codes "PO"; number = book.group; sets = map pending_order (enumerate_from 1 texts) } ∷ [];
}

module _ (me to : Party) (at : Moment) (book : Book) (texts : List Order) (small : book.group ≤ 999999999) where
  abbrev v : WrittenInterchange
  v = order_interchange me to at book texts

  entry_is : (x : Bytes) → pending_entry (submission_of (written_header v) x (written_outline v)) ≡ entered_orders to book texts x
  unfolding order_interchange pending_entry submission_of
  entry_is x = rw (number_decimal book.group small, sets_are 1 texts) refl

  numbers_are : map (λ (g : FunctionalGroup). g.number) (written_outline v).groups ≡ book.group ∷ []
  unfolding order_interchange
  numbers_are = rw (number_decimal book.group small) refl

  one_group : length (written_outline v).groups ≤ 32
  unfolding order_interchange
  one_group = omega arith

  sets_count : length (map (written_set_outline order_delimiters) (map order_set (enumerate_from 1 texts))) ≡ length texts
  sets_count = length-map (map order_set (enumerate_from 1 texts)) (written_set_outline order_delimiters) ∙ length-map (enumerate_from 1 texts) order_set ∙ length-enumerate_from 1 texts

  few_sets : length texts ≤ 400 → sum_by (λ (g : FunctionalGroup). length g.sets) (written_outline v).groups ≤ 400
  unfolding order_interchange
  few_sets few = let same = sets_count in omega arith

  icn_is : (written_header v).icn ≡ book.interchange
  unfolding order_interchange
  icn_is = refl

-- as the code's entry
pub entered_is : (to : Party) (book : Book) (texts : List Order) (x bytes : Bytes) (made gs : List EntryGroup) (g : EntryGroup) (i : ℕ)
    → i ≡ book.interchange → bytes ≡ x → made ≡ [] → gs ≡ made ++ g ∷ []
    → group_row g ≡ record { functional = codes "PO"; number = book.group + 1; sets = map pending_order (enumerate_from 1 texts) }
    → record { icn = i + 1; receiver = to; bytes = bytes; groups = map group_row gs } ≡ entered_orders to (record { interchange = book.interchange + 1; group = book.group + 1 }) texts x
entered_is to book texts x bytes made gs g i i_is same none pushed row = rw (pushed, none, i_is, same, row) refl

pub group_is : (number : ℕ) (rows : List SetRow) (n : ℕ) (more : List SetRow) → number ≡ n → rows ≡ more → record { functional = codes "PO"; number = number + 1; sets = rows } ≡ (let row : GroupRow = record { functional = codes "PO"; number = n + 1; sets = more } in row)
group_is number rows n more a b = rw (a, b) refl

-- numbers that are new aren't refused
pub never_old : (book : Numbers) (i g : ℕ) → IsTrue (not (are_new book ((i + 1) ∷ []) ((g + 1) ∷ []))) → i ≡ book.interchange → g ≡ book.group
    → are_new book ((book.interchange + 1) ∷ []) ((book.group + 1) ∷ []) ≡ true → ⊥
never_old book i g old i_is g_is new =
    by (are_new book ((i + 1) ∷ []) ((g + 1) ∷ [])) (ap₂ (λ a b. are_new book ((a + 1) ∷ []) ((b + 1) ∷ [])) i_is g_is ∙ new) old
  where
    by : (t : Bool) → t ≡ true → IsTrue (not t) → ⊥
    by true is held = absurd cc
    by false is held = absurd cc

-- What was written of orders, as memory tells.

room_left : (s : Station) (n : ℕ) → length s.items ≡ n → has_no_item_left s ≡ false → n < 2 ^ 63 - 1
room_left s n is left = let last : nat_le (2 ^ 63 - 1) (length s.items) ≡ false = left in grind (arith, nat_tests)

small_numbers : (book : Book) → IsTrue (is_within book) → (book.interchange ≤ 999999999) × (book.group ≤ 999999999)
small_numbers book e = let both : (nat_le book.interchange 999999999 && nat_le book.group 999999999) ≡ true = e in grind (arith, nat_tests)

few_orders : (to : Party) (texts : List Order) → IsTrue (x12.may_order to texts) → length texts ≤ 400
unfolding x12
few_orders to texts may = leb-true (length texts) 400 (and_four (is_plain_party to) (nat_le 1 (length texts)) (nat_le (length texts) 400) (list_all is_order texts) may).2

module _ (header : HeaderReadBack) (outline : OutlineReadBack) (law : OrdersAreSubmitted) (m : Cached) (s : Station) (knows : Knows m s) (plain : IsTrue (is_plain_party m.me))
    (to : Party) (at : Moment) (texts : List Order) (x : Bytes) (is : IsOrdered s to at texts x) where
  abbrev book : Book
  book = book_of_orders s

  abbrev w : WrittenInterchange
  w = order_interchange s.me to at book texts

  rows : (IsTrue (x12.may_order to texts)) × (IsTrue (is_within book))
  rows = five (is_same_party to s.me) (x12.may_order to texts) (not (x12.is_submission (x12.orders s.me to at (within_numbers book) texts))) (is_within book) (is_some (prepared_refusal x12 s (written_orders x12 s to at texts))) is.orders

  table : (prepared_refusal x12 s x ≡ None) × (has_no_item_left s ≡ false)
  table = (prepared_empty s x).0 is.prepared

  own : (is_same_party (x12.sender x) s.me ≡ true) × (is_same_party (x12.receiver x) s.me ≡ false) × (x12.is_submission x ≡ true) × (are_new s.book (x12.number x ∷ []) (x12.groups x) ≡ true)
  own = rows_of (x12.has_header x) (is_same_party (x12.sender x) s.me) (is_same_party (x12.receiver x) s.me) (x12.is_submission x) (are_new s.book (x12.number x ∷ []) (x12.groups x)) table.0

  may : MayWrite s.me to book texts
  may = record {
    plain = plain_is s.me (subst (λ p. IsTrue (is_plain_party p)) (sym knows.me) plain);
    orders = rows.0;
    within = rows.1;
  }

  short : length (x12.orders s.me to at book texts) ≤ 1048576
  short = law.only s.me to at book texts (subst (λ b. IsTrue (x12.is_submission b)) is.written own.2)

  submits : SubmitsOrders s.me to book texts x
  submits = subst (SubmitsOrders s.me to book texts) (sym is.written) (law.submitted s.me to at book texts may short)

  fits : interchange_fits w ≡ true
  fits = law.fit s.me to at book texts may short

  bytes_are : x ≡ written w
  bytes_are = is.written ∙ field.orders_are s.me to at book texts

  pub few : length texts ≤ 400
  few = few_orders to texts rows.0

  small : (book.interchange ≤ 999999999) × (book.group ≤ 999999999)
  small = small_numbers book rows.1

  abbrev h : Header
  h = written_header w

  abbrev o : Interchange
  o = written_outline w

  header_is : header_of x ≡ Ok h
  header_is = ap header_of bytes_are ∙ header w fits

  outline_is : outline_of h.delims x ≡ Ok o
  outline_is = ap (outline_of w.delims) bytes_are ∙ outline w fits

  apart : parties_fault m.me h ≡ None
  apart = subst (λ me. parties_fault me h ≡ None) knows.me (parties_empty s.me h
      (ap (λ p. is_same_party p s.me) (sym (field.sender_is x h header_is)) ∙ own.0)
      (ap (λ p. is_same_party p s.me) (sym (field.receiver_is x h header_is)) ∙ own.1))

  contents : contents_fault o ≡ None
  contents = contents_of_orders x h o header_is outline_is own.2

  -- the next numbers are new
  pub new_numbers : are_new m.book ((m.book.interchange + 1) ∷ []) ((m.book.group + 1) ∷ []) ≡ true
  new_numbers =
      subst (λ b. are_new b ((b.interchange + 1) ∷ []) ((b.group + 1) ∷ []) ≡ true) knows.book
      (ap₂ (λ n ns. are_new s.book (n ∷ []) ns) (sym submits.number) (sym submits.groups) ∙ own.3)

  uses : (new : Numbers) → Uses m.book new ((m.book.interchange + 1) ∷ []) ((m.book.group + 1) ∷ []) → Uses m.book new (h.icn ∷ []) (map (λ (g : FunctionalGroup). g.number) o.groups)
  uses new used =
      let same = ap (λ (b : Book). b.interchange + 1) (sym knows.book) ∙ sym (icn_is s.me to at book texts small.1) in
      let groups = ap (λ (b : Book). (b.group + 1) ∷ []) (sym knows.book) ∙ sym (numbers_are s.me to at book texts small.1) in
      subst (λ n. Uses m.book new (n ∷ []) (map (λ (g : FunctionalGroup). g.number) o.groups)) same
      (subst (λ ns. Uses m.book new ((m.book.interchange + 1) ∷ []) ns) groups used)

  -- what is entered of the orders under the next numbers may be entered
  pub may_enter_orders : (new : Numbers) (e : InterchangeRow) → Uses m.book new ((m.book.interchange + 1) ∷ []) ((m.book.group + 1) ∷ [])
      → e ≡ entered_orders to (record { interchange = m.book.interchange + 1; group = m.book.group + 1 }) texts x → MayEnter m new e
  may_enter_orders new e used same =
      subst (MayEnter m new) (entry_is s.me to at book texts small.1 x ∙ ap (λ (b : Book). entered_orders to (record { interchange = b.interchange + 1; group = b.group + 1 }) texts x) knows.book ∙ sym same)
      (may_enter m new x h o header_is outline_is apart contents (uses new used)
      (sendable x h o contents m.book new (uses new used) (one_group s.me to at book texts small.1) (few_sets s.me to at book texts small.1 few)) (room_left s m.seq knows.last table.1))
