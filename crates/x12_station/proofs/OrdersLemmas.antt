-- Orders, refused by the first row that holds, or written to be entered.
use Rattle.std.specs.Prelude.{◌≡◌, ℕ, ◌+◌, ◌-◌, ◌^◌, ◌<◌, ◌≤◌, min, List, [], ◌∷◌, Bool, true, false, not, ◌||◌, ◌&&◌, ◌==◌, nat_le, nat_lt, length, Option, Some, None, IsTrue, is_none, is_some, refl, if◌then◌else◌}
use Rattle.std.specs.List.{list_all}
use Rattle.std.specs.Option.{option_or}
use mathlib.Core.Path.{sym, ap, ap₂, subst, ◌∙◌}
use native.Mathlib.Omega.{arith}
use Rattle.std.proofs.lemmas.Bool.Decides.{nat_tests}
use Rattle.x12_numbers.specs.declared.book.TheConstants.{MAX_CONTROL_NUMBER}
use Rattle.x12_envelopes.specs.declared.moment.Moment.{Moment}
use Rattle.x12_envelopes.specs.declared.party.Party.{Party}
use Rattle.x12_envelopes.specs.Envelope.{WrittenInterchange, written}
use Rattle.x12_envelopes.specs.Party.{is_plain_party}
use Rattle.x12_envelopes.specs.Row.{first_of_rows}
use Rattle.x12_judge.specs.Agreement.{is_same_party}
use Rattle.x12_profile.specs.Interchange.{Book, Bytes, Order, is_within}
use Rattle.x12_profile.specs.Order.{is_order, order_interchange}
use Rattle.x12_profile.specs.OrderLaw.{OrdersAreSubmitted}
use Rattle.x12_profile.specs.X12.{x12}
use Rattle.x12_station.specs.declared.fault.StationFault.{StationFault}
use Rattle.x12_station.specs.declared.fault.StationFault.TheVariants.{OwnAddress, Empty, BadText, TooLarge, Exhausted}
use Rattle.x12_station.specs.declared.cached.Cached.{Cached}
use Rattle.x12_station.specs.Fault.{orders_fault, prepared_fault}
use Rattle.x12_station.specs.working.Orders.{IsOrdered, lacks_number, numbers_of_orders, orders_row}
use Rattle.x12_station.specs.working.Prepared.{Knows}
use Rattle.x12_station.specs.Opened.{HoldsState}
use Rattle.x12_station.specs.Station.{Station}
use Rattle.x12_station.specs.StationRefusal.{StationRefusal, book_of_orders, orders_refusal, within_numbers, written_orders}
use Rattle.x12_station.specs.StationRefusal as refusal
use Rattle.x12_station.specs.StationStep.{StationStep, submit, submit_orders, entered}
use Rattle.x12_station.specs.Stopped.{HoldsStep}
use Rattle.x12_station.specs.Stored.{Stored}
use Rattle.x12_station.proofs.ArrivalTableLemmas.{book_same, orders_empty}
use Rattle.x12_station.proofs.PreparedLemmas.{or_first, or_second}
use Rattle.std.proofs.lemmas.Bool.{or_parts, not-false}
use Rattle.x12_station.proofs.SubmittingLemmas.{submit_taken}
use Rattle.x12_station.proofs.TableLemmas.{prepared_empty}

-- Tables of tests.

six_rows : (own none bad many large spent last : Bool) → first_of_rows ((own, OwnAddress) ∷ (none, Empty) ∷ (bad, BadText) ∷ (many || large, TooLarge) ∷ (spent, Exhausted) ∷ (last, Exhausted) ∷ [])
    ≡ option_or (first_of_rows ((own, OwnAddress) ∷ (none, Empty) ∷ (bad, BadText) ∷ (many, TooLarge) ∷ [])) (first_of_rows ((large, TooLarge) ∷ (spent || last, Exhausted) ∷ []))
six_rows true none bad many large spent last = refl
six_rows false true bad many large spent last = refl
six_rows false false true many large spent last = refl
six_rows false false false true large spent last = refl
six_rows false false false false true spent last = refl
six_rows false false false false false true last = refl
six_rows false false false false false false last = refl

first_row : (large lacks : Bool) → large ≡ true → first_of_rows ((large, TooLarge) ∷ (lacks, Exhausted) ∷ []) ≡ Some TooLarge
first_row large lacks a = rw a refl

second_row : (large lacks : Bool) → large ≡ false → lacks ≡ true → first_of_rows ((large, TooLarge) ∷ (lacks, Exhausted) ∷ []) ≡ Some Exhausted
second_row large lacks a b = rw (a, b) refl

no_row : (large lacks : Bool) → large ≡ false → lacks ≡ false → first_of_rows ((large, TooLarge) ∷ (lacks, Exhausted) ∷ []) ≡ None
no_row large lacks a b = rw (a, b) refl

last_none : (a b c d : Bool) (r : Option StationRefusal)
    → first_of_rows ((a, refusal.OwnAddress) ∷ (b, refusal.NotWritable) ∷ (c, refusal.NotWritable) ∷ (d, refusal.Exhausted) ∷ (is_some r, refusal.NotWritable) ∷ []) ≡ None → r ≡ None
last_none true b c d r e = absurd cc
last_none false true c d r e = absurd cc
last_none false false true d r e = absurd cc
last_none false false false true r e = absurd cc
last_none false false false false None e = refl
last_none false false false false (Some q) e = absurd cc

-- What is written, and its length.

pub icn_written : (me to : Party) (at : Moment) (book : Book) (texts : List Order) (w : WrittenInterchange) → w ≡ order_interchange me to at book texts → w.icn ≡ book.interchange
unfolding order_interchange
icn_written me to at book texts w is = ap (λ (v : WrittenInterchange). v.icn) is

orders_written : (me to : Party) (at : Moment) (book : Book) (texts : List Order) (w : WrittenInterchange) → w ≡ order_interchange me to at book texts → written w ≡ x12.orders me to at book texts
unfolding x12
orders_written me to at book texts w is = ap written is

-- under the numbers after the last ones, none above the greatest
pub next_written : (m : Cached) (to : Party) (at : Moment) (texts : List Order) (w : WrittenInterchange) (i a g b : ℕ)
    → i ≡ m.book.interchange → a ≡ min (i + 1) MAX_CONTROL_NUMBER → g ≡ m.book.group → b ≡ min (g + 1) MAX_CONTROL_NUMBER
    → w ≡ order_interchange m.me to at (record { interchange = a; group = b }) texts
    → written w ≡ x12.orders m.me to at (within_numbers (numbers_of_orders m)) texts
next_written m to at texts w i a g b i_is a_is g_is b_is is =
    orders_written m.me to at (record { interchange = a; group = b }) texts w is
    ∙ ap₂ (λ x y. x12.orders m.me to at (record { interchange = x; group = y }) texts)
    (a_is ∙ ap (λ n. min (n + 1) MAX_CONTROL_NUMBER) i_is) (b_is ∙ ap (λ n. min (n + 1) MAX_CONTROL_NUMBER) g_is)

pub is_large : (n r : ℕ) → r ≡ min n (2 ^ 64 - 1) → 1048576 < r → nat_lt 1048576 n ≡ true
is_large n r is more = let large : 1048576 < n = omega arith in grind (arith, nat_tests)

pub is_small : (n r : ℕ) → r ≡ min n (2 ^ 64 - 1) → r ≤ 1048576 → nat_lt 1048576 n ≡ false
is_small n r is few = let small : n ≤ 1048576 = omega arith in grind (arith, nat_tests)

-- The table, by what memory tells.
module _ (m : Cached) (s : Station) (knows : Knows m s) (to : Party) (at : Moment) (texts : List Order) where
  abbrev bytes : Bytes
  bytes = x12.orders m.me to at (within_numbers (numbers_of_orders m)) texts

  abbrev rest : Option StationFault
  rest = first_of_rows ((nat_lt 1048576 (length bytes), TooLarge) ∷ (lacks_number m, Exhausted) ∷ [])

  parted : orders_fault s to at texts ≡ option_or (orders_row m.me to texts) rest
  unfolding orders_fault
  parted =
      rw (knows.me, knows.book, knows.last)
      (six_rows (is_same_party to m.me) (length texts == 0) (not (is_plain_party to && list_all is_order texts)) (nat_lt 400 (length texts))
      (nat_lt 1048576 (length bytes)) (not (is_within (numbers_of_orders m))) (nat_le (2 ^ 63 - 1) m.seq))

  pub by_orders : (g : StationFault) → orders_row m.me to texts ≡ Some g → orders_fault s to at texts ≡ Some g
  by_orders g row = parted ∙ or_first (orders_row m.me to texts) rest g row

  module _ (fine : orders_row m.me to texts ≡ None) where
    behind : orders_fault s to at texts ≡ rest
    behind = parted ∙ or_second (orders_row m.me to texts) rest fine

    pub by_size : nat_lt 1048576 (length bytes) ≡ true → orders_fault s to at texts ≡ Some TooLarge
    by_size large = behind ∙ first_row (nat_lt 1048576 (length bytes)) (lacks_number m) large

    pub by_number : nat_lt 1048576 (length bytes) ≡ false → lacks_number m ≡ true → orders_fault s to at texts ≡ Some Exhausted
    by_number small lacks = behind ∙ second_row (nat_lt 1048576 (length bytes)) (lacks_number m) small lacks

    module _ (law : OrdersAreSubmitted) (plain : IsTrue (is_plain_party m.me)) (small : nat_lt 1048576 (length bytes) ≡ false) (left : lacks_number m ≡ false) where
      none_holds : orders_fault s to at texts ≡ None
      none_holds = behind ∙ no_row (nat_lt 1048576 (length bytes)) (lacks_number m) small left

      same_bytes : bytes ≡ written_orders x12 s to at texts
      same_bytes =
          let within = not-false (is_within (numbers_of_orders m)) (or_parts (not (is_within (numbers_of_orders m))) (nat_le (2 ^ 63 - 1) m.seq) left).0 in
          ap (λ b. x12.orders m.me to at b texts) (book_same (numbers_of_orders m) within)
          ∙ rw (knows.me, knows.book) refl

      pub ordered : (x : Bytes) → x ≡ bytes → IsOrdered s to at texts x
      ordered x is =
          let rows = (orders_empty law s to at texts (subst (λ p. IsTrue (is_plain_party p)) (sym knows.me) plain)).0 none_holds in
          let same = is ∙ same_bytes in
          let y = written_orders x12 s to at texts in
          let allowed = last_none (is_same_party to s.me) (not (x12.may_order to texts)) (not (x12.is_submission (x12.orders s.me to at (within_numbers (book_of_orders s)) texts)))
          (not (is_within (book_of_orders s))) (refusal.prepared_refusal x12 s y) rows.0 in
          record {
            written = same;
            orders = rows.0;
            prepared = subst (λ b. prepared_fault s b ≡ None) (sym same) ((prepared_empty s y).1 (allowed, rows.1));
          }

step_taken : (r : Option StationRefusal) (step : Option StationStep) → r ≡ None → (if is_none r then step else None) ≡ step
step_taken r step none = rw none refl

-- what is written of orders is submitted
pub orders_taken : (s : Station) (to : Party) (at : Moment) (texts : List Order) (x : Bytes) (t : Station) → IsOrdered s to at texts x → t ≡ entered x12 s x
    → submit_orders x12 s to at texts ≡ Some (record { station = t; sends = x ∷ [] })
orders_taken s to at texts x t is after =
    step_taken (orders_refusal x12 s to at texts) (submit x12 s (written_orders x12 s to at texts)) is.orders
    ∙ ap (submit x12 s) (sym is.written)
    ∙ submit_taken s x x t is.prepared after refl

pub orders_held : (s : Station) (to : Party) (at : Moment) (texts : List Order) (x : Bytes) (d : Stored) → IsOrdered s to at texts x → HoldsState (entered x12 s x) d → HoldsStep (submit_orders x12 s to at texts) d
orders_held s to at texts x d is holds = subst (λ step. HoldsStep step d) (sym (orders_taken s to at texts x (entered x12 s x) is refl)) holds
