-- Orders that a station writes before they are entered.
use Rattle.std.specs.Prelude.{◌≡◌, ℕ, false, List, [], ◌∷◌, length, not, ◌&&◌, ◌||◌, ◌==◌, nat_le, nat_lt}
use Rattle.std.specs.Prelude.{Bool, true, Option, None, ◌-◌, ◌^◌}
use Rattle.std.specs.List.{list_all}
use Rattle.x12_envelopes.specs.declared.moment.Moment.{Moment}
use Rattle.x12_envelopes.specs.declared.party.Party.{Party}
use Rattle.x12_envelopes.specs.Byte.{zero_padded_number}
use Rattle.x12_envelopes.specs.Party.{is_plain_party}
use Rattle.x12_envelopes.specs.Row.{first_of_rows}
use Rattle.x12_judge.specs.Agreement.{is_same_party}
use Rattle.x12_outbound.specs.declared.fate.Fate.TheVariants.{Pending}
use Rattle.x12_outbound.specs.Entry.{SetRow}
use Rattle.x12_profile.specs.Interchange.{Book, Bytes, Order, book_for, is_within}
use Rattle.x12_profile.specs.Order.{is_order}
use Rattle.x12_profile.specs.X12.{x12}
use Rattle.x12_station.specs.declared.fault.StationFault.{StationFault}
use Rattle.x12_station.specs.declared.fault.StationFault.TheVariants.{OwnAddress, Empty, BadText}
use Rattle.x12_station.specs.declared.fault.StationFault.TheVariants.{TooLarge}
use Rattle.x12_station.specs.declared.cached.Cached.{Cached}
use Rattle.x12_station.specs.Fault.{prepared_fault}
use Rattle.x12_station.specs.Station.{Station}
use Rattle.x12_station.specs.StationRefusal.{orders_refusal, written_orders}

-- the rows on the receiver and on the orders, before they are written
abbrev pub orders_row : Party → Party → List Order → Option StationFault
orders_row me to texts = first_of_rows (
    (is_same_party to me, OwnAddress)
    ∷ (length texts == 0, Empty)
    ∷ (not (is_plain_party to && list_all is_order texts), BadText)
    ∷ (nat_lt 400 (length texts), TooLarge)
    ∷ [])

-- the numbers under which the next orders are written
abbrev pub numbers_of_orders : Cached → Book
numbers_of_orders m = book_for m.book (record { reply = true; group = true })

-- no number is left: one to write under would be too great, or the last number of a submission was
-- given
abbrev pub lacks_number : Cached → Bool
lacks_number m = not (is_within (numbers_of_orders m)) || nat_le (2 ^ 63 - 1) m.seq

-- the bytes are what the station writes of the orders, which it may submit
pub record IsOrdered (s : Station) (to : Party) (at : Moment) (texts : List Order) (x : Bytes) :
    Type 0 where
  pub written : x ≡ written_orders x12 s to at texts
  pub orders : orders_refusal x12 s to at texts ≡ None
  pub prepared : prepared_fault s x ≡ None

-- what is entered of an order, by its place: a transaction set under its own number, which is pending
abbrev pub pending_order : ℕ × Order → SetRow
pending_order place = record {
  number = zero_padded_number 4 place.0;
  fate = Pending;
  is_out = false;
}
