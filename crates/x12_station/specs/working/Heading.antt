-- The digits of the headers of orders.
use Rattle.std.specs.Prelude.{◌≡◌, ℕ, List, map, decimal}
use Rattle.std.specs.List.{enumerate_from}
use Rattle.x12_envelopes.specs.Byte.{zero_padded_number}
use Rattle.x12_envelopes.specs.declared.moment.Moment.{Moment}
use Rattle.x12_profile.specs.Interchange.{Order}
use Rattle.x12_station.specs.declared.heading.Digits.{Digits}

-- ST02 of an order by its place, in four digits
abbrev pub set_number : ℕ × Order → List ℕ
set_number place = zero_padded_number 4 place.0

-- the digits in GS and ST of these orders: date, time and number of the group, and each set's number
pub record AreDigits (at : Moment) (gcn : ℕ) (texts : List Order) (d : Digits) : Type 0 where
  pub date : d.date ≡ at.date
  pub time : d.time ≡ at.time
  pub group : d.group.items ≡ decimal gcn
  pub sets : d.sets.items ≡ map set_number (enumerate_from 1 texts)
