-- Why a station refuses an event: a table for each, with all that the bytes tell. The first row that
-- holds counts. Where memory is missing (S14) or the records fail (S13), no definition tells.
use Rattle.std.specs.Prelude.{◌≡◌, ◌-◌, ◌^◌, List, [], ◌∷◌, length, Bool, true, false, ◌&&◌, ◌||◌, not, ◌==◌, nat_le, nat_lt, option_map, Option, None, Some, Result, Ok, Err}
use Rattle.std.specs.List.{list_all}
use Rattle.std.specs.Option.{option_or}
use Rattle.x12_envelopes.specs.declared.header.Header.{Header}
use Rattle.x12_envelopes.specs.declared.header.HeaderFault.{HeaderFault}
use Rattle.x12_envelopes.specs.declared.moment.Moment.{Moment}
use Rattle.x12_envelopes.specs.declared.party.Party.{Party}
use Rattle.x12_envelopes.specs.Header.{header_of}
use Rattle.x12_envelopes.specs.Party.{is_plain_party}
use Rattle.x12_envelopes.specs.Row.{first_of_rows}
use Rattle.x12_judge.specs.Agreement.{is_same_party}
use Rattle.x12_profile.specs.Interchange.{Bytes, Order, is_within}
use Rattle.x12_profile.specs.Order.{is_order}
use Rattle.x12_profile.specs.X12.{x12}
use Rattle.x12_outbound.specs.declared.submitting.SubmitFault.{SubmitFault}
use Rattle.x12_outbound.specs.declared.submitting.SubmitFault.TheVariants as submit
use Rattle.x12_outbound.specs.Submitting.{submit_fault}
use Rattle.x12_station.specs.declared.fault.StationFault.{StationFault}
use Rattle.x12_station.specs.declared.fault.StationFault.TheVariants.{OwnAddress, Empty, BadText, BadHeader, NotMine, Shape, Acknowledgments, SetTwice, TooLarge, NotNew, Exhausted, Unreadable, Store, Memory}
use Rattle.x12_station.specs.declared.records.StoreFault.{StoreFault}
use Rattle.x12_station.specs.declared.records.StoreFault.TheVariants as records
use Rattle.x12_station.specs.History.{KeptArrival, filed}
use Rattle.x12_station.specs.Station.{Station}
use Rattle.x12_station.specs.StationRefusal.{book_of_orders, within_numbers, is_spent, arrival_takes}

-- a call's fault is the table's row; want of memory and a failure of the records may come anywhere
abbrev pub IsRowOrWant : Option StationFault → StationFault → Type 0
IsRowOrWant row Store = Unit {0}
IsRowOrWant row Memory = Unit {0}
IsRowOrWant row fault = row ≡ Some fault

-- what a station says where its records answer nothing
abbrev pub fault_of_records : StoreFault → StationFault
fault_of_records records.Device = Store
fault_of_records records.Memory = Memory

-- the records failed, or missed memory: no table tells
abbrev pub IsOfRecords : StationFault → Type 0
IsOfRecords fault = (row : Option StationFault) → IsRowOrWant row fault

-- the last number that a submission or a first arrival can have was given
abbrev pub has_no_item_left : Station → Bool
has_no_item_left s = nat_le (2 ^ 63 - 1) (length s.items)

-- Prepared bytes.

-- what a station says where they may not be submitted
abbrev pub fault_of_submitting : SubmitFault → StationFault
fault_of_submitting submit.OwnAddress = OwnAddress
fault_of_submitting submit.Empty = Empty
fault_of_submitting (submit.BadHeader fault) = BadHeader fault
fault_of_submitting submit.NotMine = NotMine
fault_of_submitting (submit.Shape fault) = Shape fault
fault_of_submitting submit.Acknowledgments = Acknowledgments
fault_of_submitting submit.SetTwice = SetTwice
fault_of_submitting submit.NotNew = NotNew
fault_of_submitting submit.Memory = Memory

-- the last row of each table: no number of a submission or first arrival is left
abbrev pub item_fault : Bool → Option StationFault
item_fault none_left = first_of_rows ((none_left, Exhausted) ∷ [])

unfoldable pub prepared_fault : Station → Bytes → Option StationFault
prepared_fault s x =
    option_or (option_map fault_of_submitting (submit_fault s.me s.book x))
    (item_fault (has_no_item_left s))

-- Orders. Their size is measured under numbers that may be written.
unfoldable pub orders_fault : Station → Party → Moment → List Order → Option StationFault
orders_fault s to at texts = first_of_rows (
    (is_same_party to s.me, OwnAddress)
    ∷ (length texts == 0, Empty)
    ∷ (not (is_plain_party to && list_all is_order texts), BadText)
    ∷ (
      nat_lt 400 (length texts)
          || nat_lt 1048576 (length (x12.orders s.me to at (within_numbers (book_of_orders s)) texts)),
      TooLarge,
    )
    ∷ (not (is_within (book_of_orders s)), Exhausted)
    ∷ (has_no_item_left s, Exhausted)
    ∷ [])

-- Arriving bytes.

-- whether they take a number among submissions and first arrivals
abbrev pub takes_item : Option KeptArrival → Bool
takes_item None = true
takes_item (Some f) = false

-- what is said of them once ISA is read
abbrev pub numbers_fault : Station → Bytes → Option KeptArrival → Option StationFault
numbers_fault s b found = first_of_rows (
    (is_spent s.book (arrival_takes x12 s b found), Exhausted)
    ∷ (takes_item found && has_no_item_left s, Exhausted)
    ∷ [])

abbrev pub arrived_fault : Station → Bytes → Result Header HeaderFault → Option StationFault
arrived_fault s b (Err fault) = Some (Unreadable fault)
arrived_fault s b (Ok h) = numbers_fault s b (filed x12 s.items h.sender h.icn)

unfoldable pub arrival_fault : Station → Bytes → Option StationFault
arrival_fault s b = arrived_fault s b (header_of b)
