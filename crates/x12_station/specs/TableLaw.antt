-- Each table of S-numbers names the row by which the definition of the event refuses it, and none
-- where the definition takes the step and a number is left for what takes one.
use Rattle.std.specs.Prelude.{◌≡◌, ◌&&◌, Bool, List, [], ◌∷◌, Option, Some, None, IsTrue, option_map}
use Rattle.std.specs.Option.{option_or}
use Rattle.x12_envelopes.specs.declared.party.Party.{Party}
use Rattle.x12_envelopes.specs.declared.moment.Moment.{Moment}
use Rattle.x12_envelopes.specs.Party.{is_plain_party}
use Rattle.x12_envelopes.specs.Row.{first_of_rows}
use Rattle.x12_profile.specs.Interchange.{Bytes, Order}
use Rattle.x12_profile.specs.X12.{x12}
use Rattle.x12_station.specs.declared.fault.StationFault.{StationFault}
use Rattle.x12_station.specs.declared.fault.StationFault.TheVariants as fault
use Rattle.x12_station.specs.Fault.{prepared_fault, orders_fault, arrival_fault, has_no_item_left, takes_item}
use Rattle.x12_station.specs.History.{filed}
use Rattle.x12_station.specs.Station.{Station}
use Rattle.x12_station.specs.StationRefusal.{StationRefusal, prepared_refusal, orders_refusal, arrival_refusal}
use Rattle.x12_station.specs.StationRefusal as refusal

-- the row that a fault names; want of memory and records that fail are no row
abbrev pub row_of_fault : StationFault → Option StationRefusal
row_of_fault fault.OwnAddress = Some refusal.OwnAddress
row_of_fault fault.Empty = Some refusal.NotSubmission
row_of_fault fault.BadText = Some refusal.NotWritable
row_of_fault (fault.BadHeader h) = Some refusal.BadHeader
row_of_fault fault.NotMine = Some refusal.NotMine
row_of_fault (fault.Shape o) = Some refusal.NotSubmission
row_of_fault fault.Acknowledgments = Some refusal.NotSubmission
row_of_fault fault.SetTwice = Some refusal.NotSubmission
row_of_fault fault.TooLarge = Some refusal.NotWritable
row_of_fault fault.NotNew = Some refusal.NotNew
row_of_fault fault.Exhausted = Some refusal.Exhausted
row_of_fault (fault.Unreadable h) = Some refusal.Unreadable
row_of_fault fault.Store = None
row_of_fault fault.Memory = None

-- of orders, S2 is that there is none
abbrev pub row_of_orders_fault : StationFault → Option StationRefusal
row_of_orders_fault fault.Empty = Some refusal.NotWritable
row_of_orders_fault fault = row_of_fault fault

-- the definition's row, or else that no number of a submission or first arrival is left
abbrev pub row_or_spent : Option StationRefusal → Bool → Option StationRefusal
row_or_spent row none_left = option_or row (first_of_rows ((none_left, refusal.Exhausted) ∷ []))

-- of prepared bytes
abbrev pub PreparedTable : Type 0
PreparedTable =
    (s : Station) (x : Bytes) →
    option_map row_of_fault (prepared_fault s x)
    ≡ option_map Some (row_or_spent (prepared_refusal x12 s x) (has_no_item_left s))

-- of orders, at a station with a plain address
abbrev pub OrdersTable : Type 0
OrdersTable =
    (s : Station) (to : Party) (at : Moment) (texts : List Order) → IsTrue (is_plain_party s.me) →
    option_map row_of_orders_fault (orders_fault s to at texts)
    ≡ option_map Some (row_or_spent (orders_refusal x12 s to at texts) (has_no_item_left s))

-- of arriving bytes
abbrev pub ArrivalTable : Type 0
ArrivalTable =
    (s : Station) (b : Bytes) →
    let found = filed x12 s.items (x12.sender b) (x12.number b) in
    option_map row_of_fault (arrival_fault s b)
    ≡ option_map Some (row_or_spent (arrival_refusal x12 s b) (takes_item found && has_no_item_left s))
