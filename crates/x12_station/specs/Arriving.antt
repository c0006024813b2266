-- What a station gives back of an arrival: what it was by what is filed, the reply, and what its
-- evidence did.
use Rattle.std.specs.Prelude.{◌≡◌, Option, None, Some, Ok, bytes_eq, if◌then◌else◌, true, false, option_to_list}
use Rattle.x12_envelopes.specs.declared.moment.Moment.{Moment}
use Rattle.x12_envelopes.specs.declared.header.Header.{Header}
use Rattle.x12_envelopes.specs.Header.{header_of}
use Rattle.x12_inbound.specs.Arrival.{Arrival as Arrived, arrival}
use Rattle.x12_inbound.specs.Filing.{reply_bytes}
use Rattle.x12_outbound.specs.declared.evidence.Counts.{Counts}
use Rattle.x12_outbound.specs.Counts.{only_unclear}
use Rattle.x12_profile.specs.Interchange.{Bytes, book_for}
use Rattle.x12_profile.specs.X12.{x12}
use Rattle.x12_station.specs.declared.arriving.Arrival.{Arrival}
use Rattle.x12_station.specs.declared.arriving.ArrivalKind.{ArrivalKind}
use Rattle.x12_station.specs.declared.arriving.ArrivalKind.TheVariants.{New, Same, Other}
use Rattle.x12_station.specs.Counts.{arrival_counts}
use Rattle.x12_station.specs.History.{KeptArrival, filed}
use Rattle.x12_station.specs.Station.{Station, edition_next}
use Rattle.x12_station.specs.StationStep.{StationStep, arrive, arrive_new, arrive_other}

-- new where nothing is filed under its sender and number; else the same bytes, or other ones
abbrev pub kind_of_arrival : Option KeptArrival → Bytes → ArrivalKind
kind_of_arrival None b = New
kind_of_arrival (Some f) b = if bytes_eq f.body b then Same else Other

-- the step to this station, sending the arrival's reply
abbrev pub step_to : Station → Arrival → StationStep
step_to s a = record { station = s; sends = option_to_list (reply_bytes a.reply) }

-- what its evidence did: nothing, where it is refused or isn't new
abbrev pub counts_told : Station → Option KeptArrival → Bytes → Counts
counts_told s None b =
    if x12.refuses (edition_next s) s.me b
    then only_unclear 0
    else arrival_counts x12 (edition_next s) s.me s.hubs s.items b
counts_told s (Some f) b = only_unclear 0

-- The station took the step of the definition, and says what arrived and what its evidence did.
pub record IsArrival (old new : Station) (at : Moment) (b : Bytes) (a : Arrival) : Type 0 where
  pub step : arrive x12 old at b ≡ Some (step_to new a)
  pub kind : a.kind ≡ kind_of_arrival (filed x12 old.items (x12.sender b) (x12.number b)) b
  pub counts : a.counts ≡ counts_told old (filed x12 old.items (x12.sender b) (x12.number b)) b

-- bytes of this header, that arrived from its sender under its number
pub record AreReadAs (b : Bytes) (h : Header) (a : Arrived) : Type 0 where
  pub header : header_of b ≡ Ok h
  pub arrived : a ≡ arrival h.sender h.icn b

-- the step of other bytes under a filed number, sending this reply
abbrev pub TakesOther : Station → Station → Moment → Bytes → Option Bytes → Type 0
TakesOther old new at b reply =
    arrive_other x12 old at b (book_for old.book (record { reply = true; group = false }))
    ≡ Some (record { station = new; sends = option_to_list reply })

-- the step of new bytes, sending this reply
abbrev pub TakesNew : Station → Station → Moment → Bytes → Option Bytes → Type 0
TakesNew old new at b reply =
    let needs = x12.needs (edition_next old) old.me old.agreements b in
    arrive_new x12 old at b (book_for old.book needs)
    ≡ Some (record { station = new; sends = option_to_list reply })
