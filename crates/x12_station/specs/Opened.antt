-- A station as it is when it is opened over records, or restarted: what the records hold, with each
-- open submission due at once.
use Rattle.std.specs.Prelude.{◌≡◌, [], List}
use Rattle.x12_envelopes.specs.declared.party.Party.{Party}
use Rattle.x12_outbound.specs.Counts.{only_unclear}
use Rattle.x12_profile.specs.X12.{x12}
use Rattle.x12_station.specs.Station.{Station}
use Rattle.x12_station.specs.StationStep.{restarted}
use Rattle.x12_station.specs.Stored.{Stored, marks_of}
use Rattle.x12_station.specs.Durable.{items_of}

-- what the records hold of a station, which has seen no tick and sent nothing
abbrev pub kept_state : Party → List Party → Stored → Station
kept_state me hubs s = record {
  me = me;
  hubs = hubs;
  marks = marks_of s.origin;
  items = items_of s;
  agreements = s.agreements;
  book = s.book;
  tick = 0;
  sendings = [];
  counts = only_unclear 0;
}

-- the station over these records
abbrev pub opened : Party → List Party → Stored → Station
opened me hubs s = restarted x12 (kept_state me hubs s)

-- records hold what a restart of the station keeps
pub record HoldsState (state : Station) (s : Stored) : Type 0 where
  pub marks : marks_of s.origin ≡ state.marks
  pub items : items_of s ≡ state.items
  pub agreements : s.agreements ≡ state.agreements
  pub book : s.book ≡ state.book
