-- What the row of a station's numbers says.
use Rattle.std.specs.Prelude.{if◌then◌else◌, ◌≤◌, ◌==◌, nat_lt, ◌∷◌, [], ℕ, List}
use Rattle.sqlite.specs.declared.types.Value.{Value}
use Rattle.sqlite.specs.declared.types.Value.TheVariants.{Blob}
use Rattle.sqlite.specs.Order.{Row, column}
use Rattle.sql_rows.specs.Keyed.{number_in}
use Rattle.x12_envelopes.specs.declared.party.Party.{Party}
use Rattle.x12_numbers.specs.Book.{Numbers}
use Rattle.x12_station.specs.Record.{owner_view}
use Rattle.x12_station.specs.Stored.{Origin, Stored}
use Rattle.x12_tables.specs.Party.{party_in, bytes_in}
use Rattle.x12_station_records.specs.declared.station_numbers.NumbersRow.{NumbersRow}

-- The versions of a station's tables: from 1, in which each arrival is read as before acknowledgments
-- were noted; by 2, whose own mark says which are, and in which each arrival is judged as before the
-- edition changed; to 3, both of whose marks say so.
abbrev pub first_version : ℕ
first_version = 1

abbrev pub newest_version : ℕ
newest_version = 3

-- Up to which number an arrival is read as before acknowledgments were noted, and judged as before the
-- edition changed, by the version of the tables, their last number, and the row's own mark.
abbrev pub noted_by : ℕ → ℕ → ℕ → ℕ
noted_by version seq noted = if version == 1 then seq else noted

abbrev pub era_by : ℕ → ℕ → ℕ → ℕ
era_by version seq era = if nat_lt version 3 then seq else era

-- whose the records are, the last control numbers, the last number of a submission or first arrival,
-- and how many postings were handed over
pub record KeptNumbers : Type 0 where
  pub origin : Origin
  pub book : Numbers
  pub seq : ℕ
  pub handed : ℕ

-- those of records, and those of the code's value
abbrev pub numbers_kept_of : Stored → KeptNumbers
numbers_kept_of s = record { origin = s.origin; book = s.book; seq = s.seq; handed = s.handed }

abbrev pub numbers_view : NumbersRow → KeptNumbers
numbers_view n = record {
  origin = record (owner_view n.owner) {
    noted = noted_by n.version n.seq n.owner.noted;
    era = era_by n.version n.seq n.owner.era;
  };
  book = n.book;
  seq = n.seq;
  handed = n.handed;
}

-- What is read as before acknowledgments were noted is judged as before the edition changed, and no
-- number to come is.
pub record AreMarked (n : KeptNumbers) : Type 0 where
  pub noted : n.origin.noted ≤ n.origin.era
  pub era : n.origin.era ≤ n.seq

-- the second hub in a value, if there is one
abbrev pub other_in : Value → List Party
other_in (Blob b) = party_in b ∷ []
other_in _ = []

-- those in a row of all columns
abbrev pub numbers_shown : Row → KeptNumbers
numbers_shown r = record {
  origin = record {
    me = party_in (bytes_in (column r 2));
    hubs = party_in (bytes_in (column r 3)) ∷ other_in (column r 4);
    noted = noted_by (number_in (column r 1)) (number_in (column r 7)) (number_in (column r 9));
    era = era_by (number_in (column r 1)) (number_in (column r 7)) (number_in (column r 10));
  };
  book = record { interchange = number_in (column r 5); group = number_in (column r 6) };
  seq = number_in (column r 7);
  handed = number_in (column r 8);
}
