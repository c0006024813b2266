-- What a question to a station's records answers.
use Rattle.std.specs.Prelude.{Result}
use Rattle.sqlite.specs.State.{State}
use Rattle.x12_station.specs.Stored.{Stored}
use Rattle.x12_tables.specs.Read.{Answers}
use Rattle.x12_station_records.specs.StationContent.{IsValid, content_of}
use Rattle.x12_station_records.specs.declared.station_committing.NextRows.{NextRows}

-- they are valid, with some numbers for the next rows
abbrev pub HasValid : State → Type 0
HasValid s = (next : NextRows) × IsValid next s

-- A question to a station's records: while the store is open, the answer fits what they hold.
abbrev pub StationAnswers : {A E : Type 0} → (Stored → A → Type 0) → Result A E → State → State → Type 0
StationAnswers Fits r old new = Answers HasValid (λ db. Fits (content_of db)) r old new
