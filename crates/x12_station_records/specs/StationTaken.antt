-- Which rows of a station's tables are taken over, and what a station left.
use Rattle.std.specs.Prelude.{◌≡◌, ◌≢◌, ◌⊎◌, ◌<◌, ◌≤◌, ◌+◌, ◌^◌, ℕ, zero, suc, pos, false, IsTrue, List, [], ◌∷◌, map, take, drop, length}
use Rattle.std.specs.List.{AllByRecursion}
use Rattle.sqlite.specs.declared.types.Value.{Value}
use Rattle.sqlite.specs.declared.types.Value.TheVariants.{Null, Int}
use Rattle.sqlite.specs.Effect.{Database}
use Rattle.sqlite.specs.Order.{Row, column}
use Rattle.sqlite.specs.State.{State}
use Rattle.sql_rows.specs.Keyed.{number_in}
use Rattle.sqlite_disk.specs.Disk.{MoreFaults}
use Rattle.x12_envelopes.specs.declared.party.Party.{Party}
use Rattle.x12_numbers.specs.Book.{Numbers}
use Rattle.x12_numbers.specs.declared.book.TheConstants.{MAX_CONTROL_NUMBER}
use Rattle.x12_station.specs.Stored.{IsSound}
use Rattle.x12_tables.specs.Adopt.{IsLong, IsAtRest}
use Rattle.x12_tables.specs.OneRow.{IsOfVersions}
use Rattle.x12_tables.specs.Party.{IsParty, bytes_in}
use Rattle.x12_tables.specs.declared.fault.RecordsFault.{RecordsFault}
use Rattle.x12_tables.specs.declared.fault.RecordsFault.TheVariants.{Memory, OldVersion, OtherParty}
use Rattle.x12_station_records.specs.StationAdopt.{IsLenient, IsOriginOf, IsSetNumber, IsFate, IsNumber, AreOfOne, set_read, AreOfAll}
use Rattle.x12_station_records.specs.StationAgreed.{AreKept, pair_shown}
use Rattle.x12_station_records.specs.StationContent.{agreements_of, content_of}
use Rattle.x12_station_records.specs.StationGroups.{StandBehind, no_set, set_shown}
use Rattle.x12_station_records.specs.StationNumbers.{AreMarked, KeptNumbers, newest_version, numbers_kept_of}
use Rattle.x12_station_records.specs.StationPlan.{HoldsRowsOf}
use Rattle.x12_station_records.specs.StationSchema.{station_schema}
use Rattle.x12_station_records.specs.declared.station_committing.NextRows.{NextRows}

-- a value is a control number that can be used, or 0
abbrev pub IsControlNumber : Value → Type 0
IsControlNumber v = (n : ℕ) × (v ≡ Int (pos n)) × (n ≤ MAX_CONTROL_NUMBER)

-- a row of all columns tells whose the records are
pub record TellsOwner (r : Row) : Type 0 where
  pub party : IsParty (column r 2)
  pub hub : IsParty (column r 3)
  pub other : (column r 4 ≡ Null) ⊎ IsParty (column r 4)
  pub noted : IsLong (column r 9)
  pub era : IsLong (column r 10)

-- a row of all columns has numbers of their widths
pub record IsNumbersRow (r : Row) : Type 0 where
  pub owner : TellsOwner r
  pub icn : IsControlNumber (column r 5)
  pub gcn : IsControlNumber (column r 6)
  pub seq : (n : ℕ) × (column r 7 ≡ Int (pos n)) × (n < 2 ^ 63)
  pub handed : IsLong (column r 8)

-- there is one such row, of a version from this one to the newest
abbrev pub IsOneNumbersRow : ℕ → List Row → Type 0
IsOneNumbersRow oldest rows = IsOfVersions oldest newest_version rows × AllByRecursion IsNumbersRow rows

-- a row of a partner, GS01, ST01 and whether the agreement is lenient has values of their widths
pub record HasPair (r : Row) : Type 0 where
  pub partner : IsParty (column r 0)
  pub functional : length (bytes_in (column r 1)) ≡ 2
  pub set : length (bytes_in (column r 2)) ≡ 3
  pub lenient : IsLenient (column r 3)

-- such rows are those of agreements, one for a partner and each pair once
pub record ArePairsKept (rows : List Row) : Type 0 where
  pub pairs : AllByRecursion HasPair rows
  pub kept : AreKept (agreements_of (map pair_shown rows))

-- the rows of a table by these, each as the one before allows
abbrev pub AreChained : {X : Type 0} → (X → X → Row → Type 0) → X → List Row → Type 0
AreChained P last [] = Unit {0}
AreChained P last (r ∷ rows) = (x : _) × P last x r × AreChained P x rows

-- a row's columns of groups and transaction sets have their widths
pub record HasSetRow (r : Row) : Type 0 where
  pub group : IsNumber (column r 0)
  pub place : IsNumber (column r 1)
  pub functional : length (bytes_in (column r 2)) ≡ 2
  pub gcn : IsNumber (column r 3)
  pub number : IsSetNumber (column r 4)
  pub fate : IsFate (column r 5)
  pub icn : IsNumber (column r 6)

-- the rows are those of groups, each set behind the one before
pub record AreGroupRows (rows : List Row) : Type 0 where
  pub wide : AllByRecursion HasSetRow rows
  pub stand : StandBehind no_set (map (set_shown 0) rows)

-- the first row isn't that of this submission
abbrev pub IsOther : ℕ → List Row → Type 0
IsOther icn [] = Unit {0}
IsOther icn (r ∷ rows) = number_in (column r 6) ≢ icn

-- the numbers rise, from above the first
abbrev pub AreAbove : ℕ → List ℕ → Type 0
AreAbove last [] = Unit {0}
AreAbove last (n ∷ ns) = (last < n) × AreAbove n ns

-- rows of the transaction sets of one submission, of their widths
pub record AreRowsOfOne (book : Numbers) (icn least : ℕ) (rows : List Row) : Type 0 where
  pub wide : AllByRecursion HasSetRow rows
  pub next : ℕ
  pub one : AreOfOne book icn least next (map set_read rows)

-- so many rows at the front are those of one submission, the next one isn't
pub record BeginWithOne (book : Numbers) (icn least n next : ℕ) (rows : List Row) : Type 0 where
  pub one : AreOfOne book icn least next (map set_read (take n rows))
  pub other : IsOther icn (drop n rows)

-- rows of the transaction sets of these submissions, of their widths
pub record AreRowsOfAll (book : Numbers) (icns : List ℕ) (rows : List Row) : Type 0 where
  pub wide : AllByRecursion HasSetRow rows
  pub above : AreAbove 0 icns
  pub all : AreOfAll book 0 icns (map set_read rows)

-- what is left of the numbers of submissions and of first arrivals are so many numbers, from this one
-- on, each the first one left
abbrev pub AreInTurn : ℕ → ℕ → List ℕ → List ℕ → Type 0
AreInTurn zero next sent arrived = (sent ≡ []) × (arrived ≡ [])
AreInTurn (suc left) next sent arrived =
    ((rest : List ℕ) × (sent ≡ next ∷ rest) × AreInTurn left (next + 1) rest arrived)
    ⊎ ((rest : List ℕ) × (arrived ≡ next ∷ rest) × ((more : List ℕ) → sent ≢ next ∷ more)
    × AreInTurn left (next + 1) sent rest)

-- the tables, of some version, hold sound records of a station, whose marks are in their order
pub record HoldsStation (db : Database) : Type 0 where
  pub version : ℕ
  pub next : NextRows
  pub holds : HoldsRowsOf version next db (content_of db.trees)
  pub sound : IsSound (content_of db.trees)
  pub marked : AreMarked (numbers_kept_of (content_of db.trees))

-- the same, of a version from this one to the newest
abbrev pub HoldsStationFrom : ℕ → Database → Type 0
HoldsStationFrom oldest db =
    (h : HoldsStation db) × (oldest ≤ h.version) × (h.version ≤ newest_version)

-- the same, of this party at these hubs
abbrev pub HoldsStationOf : ℕ → Party → List Party → Database → Type 0
HoldsStationOf oldest party hubs db =
    HoldsStationFrom oldest db × IsOriginOf party hubs (content_of db.trees).origin

-- the same, with these numbers
abbrev pub HoldsStationBy : KeptNumbers → Database → Type 0
HoldsStationBy n db = HoldsStation db × (numbers_kept_of (content_of db.trees) ≡ n)

-- the same, with these last control numbers
abbrev pub HoldsBooked : Numbers → Database → Type 0
HoldsBooked book db = HoldsStation db × ((content_of db.trees).book ≡ book)

-- the same, with submissions of these control numbers
abbrev pub HoldsSubmitted : Numbers → List ℕ → Database → Type 0
HoldsSubmitted book icns db =
    HoldsBooked book db × (map (λ r. r.icn) (content_of db.trees).submitted ≡ icns)

-- the same, with so many submissions and first arrivals, and with submissions of these numbers
abbrev pub HoldsInTurn : ℕ → List ℕ → Database → Type 0
HoldsInTurn last seqs db = HoldsStation db × ((content_of db.trees).seq ≡ last)
    × (map (λ r. r.seq) (content_of db.trees).submitted ≡ seqs)

-- the same, with so many postings handed over
abbrev pub HoldsHanded : ℕ → Database → Type 0
HoldsHanded handed db = HoldsStation db × ((content_of db.trees).handed ≡ handed)

-- The tables are a station's, of the second version, which is older than the first: their one row says
-- that number, which is from 1.
pub record HoldsOlder (oldest version : ℕ) (db : Database) : Type 0 where
  pub schema : db.schema ≡ station_schema
  pub row : Row
  pub one : db.trees 0 ≡ row ∷ []
  pub version_is : column row 2 ≡ Int (pos version)
  pub older : (0 < version) × (version < oldest)

-- such tables were left in a database that is open, in no transaction, and without a limit of steps
pub record WereLeftOlder (oldest version : ℕ) (s : State) : Type 0 where
  pub ready : IsAtRest s
  pub outside : s.in_transaction ≡ false
  pub holds : HoldsOlder oldest version s.now

-- no transaction is open, and what is seen is committed
pub record IsOutside (s : State) : Type 0 where
  pub outside : s.in_transaction ≡ false
  pub settled : IsTrue s.is_open → s.now ≡ s.committed

-- a station left sound records of this party at these hubs, of a version from this one to the newest, in a
-- database that is open, in no transaction, and without a limit of steps
pub record WereLeftByStation (oldest : ℕ) (party : Party) (hubs : List Party) (s : State) : Type 0 where
  pub ready : IsAtRest s
  pub outside : s.in_transaction ≡ false
  pub holds : HoldsStationOf oldest party hubs s.now

-- What a refusal to take records over tells is so: they are another's, or of the older version that it
-- names.
pub record TellsRightly (oldest : ℕ) (party : Party) (hubs : List Party) (db : Database)
    (fault : RecordsFault) : Type 0 where
  pub other : (found wanted : Party) → fault ≡ OtherParty found wanted
      → IsOriginOf party hubs (content_of db.trees).origin → ⊥
  pub older : (version : ℕ) → fault ≡ OldVersion version → HoldsOlder oldest version db

-- Why what was left is refused: memory was missing, or the device failed in the call. Of an older
-- version that is told first, wherever it was read.
pub record RefusesLeft (oldest : ℕ) (party : Party) (hubs : List Party) (fault : RecordsFault)
    (old new : State) : Type 0 where
  pub own : WereLeftByStation oldest party hubs old
      → (fault ≡ Memory) ⊎ MoreFaults old.faults new.faults
  pub older : (version : ℕ) → WereLeftOlder oldest version old
      → (fault ≡ OldVersion version) ⊎ (fault ≡ Memory) ⊎ MoreFaults old.faults new.faults
