-- What the tables of a station's records hold.
use Rattle.std.specs.Prelude.{◌≡◌, ◌<◌, ◌≤◌, ◌^◌, ℕ, pos, Bool, true, false, length, List, [], ◌∷◌, map, flat_map, Option, Some, option_to_list, AllPairs, None}
use Rattle.std.specs.List.{AllByRecursion, enumerate_from}
use Rattle.std.specs.List.Sorted.{IsPermutation}
use Rattle.sqlite.specs.declared.types.Value.{Value}
use Rattle.sqlite.specs.declared.types.Value.TheVariants.{Null, Int, Blob}
use Rattle.sqlite.specs.Effect.{Database}
use Rattle.sqlite.specs.Order.{Row}
use Rattle.sql_rows.specs.Keyed.{with_id, AreRows}
use Rattle.x12_acks.specs.Accepted.{AcceptedSet}
use Rattle.x12_envelopes.specs.Byte.{text_has_length}
use Rattle.x12_envelopes.specs.declared.party.Party.{Party}
use Rattle.x12_judge.specs.Agreement.{TradingAgreement}
use Rattle.x12_numbers.specs.Book.{Numbers}
use Rattle.x12_numbers.specs.declared.book.TheConstants.{MAX_CONTROL_NUMBER}
use Rattle.x12_outbound.specs.declared.fate.Fate.{Fate}
use Rattle.x12_station.specs.Stored.{Stored, StoredSubmission, StoredSet, StoredArrival}
use Rattle.x12_station.specs.declared.records.Owner.{Owner}
use Rattle.x12_tables.specs.Party.{bytes_of_party, IsWideParty}
use Rattle.x12_station_records.specs.StationNumbers.{KeptNumbers, newest_version, numbers_view, numbers_kept_of}
use Rattle.x12_station_records.specs.StationSchema.{station_schema}
use Rattle.x12_station_records.specs.declared.station_numbers.NumbersRow.{NumbersRow}
use Rattle.x12_outbound.specs.declared.fate.Fate.TheVariants.{Pending, Accepted, Noted, Rejected}

-- Each row is its key, NULL in the key's own column, and the other columns.
abbrev pub other_value : Option Party → Value
other_value None = Null
other_value (Some party) = Blob (bytes_of_party party)

-- the version of the tables, whose the records are, the last control numbers, the last number of a
-- submission or first arrival, how many postings were handed over, and up to which numbers an arrival
-- is read as before
abbrev pub numbers_row : NumbersRow → Row
numbers_row n =
    Null ∷ Int (pos n.version) ∷ Blob (bytes_of_party n.owner.party) ∷ Blob (bytes_of_party n.owner.hub)
    ∷ other_value n.owner.other ∷ Int (pos n.book.interchange) ∷ Int (pos n.book.group)
    ∷ Int (pos n.seq) ∷ Int (pos n.handed) ∷ Int (pos n.owner.noted) ∷ Int (pos n.owner.era) ∷ []

-- each party has its widths
abbrev pub AreWideParties : Owner → Type 0
AreWideParties o = AllByRecursion IsWideParty (o.party ∷ o.hub ∷ option_to_list o.other)

-- a pair of an agreement: its partner, whether the agreement is lenient, GS01 and ST01
pub record AgreedPair : Type 0 where
  pub partner : Party
  pub lenient : Bool
  pub functional : List ℕ
  pub set : List ℕ

-- the pairs of agreements, in their order
abbrev pub pair_of : Party → Bool → List ℕ × List ℕ → AgreedPair
pair_of partner lenient p = record {
  partner = partner;
  lenient = lenient;
  functional = p.0;
  set = p.1;
}

abbrev pub agreed_pairs : List TradingAgreement → List AgreedPair
agreed_pairs agreements = flat_map (λ a. map (pair_of a.partner a.lenient) a.pairs) agreements

-- 1 where an agreement is lenient, 0 where it is strict
abbrev pub lenient_number : Bool → ℕ
lenient_number false = 0
lenient_number true = 1

abbrev pub pair_row : AgreedPair → Row
pair_row p =
    Null ∷ Blob (bytes_of_party p.partner) ∷ Blob p.functional
    ∷ Int (pos (lenient_number p.lenient)) ∷ Blob p.set ∷ []

-- a submission, under its control number
abbrev pub submission_row : StoredSubmission → Row
submission_row r =
    Null ∷ Int (pos r.seq) ∷ Blob (bytes_of_party r.receiver) ∷ Blob r.bytes ∷ []

abbrev pub by_icn : StoredSubmission → ℕ × StoredSubmission
by_icn r = (r.icn, r)

abbrev pub fate_number : Fate → ℕ
fate_number Pending = 0
fate_number Accepted = 1
fate_number Rejected = 2
fate_number Noted = 3

-- a transaction set of a submission
abbrev pub row_of_set : StoredSet → Row
row_of_set t =
    Null ∷ Int (pos t.icn) ∷ Int (pos t.group) ∷ Int (pos t.set) ∷ Int (pos t.gcn)
    ∷ Blob t.functional ∷ Blob t.number ∷ Int (pos (fate_number t.fate)) ∷ []

abbrev pub reply_value : Option (List ℕ) → Value
reply_value None = Null
reply_value (Some reply) = Blob reply

-- a first arrival, under its number among submissions and first arrivals
abbrev pub arrival_row : StoredArrival → Row
arrival_row r =
    Null ∷ Blob (bytes_of_party r.filed.partner) ∷ Int (pos r.filed.icn)
    ∷ reply_value r.filed.reply ∷ Blob r.filed.bytes ∷ []

abbrev pub by_seq : StoredArrival → ℕ × StoredArrival
by_seq r = (r.seq, r)

-- a posting
abbrev pub posting_row : AcceptedSet → Row
posting_row p =
    Null ∷ Blob (bytes_of_party p.key.sender) ∷ Int (pos p.key.icn) ∷ Int (pos p.key.group)
    ∷ Int (pos p.key.set) ∷ Blob p.functional ∷ Blob p.set ∷ Blob p.number ∷ Blob p.bytes ∷ []

-- a pair's partner has its widths, and its codes have two and three bytes
abbrev pub IsWidePair : AgreedPair → Type 0
IsWidePair p = IsWideParty p.partner × (length p.functional ≡ 2) × (length p.set ≡ 3)

-- a transaction set's codes have their widths
pub record IsWideSet (t : StoredSet) : Type 0 where
  pub functional : length t.functional ≡ 2
  pub number : text_has_length 4 9 t.number ≡ true

-- a posting's numbers and codes have their widths
pub record IsWidePosting (p : AcceptedSet) : Type 0 where
  pub icn : p.key.icn < 2 ^ 32
  pub places : (p.key.group < 2 ^ 16) × (p.key.set < 2 ^ 16)
  pub codes : (length p.functional ≡ 2) × (length p.set ≡ 3)
  pub number : text_has_length 4 9 p.number ≡ true

-- control numbers that can be used, or 0
abbrev pub CanBeUsed : Numbers → Type 0
CanBeUsed book = (book.interchange ≤ MAX_CONTROL_NUMBER) × (book.group ≤ MAX_CONTROL_NUMBER)

-- the row says these numbers, in tables of this version
pub record HoldsNumbersRow (version : ℕ) (n : KeptNumbers) (rows : List Row) : Type 0 where
  pub row : NumbersRow
  pub version_is : row.version ≡ version
  pub are : AreRows numbers_row ((1, row) ∷ []) rows
  pub said : numbers_view row ≡ n
  pub parties : AreWideParties row.owner
  pub book : CanBeUsed n.book

-- the rows are the pairs of the agreements in their order, numbered upwards from 1, each below the
-- next number
pub record HoldsAgreements (next : ℕ) (agreements : List TradingAgreement) (rows : List Row)
    : Type 0 where
  pub at : List (ℕ × AgreedPair)
  pub are : AreRows pair_row at rows
  pub counted : 0 < next
  pub few : next < 2 ^ 64
  pub within : AllByRecursion (λ x. x.0 < next) at
  pub pairs_are : map (λ x. x.1) at ≡ agreed_pairs agreements
  pub parties : AllByRecursion (λ a. IsWideParty a.partner) agreements
  pub wide : AllByRecursion IsWidePair (agreed_pairs agreements)

-- the rows are the submissions, whose control numbers rise from above 0
pub record HoldsSubmissions (submitted : List StoredSubmission) (rows : List Row) : Type 0 where
  pub same : IsPermutation rows (map (with_id submission_row) (map by_icn submitted))
  pub rise : AllPairs (λ r q. r.icn < q.icn) submitted
  pub numbered : AllByRecursion (λ r. 0 < r.icn) submitted
  pub parties : AllByRecursion (λ r. IsWideParty r.receiver) submitted

-- the rows are the first arrivals, whose numbers rise; their control numbers have 32 bits
pub record HoldsArrivals (arrived : List StoredArrival) (rows : List Row) : Type 0 where
  pub are : AreRows arrival_row (map by_seq arrived) rows
  pub parties : AllByRecursion (λ r. IsWideParty r.filed.partner) arrived
  pub narrow : AllByRecursion (λ r. r.filed.icn < 2 ^ 32) arrived

-- the rows are the postings, under their places from 1, which SQLite has as integers
pub record HoldsPostings (postings : List AcceptedSet) (rows : List Row) : Type 0 where
  pub are : AreRows posting_row (enumerate_from 1 postings) rows
  pub few : length postings < 2 ^ 63
  pub parties : AllByRecursion (λ p. IsWideParty p.key.sender) postings
  pub wide : AllByRecursion IsWidePosting postings

-- The tables of this version hold these records: one row of numbers, the agreements, the submissions
-- and their transaction sets under their places from 1, the first arrivals and their postings.
pub record HasTablesOf (version next : ℕ) (db : Database) (s : Stored) : Type 0 where
  pub schema : db.schema ≡ station_schema
  pub numbers : HoldsNumbersRow version (numbers_kept_of s) (db.trees 0)
  pub agreements : HoldsAgreements next s.agreements (db.trees 1)
  pub submitted : HoldsSubmissions s.submitted (db.trees 3)
  pub sets : AreRows row_of_set (enumerate_from 1 s.sets) (db.trees 4)
  pub wide : AllByRecursion IsWideSet s.sets
  pub arrived : HoldsArrivals s.arrived (db.trees 6)
  pub postings : HoldsPostings s.postings (db.trees 8)

-- the same, of the newest version
abbrev pub HasTables : ℕ → Database → Stored → Type 0
HasTables = HasTablesOf newest_version
