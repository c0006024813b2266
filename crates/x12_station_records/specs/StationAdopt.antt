-- The rows of a station's tables, as they are read before records are taken over, and what they
-- tell.
use Rattle.std.specs.Prelude.{◌≡◌, ◌<◌, ◌≤◌, ◌+◌, ◌-◌, ◌^◌, ℕ, pos, true, max, List, [], ◌∷◌, ◌++◌, map, flat_map, take, drop, length, AllPairs, All, IsTrue}
use Rattle.std.specs.List.{enumerate_from, range_with_len, AllByRecursion}
use Rattle.std.specs.List.Sorted.{IsPermutation}
use Rattle.sqlite.specs.declared.types.Value.{Value}
use Rattle.sqlite.specs.declared.types.Value.TheVariants.{Int}
use Rattle.sqlite.specs.Effect.{Database}
use Rattle.sqlite.specs.Order.{Row, column}
use Rattle.sqlite.specs.State.{State}
use Rattle.sql_rows.specs.Keyed.{with_id, number_in, AreRows}
use Rattle.x12_envelopes.specs.Byte.{text_has_length}
use Rattle.x12_envelopes.specs.declared.party.Party.{Party}
use Rattle.x12_numbers.specs.Book.{Numbers}
use Rattle.x12_outbound.specs.Entry.{GroupRow, submission_of_entry}
use Rattle.x12_outbound.specs.Ledger.{AreInOrder}
use Rattle.x12_station.specs.Closed.{above_groups}
use Rattle.x12_station.specs.Record.{owner_view}
use Rattle.x12_station.specs.Stored.{Origin, Stored, StoredSet, IsSound, entries, rows_of_entry, HasSets, IsNumberedBy}
use Rattle.x12_tables.specs.Adopt.{ObeysSchema}
use Rattle.x12_tables.specs.OneRow.{whole, IsOneRow}
use Rattle.x12_tables.specs.Party.{bytes_in, IsParty}
use Rattle.x12_station_records.specs.StationAgreed.{AreKept, pair_shown}
use Rattle.x12_station_records.specs.StationContent.{fate_numbered, lenient_numbered, agreements_of, content_of}
use Rattle.x12_station_records.specs.StationGroups.{set_shown, AreWhole, AreSendable, rows_of_groups}
use Rattle.x12_station_records.specs.StationNumbers.{AreMarked, newest_version, numbers_kept_of, numbers_view}
use Rattle.x12_station_records.specs.StationOpen.{are_between}
use Rattle.x12_station_records.specs.StationPlan.{HoldsRowsOf}
use Rattle.x12_station_records.specs.StationSchema.{station_schema}
use Rattle.x12_station_records.specs.StationTables.{fate_number, lenient_number, numbers_row, AreWideParties, CanBeUsed, HoldsAgreements, HoldsSubmissions, row_of_set, IsWideSet, HoldsArrivals, HoldsPostings}
use Rattle.x12_station_records.specs.declared.station_committing.NextRows.{NextRows}
use Rattle.x12_station_records.specs.declared.station_numbers.NumbersRow.{NumbersRow}

-- a value is a number of 32 bits
abbrev pub IsNumber : Value → Type 0
IsNumber v = (v ≡ Int (pos (number_in v))) × (number_in v < 2 ^ 32)

-- a value is the place of a group or of a transaction set, a number of 16 bits
abbrev pub IsKeptPlace : Value → Type 0
IsKeptPlace v = (v ≡ Int (pos (number_in v))) × (number_in v < 2 ^ 16)

-- a value is the number of a transaction set (ST02), of four to nine bytes
abbrev pub IsSetNumber : Value → Type 0
IsSetNumber v = text_has_length 4 9 (bytes_in v) ≡ true

-- a value is the number of a fate
abbrev pub IsFate : Value → Type 0
IsFate v = v ≡ Int (pos (fate_number (fate_numbered (number_in v))))

-- a value says whether an agreement is lenient
abbrev pub IsLenient : Value → Type 0
IsLenient v = v ≡ Int (pos (lenient_number (lenient_numbered (number_in v))))

-- there is one row, of all columns of these numbers, of a version from this one to the newest; the last
-- number can be written
pub record AreLastNumbers (oldest : ℕ) (n : NumbersRow) (rows : List Row) : Type 0 where
  pub row : IsOneRow (whole (with_id numbers_row (1, n))) rows
  pub known : (oldest ≤ n.version) × (n.version ≤ newest_version)
  pub few : n.seq ≤ 2 ^ 63 - 1
  pub parties : AreWideParties n.owner
  pub book : CanBeUsed n.book

-- a row of a partner, GS01, ST01, whether the agreement is lenient, and its own number, which is above
-- the last
pub record IsPair (last at : ℕ) (r : Row) : Type 0 where
  pub above : last < at
  pub at_is : column r 4 ≡ Int (pos at)
  pub partner : IsParty (column r 0)
  pub functional : length (bytes_in (column r 1)) ≡ 2
  pub set : length (bytes_in (column r 2)) ≡ 3
  pub lenient : IsLenient (column r 3)

-- the numbers of pairs rise, from above the first to the second
abbrev pub ArePairs : ℕ → ℕ → List Row → Type 0
ArePairs last end [] = last ≡ end
ArePairs last end (r ∷ rows) = (at : ℕ) × IsPair last at r × ArePairs at end rows

-- The rows are those of agreements, one for a partner and each pair once; the next pair's number is
-- one above the last.
pub record AreAgreed (next : ℕ) (rows : List Row) : Type 0 where
  pub last : ℕ
  pub pairs : ArePairs 0 last rows
  pub next_is : next ≡ last + 1
  pub few : next < 2 ^ 64
  pub kept : AreKept (agreements_of (map pair_shown rows))

-- a row of a submission's control number, which was used, its number among submissions and first
-- arrivals, and its receiver; the numbers are above those of the last
pub record IsSubmission (book : Numbers) (last x : ℕ × ℕ) (r : Row) : Type 0 where
  pub icn_above : last.0 < x.0
  pub seq_above : last.1 < x.1
  pub used : x.0 ≤ book.interchange
  pub icn_is : column r 0 ≡ Int (pos x.0)
  pub seq_is : column r 1 ≡ Int (pos x.1)
  pub receiver : IsParty (column r 2)

-- both numbers of submissions rise
abbrev pub AreSubmissions : Numbers → ℕ × ℕ → List (ℕ × ℕ) → List Row → Type 0
AreSubmissions book last [] [] = Unit {0}
AreSubmissions book last (x ∷ xs) (r ∷ rows) =
    IsSubmission book last x r × AreSubmissions book x xs rows
AreSubmissions book last _ _ = ⊥

-- a row of all that is kept of a transaction set, as groups are put together from it, and then the
-- number of its submission and its own place
pub record IsSetRow (at : ℕ) (r : Row) : Type 0 where
  pub group : IsNumber (column r 0)
  pub place : IsNumber (column r 1)
  pub functional : length (bytes_in (column r 2)) ≡ 2
  pub gcn : IsNumber (column r 3)
  pub number : IsSetNumber (column r 4)
  pub fate : IsFate (column r 5)
  pub icn : IsNumber (column r 6)
  pub at_is : column r 7 ≡ Int (pos at)

-- transaction sets by their places, each the next one, up to the one after the last
abbrev pub AreSetRows : ℕ → ℕ → List Row → Type 0
AreSetRows at next [] = at ≡ next
AreSetRows at next (r ∷ rows) = IsSetRow at r × AreSetRows (at + 1) next rows

-- the transaction set in such a row
abbrev pub set_read : Row → StoredSet
set_read r = set_shown (number_in (column r 6)) r

-- The transaction sets are those of one submission's groups, with which it can be sent. The groups'
-- numbers were used, are not below the least one, and are below the next one.
pub record AreOfOne (book : Numbers) (icn least next : ℕ) (ts : List StoredSet) : Type 0 where
  pub groups : List GroupRow
  pub rows_are : rows_of_groups icn groups ≡ ts
  pub whole : AreWhole groups
  pub sendable : AreSendable groups
  pub used : are_between least book.group groups ≡ true
  pub next_is : next ≡ max least (above_groups groups)

-- the transaction sets are those of the submissions of these numbers, one submission after the
-- other
abbrev pub AreOfAll : Numbers → ℕ → List ℕ → List StoredSet → Type 0
AreOfAll book least [] ts = ts ≡ []
AreOfAll book least (icn ∷ icns) ts =
    (n : ℕ) × (next : ℕ) × AreOfOne book icn least next (take n ts)
    × AreOfAll book next icns (drop n ts)

-- a row of a first arrival's number, which is above the last, its partner and its control number
pub record IsArrivalRow (last seq : ℕ) (r : Row) : Type 0 where
  pub above : last < seq
  pub seq_is : column r 0 ≡ Int (pos seq)
  pub partner : IsParty (column r 1)
  pub icn : IsNumber (column r 2)

-- the numbers of first arrivals rise
abbrev pub AreArrivals : ℕ → List ℕ → List Row → Type 0
AreArrivals last [] [] = Unit {0}
AreArrivals last (seq ∷ seqs) (r ∷ rows) = IsArrivalRow last seq r × AreArrivals seq seqs rows
AreArrivals last _ _ = ⊥

-- a row of a posting's partner, its control number, the place of its group and its own in there,
-- GS01, ST01, ST02, and its place among the postings
pub record IsPosting (at : ℕ) (r : Row) : Type 0 where
  pub partner : IsParty (column r 0)
  pub icn : IsNumber (column r 1)
  pub group : IsKeptPlace (column r 2)
  pub place : IsKeptPlace (column r 3)
  pub functional : length (bytes_in (column r 4)) ≡ 2
  pub set : length (bytes_in (column r 5)) ≡ 3
  pub number : IsSetNumber (column r 6)
  pub at_is : column r 7 ≡ Int (pos at)

-- postings by their places, each the next one, up to the one after the last
abbrev pub ArePostings : ℕ → ℕ → List Row → Type 0
ArePostings at next [] = at ≡ next
ArePostings at next (r ∷ rows) = IsPosting at r × ArePostings (at + 1) next rows

-- The transaction sets of records are those of submissions that can be sent, and whose groups and
-- own numbers rise and were used.
pub record HasEntries (book : Numbers) (s : Stored) : Type 0 where
  pub rows : s.sets ≡ flat_map rows_of_entry (entries s)
  pub whole : All HasSets (entries s)
  pub in_order : (me : Party) → AreInOrder (map (submission_of_entry me) (entries s))
  pub used : All (IsNumberedBy book) (entries s)

-- What calls find of a database, each by the content that its tables stand for.
-- The database obeys the schema, and has these last numbers, of a version from this one to the newest.
pub record FindsNumbers (oldest : ℕ) (db : Database) (n : NumbersRow) : Type 0 where
  pub obeys : ObeysSchema station_schema db
  pub known : (oldest ≤ n.version) × (n.version ≤ newest_version)
  pub rows : AreRows numbers_row ((1, n) ∷ []) (db.trees 0)
  pub few : n.seq ≤ 2 ^ 63 - 1
  pub parties : AreWideParties n.owner
  pub book : CanBeUsed n.book

-- records are those of this party at these hubs, however many arrivals are read as before
abbrev pub IsOriginOf : Party → List Party → Origin → Type 0
IsOriginOf party hubs o = (o.me ≡ party) × (o.hubs ≡ hubs)

-- The same, of the station of this party at these hubs, with marks in their order.
pub record FindsOwn (oldest : ℕ) (party : Party) (hubs : List Party) (db : Database) (n : NumbersRow)
    : Type 0 where
  pub numbers : FindsNumbers oldest db n
  pub own : IsOriginOf party hubs (owner_view n.owner)
  pub marked : AreMarked (numbers_view n)

-- The agreements, and the number of the next pair.
pub record FindsAgreed (db : Database) (next : ℕ) : Type 0 where
  pub holds : HoldsAgreements next (content_of db.trees).agreements (db.trees 1)
  pub kept : AreKept (content_of db.trees).agreements

-- The submissions, with both their numbers.
pub record FindsSubmitted (book : Numbers) (db : Database) (xs : List (ℕ × ℕ)) : Type 0 where
  pub holds : HoldsSubmissions (content_of db.trees).submitted (db.trees 3)
  pub rise : AllPairs (λ r q. r.seq < q.seq) (content_of db.trees).submitted
  pub used : All (λ r. r.icn ≤ book.interchange) (content_of db.trees).submitted
  pub numbers : map (λ r. (r.icn, r.seq)) (content_of db.trees).submitted ≡ xs

-- The transaction sets of the submissions of these numbers, and the place of the next one.
pub record FindsSets (book : Numbers) (icns : List ℕ) (db : Database) (next : ℕ) : Type 0 where
  pub rows : AreRows row_of_set (enumerate_from 1 (content_of db.trees).sets) (db.trees 4)
  pub next_is : next ≡ 1 + length (content_of db.trees).sets
  pub wide : AllByRecursion IsWideSet (content_of db.trees).sets
  pub are : AreOfAll book 0 icns (content_of db.trees).sets

-- The submissions with their transaction sets, both numbers of each, and the place of the next set.
pub record FindsSent (book : Numbers) (db : Database) (x : List (ℕ × ℕ) × ℕ) : Type 0 where
  pub submitted : FindsSubmitted book db x.0
  pub sets : AreRows row_of_set (enumerate_from 1 (content_of db.trees).sets) (db.trees 4)
  pub next_is : x.1 ≡ 1 + length (content_of db.trees).sets
  pub wide : AllByRecursion IsWideSet (content_of db.trees).sets
  pub entries : HasEntries book (content_of db.trees)

-- The first arrivals, with their numbers.
pub record FindsArrived (db : Database) (seqs : List ℕ) : Type 0 where
  pub holds : HoldsArrivals (content_of db.trees).arrived (db.trees 6)
  pub rise : AllPairs (λ r q. r.seq < q.seq) (content_of db.trees).arrived
  pub seqs_are : map (λ r. r.seq) (content_of db.trees).arrived ≡ seqs

-- The first arrivals; each number up to the last is that of one of them or one of these others.
pub record FindsOrder (last : ℕ) (others : List ℕ) (db : Database) : Type 0 where
  pub holds : HoldsArrivals (content_of db.trees).arrived (db.trees 6)
  pub rise : AllPairs (λ r q. r.seq < q.seq) (content_of db.trees).arrived
  pub each : IsPermutation (range_with_len 1 last)
      (others ++ map (λ r. r.seq) (content_of db.trees).arrived)

-- The postings, and the place of the next one.
pub record FindsPostings (db : Database) (next : ℕ) : Type 0 where
  pub holds : HoldsPostings (content_of db.trees).postings (db.trees 8)
  pub next_is : next ≡ 1 + length (content_of db.trees).postings

-- The postings, at least so many, and the place of the next one.
abbrev pub FindsHanded : ℕ → Database → ℕ → Type 0
FindsHanded handed db next = FindsPostings db next × (handed < next)

-- The rows of the tables beside these numbers, and the numbers of the next rows.
pub record FindsRows (n : NumbersRow) (db : Database) (next : NextRows) : Type 0 where
  pub sent : List (ℕ × ℕ)
  pub agreed : FindsAgreed db next.agreement
  pub entries : FindsSent n.book db (sent, next.set)
  pub order : FindsOrder n.seq (map (λ x. x.1) sent) db
  pub posted : FindsHanded n.handed db next.posting

-- Records of this party at these hubs were found in a database that is open, and stays as it was.
pub record AreFoundAtStation (party : Party) (hubs : List Party) (old new : State) : Type 0 where
  pub is_open : IsTrue new.is_open
  pub same : new.now ≡ old.now
  pub own : IsOriginOf party hubs (content_of old.now.trees).origin

-- The tables, of a version from this one to the newest, hold sound records of this party at these hubs,
-- which are what they stand for; these are the numbers of the next rows, and the row of numbers.
pub record FindsRecords (oldest : ℕ) (party : Party) (hubs : List Party) (db : Database)
    (x : NextRows × NumbersRow) : Type 0 where
  pub known : (oldest ≤ x.1.version) × (x.1.version ≤ newest_version)
  pub holds : HoldsRowsOf x.1.version x.0 db (content_of db.trees)
  pub sound : IsSound (content_of db.trees)
  pub own : IsOriginOf party hubs (content_of db.trees).origin
  pub marked : AreMarked (numbers_kept_of (content_of db.trees))
  pub said : numbers_kept_of (content_of db.trees) ≡ numbers_view x.1
