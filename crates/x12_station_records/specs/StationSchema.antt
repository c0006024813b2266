-- The tables of a station's records, as SQL and as the schema that SQLite makes of it.
use Rattle.std.specs.Prelude.{true, false, [], ◌∷◌, codes, List, ℕ}
use Rattle.sqlite.specs.Change.{created, indexed}
use Rattle.sqlite.specs.Kind.TheVariants.{Integer, Blob}
use Rattle.sqlite.specs.Schema.{Schema}
use Rattle.sqlite.specs.Table.{Table}
use Rattle.sqlite_schema.specs.declared.schema.Index.{Index}
use Rattle.x12_tables.specs.Schema.{keyed_table, plain_column, refers, no_schema}

-- one row: the version of these tables; the station's party, its hub and its second hub (17 bytes
-- each; NULL: there is one); the last control numbers, and the last number of a submission or first
-- arrival; how many postings were handed over; and up to which number an arrival is read as before
-- acknowledgments were noted, and as before the edition changed
abbrev pub numbers_text : List ℕ
numbers_text = codes "CREATE TABLE numbers (one INTEGER PRIMARY KEY, version INTEGER NOT NULL, party BLOB NOT NULL, hub BLOB NOT NULL, other BLOB, icn INTEGER NOT NULL, gcn INTEGER NOT NULL, seq INTEGER NOT NULL, handed INTEGER NOT NULL, noted INTEGER NOT NULL, era INTEGER NOT NULL) STRICT"

-- each pair of GS01 and ST01 that a partner (its qualifier and its identifier, 17 bytes) may send;
-- `at` is the number of the row, and `lenient` is 1 where errors in elements alone are noted, else 0
abbrev pub agreement_text : List ℕ
agreement_text = codes "CREATE TABLE agreement (at INTEGER PRIMARY KEY, partner BLOB NOT NULL, functional BLOB NOT NULL, lenient INTEGER NOT NULL, setid BLOB NOT NULL, UNIQUE (partner, functional, setid)) STRICT"

-- each submission: its control number, its number among submissions and first arrivals, and its
-- receiver
abbrev pub outbound_text : List ℕ
outbound_text = codes "CREATE TABLE outbound (icn INTEGER PRIMARY KEY, seq INTEGER NOT NULL, partner BLOB NOT NULL, bytes BLOB NOT NULL) STRICT"

-- each transaction set of a submission: the place of its group and its own, GS06 and GS01 of the
-- group, its number (ST02), and its fate (0 pending, 1 accepted, 2 rejected, 3 noted)
abbrev pub outset_text : List ℕ
outset_text = codes "CREATE TABLE outset (at INTEGER PRIMARY KEY, icn INTEGER NOT NULL REFERENCES outbound (icn), grp INTEGER NOT NULL, place INTEGER NOT NULL, gcn INTEGER NOT NULL, functional BLOB NOT NULL, number BLOB NOT NULL, fate INTEGER NOT NULL, UNIQUE (icn, grp, place)) STRICT"

-- each interchange that came for the first time, and its reply (NULL: none was due)
abbrev pub inbound_text : List ℕ
inbound_text = codes "CREATE TABLE inbound (seq INTEGER PRIMARY KEY, partner BLOB NOT NULL, icn INTEGER NOT NULL, reply BLOB, bytes BLOB NOT NULL, UNIQUE (partner, icn)) STRICT"

-- each accepted transaction set of what came: GS01 of its group, its identifier (ST01), its number
abbrev pub posting_text : List ℕ
posting_text = codes "CREATE TABLE posting (at INTEGER PRIMARY KEY, partner BLOB NOT NULL, icn INTEGER NOT NULL, grp INTEGER NOT NULL, place INTEGER NOT NULL, functional BLOB NOT NULL, setid BLOB NOT NULL, number BLOB NOT NULL, bytes BLOB NOT NULL, UNIQUE (partner, icn, grp, place), FOREIGN KEY (partner, icn) REFERENCES inbound (partner, icn)) STRICT"

-- the sets of a group number are found by it
abbrev pub outset_group_text : List ℕ
outset_group_text = codes "CREATE INDEX outset_group ON outset (gcn)"

-- the pending sets are found by their fate
abbrev pub outset_fate_text : List ℕ
outset_fate_text = codes "CREATE INDEX outset_fate ON outset (fate)"

-- a submission is found by its number among submissions and first arrivals
abbrev pub outbound_seq_text : List ℕ
outbound_seq_text = codes "CREATE INDEX outbound_seq ON outbound (seq)"

abbrev pub numbers : ℕ → Table
numbers tree = keyed_table (codes "numbers") tree
    (plain_column (codes "one") Integer false ∷ plain_column (codes "version") Integer true
    ∷ plain_column (codes "party") Blob true ∷ plain_column (codes "hub") Blob true
    ∷ plain_column (codes "other") Blob false ∷ plain_column (codes "icn") Integer true
    ∷ plain_column (codes "gcn") Integer true ∷ plain_column (codes "seq") Integer true
    ∷ plain_column (codes "handed") Integer true ∷ plain_column (codes "noted") Integer true
    ∷ plain_column (codes "era") Integer true ∷ []) [] []

abbrev pub agreement : ℕ → Table
agreement tree = keyed_table (codes "agreement") tree
    (plain_column (codes "at") Integer false ∷ plain_column (codes "partner") Blob true
    ∷ plain_column (codes "functional") Blob true ∷ plain_column (codes "lenient") Integer true
    ∷ plain_column (codes "setid") Blob true ∷ []) ((2 ∷ 3 ∷ 5 ∷ []) ∷ []) []

abbrev pub outbound : ℕ → Table
outbound tree = keyed_table (codes "outbound") tree
    (plain_column (codes "icn") Integer false ∷ plain_column (codes "seq") Integer true
    ∷ plain_column (codes "partner") Blob true ∷ plain_column (codes "bytes") Blob true ∷ []) [] []

abbrev pub outset : ℕ → Table
outset tree = keyed_table (codes "outset") tree
    (plain_column (codes "at") Integer false ∷ plain_column (codes "icn") Integer true
    ∷ plain_column (codes "grp") Integer true ∷ plain_column (codes "place") Integer true
    ∷ plain_column (codes "gcn") Integer true ∷ plain_column (codes "functional") Blob true
    ∷ plain_column (codes "number") Blob true ∷ plain_column (codes "fate") Integer true ∷ [])
    ((2 ∷ 3 ∷ 4 ∷ []) ∷ []) (refers (2 ∷ []) (codes "outbound") (codes "icn" ∷ []) ∷ [])

abbrev pub inbound : ℕ → Table
inbound tree = keyed_table (codes "inbound") tree
    (plain_column (codes "seq") Integer false ∷ plain_column (codes "partner") Blob true
    ∷ plain_column (codes "icn") Integer true ∷ plain_column (codes "reply") Blob false
    ∷ plain_column (codes "bytes") Blob true ∷ []) ((2 ∷ 3 ∷ []) ∷ []) []

abbrev pub posting : ℕ → Table
posting tree = keyed_table (codes "posting") tree
    (plain_column (codes "at") Integer false ∷ plain_column (codes "partner") Blob true
    ∷ plain_column (codes "icn") Integer true ∷ plain_column (codes "grp") Integer true
    ∷ plain_column (codes "place") Integer true ∷ plain_column (codes "functional") Blob true
    ∷ plain_column (codes "setid") Blob true ∷ plain_column (codes "number") Blob true
    ∷ plain_column (codes "bytes") Blob true ∷ []) ((2 ∷ 3 ∷ 4 ∷ 5 ∷ []) ∷ [])
    (refers (2 ∷ 3 ∷ []) (codes "inbound") (codes "partner" ∷ codes "icn" ∷ []) ∷ [])

-- an index of one column, whose values may come more than once
abbrev pub index_of : List ℕ → ℕ → ℕ → ℕ → Index
index_of name column tree table = record {
  name = name;
  tree = tree;
  table = table;
  columns = column ∷ [];
  order = record { digits = 0 };
  is_unique = false;
}

abbrev pub outset_group : ℕ → ℕ → Index
outset_group = index_of (codes "outset_group") 5

abbrev pub outset_fate : ℕ → ℕ → Index
outset_fate = index_of (codes "outset_fate") 8

abbrev pub outbound_seq : ℕ → ℕ → Index
outbound_seq = index_of (codes "outbound_seq") 2

abbrev pub station_tables : Schema
station_tables =
    created (created (created (created (created (created no_schema (numbers 0)) (agreement 0))
    (outbound 0)) (outset 0)) (inbound 0)) (posting 0)

-- these, and the index by group number
abbrev pub grouped_tables : Schema
grouped_tables = indexed station_tables (outset 4) (outset_group 0 4)

-- these, and the index by fate
abbrev pub fated_tables : Schema
fated_tables = indexed grouped_tables (outset 4) (outset_fate 0 4)

-- the tables have the trees 0, 1, 3, 4, 6 and 8, the indexes of what is UNIQUE the trees 2, 5, 7
-- and 9, the index by group number the tree 10, the one by fate the tree 11, and that of
-- submissions the tree 12
abbrev pub station_schema : Schema
station_schema = indexed fated_tables (outbound 3) (outbound_seq 0 3)
