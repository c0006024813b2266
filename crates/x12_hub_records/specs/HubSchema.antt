-- The tables of a hub's records, as SQL and as the schema that SQLite makes of it.
use Rattle.std.specs.Prelude.{true, false, [], ◌∷◌, codes, List, ℕ}
use Rattle.sqlite.specs.Kind.TheVariants.{Integer, Blob}
use Rattle.sqlite.specs.Schema.{Schema}
use Rattle.sqlite.specs.Table.{Table}
use Rattle.sqlite_schema.specs.declared.schema.Action.TheVariants.{NoAction}
use Rattle.sqlite_schema.specs.declared.schema.Index.{Index}
use Rattle.sqlite_schema.specs.declared.schema.Reference.{Reference}
use Rattle.x12_tables.specs.Schema.{keyed_table, plain_column}

-- each party that has a mailbox (its qualifier and its identifier, 17 bytes), and its node; `at` is
-- the number of the entry
abbrev pub directory_text : List ℕ
directory_text = codes "CREATE TABLE directory (at INTEGER PRIMARY KEY, party BLOB NOT NULL UNIQUE, node INTEGER NOT NULL) STRICT"

-- each decision: the node of the mailbox that the item was put into, or the refusal that was written
abbrev pub decision_text : List ℕ
decision_text = codes "CREATE TABLE decision (item INTEGER PRIMARY KEY, node INTEGER, refusal BLOB, bytes BLOB NOT NULL UNIQUE) STRICT"

-- what waits in a mailbox
abbrev pub mailbox_text : List ℕ
mailbox_text = codes "CREATE TABLE mailbox (item INTEGER PRIMARY KEY REFERENCES decision (item), node INTEGER NOT NULL) STRICT"

-- one row: the version of these tables, the hub's party (17 bytes), and the last two numbers
abbrev pub hubnumber_text : List ℕ
hubnumber_text = codes "CREATE TABLE hubnumber (one INTEGER PRIMARY KEY, version INTEGER NOT NULL, party BLOB NOT NULL, icn INTEGER NOT NULL, item INTEGER NOT NULL) STRICT"

abbrev pub directory : ℕ → Table
directory tree = keyed_table (codes "directory") tree
    (plain_column (codes "at") Integer false ∷ plain_column (codes "party") Blob true
    ∷ plain_column (codes "node") Integer true ∷ []) ((2 ∷ []) ∷ []) []

abbrev pub decision : ℕ → Table
decision tree = keyed_table (codes "decision") tree
    (plain_column (codes "item") Integer false ∷ plain_column (codes "node") Integer false
    ∷ plain_column (codes "refusal") Blob false ∷ plain_column (codes "bytes") Blob true ∷ [])
    ((4 ∷ []) ∷ []) []

-- the item of a mailbox's row is that of a decision
abbrev pub in_decision : Reference
in_decision = record {
  columns = 0 ∷ [];
  parent = codes "decision";
  parent_columns = codes "item" ∷ [];
  on_delete = NoAction;
  on_update = NoAction;
  is_deferred = false;
}

abbrev pub mailbox : ℕ → Table
mailbox tree = keyed_table (codes "mailbox") tree
    (plain_column (codes "item") Integer false ∷ plain_column (codes "node") Integer true ∷ []) []
    (in_decision ∷ [])

abbrev pub hubnumber : ℕ → Table
hubnumber tree = keyed_table (codes "hubnumber") tree
    (plain_column (codes "one") Integer false ∷ plain_column (codes "version") Integer true
    ∷ plain_column (codes "party") Blob true ∷ plain_column (codes "icn") Integer true
    ∷ plain_column (codes "item") Integer true ∷ []) [] []

-- the index that SQLite makes for a table's one UNIQUE column
abbrev pub automatic_index : List ℕ → ℕ → ℕ → ℕ → Index
automatic_index name tree table place = record {
  name = name;
  tree = tree;
  table = table;
  columns = place ∷ [];
  order = record { digits = 0 };
  is_unique = true;
}

-- the tables have the trees 0, 2, 4 and 5, the indexes of what is UNIQUE the trees 1 and 3
abbrev pub hub_schema : Schema
hub_schema = record {
  tables = directory 0 ∷ decision 2 ∷ mailbox 4 ∷ hubnumber 5 ∷ [];
  indexes = automatic_index (codes "sqlite_autoindex_directory_1") 1 0 2
      ∷ automatic_index (codes "sqlite_autoindex_decision_1") 3 2 4 ∷ [];
  views = [];
}
