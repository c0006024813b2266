-- What a row of data describes: a part of a schema as SQLite makes it.
use Rattle.std.specs.Prelude.{[], List, ℕ, map}
use Rattle.sqlite.specs.Schema.{Schema}
use Rattle.sqlite.specs.Table.{Table}
use Rattle.sqlite_schema.specs.declared.schema.Column.{Column}
use Rattle.sqlite_schema.specs.declared.schema.Index.{Index}
use Rattle.sqlite_schema.specs.declared.schema.Reference.{Reference}
use Rattle.sqlite_value.specs.declared.keys.Order.{Order}
use Rattle.x12_tables.specs.Schema.{plain_column, refers, keyed_table}
use Rattle.x12_tables.specs.declared.layout.Foreign.{Foreign}
use Rattle.x12_tables.specs.declared.layout.IndexLayout.{IndexLayout}
use Rattle.x12_tables.specs.declared.layout.Name.{Name}
use Rattle.x12_tables.specs.declared.layout.PlainColumn.{PlainColumn}
use Rattle.x12_tables.specs.declared.layout.TableLayout.{TableLayout}
use Rattle.x12_tables.specs.declared.layout.Unique.{Unique}

-- the bytes of a name
abbrev pub name_by : Name → List ℕ
name_by n = n.0.now

-- the column of a row: its name, its kind, whether it is NOT NULL
abbrev pub column_by : PlainColumn → Column
column_by c = plain_column c.0.now c.1 c.2

-- the places of columns that are UNIQUE together
abbrev pub places_by : Unique → List ℕ
places_by u = u.0.now

-- the order of their values: the lower ones first
abbrev pub order_by : Unique → Order
order_by u = record { digits = 0 }

-- the foreign key of a row: its columns, its parent, the parent's columns
abbrev pub foreign_by : Foreign → Reference
foreign_by f = refers f.0.now f.1.now (map name_by f.2.now)

-- the table of a row, whose first column is its integer key
abbrev pub table_by : TableLayout → Table
table_by t = record (keyed_table t.name.now t.tree (map column_by t.columns.now)
    (map places_by t.uniques.now) (map foreign_by t.foreign.now)) {
      orders = map order_by t.uniques.now;
    }

-- the index of a row: its name, its tree, that of its table, its columns, whether it is UNIQUE
abbrev pub index_by : IndexLayout → Index
index_by i = record {
  name = i.0.now;
  tree = i.1;
  table = i.2;
  columns = i.3.now;
  order = record { digits = 0 };
  is_unique = i.4;
}

-- the schema of these tables and indexes
abbrev pub schema_by : List TableLayout → List IndexLayout → Schema
schema_by tables indexes = record {
  tables = map table_by tables;
  indexes = map index_by indexes;
  views = [];
}
