-- Parts of a schema as SQLite makes them of a CREATE statement.
use Rattle.std.specs.Prelude.{◌≡◌, [], true, false, Bool, ◌∷◌, Some, List, ℕ, map}
use Rattle.std.specs.List.{AllByRecursion}
use Rattle.sqlite.specs.Effect.{Database}
use Rattle.sqlite.specs.Schema.{Schema}
use Rattle.sqlite.specs.declared.types.Value.TheVariants.{Null}
use Rattle.sqlite.specs.Collation.TheVariants.{Binary}
use Rattle.sqlite.specs.Kind.{Kind}
use Rattle.sqlite.specs.Table.{Table}
use Rattle.sqlite_schema.specs.declared.schema.Action.TheVariants.{NoAction}
use Rattle.sqlite_schema.specs.declared.schema.Column.{Column}
use Rattle.sqlite_schema.specs.declared.schema.Reference.{Reference}

-- the database has these tables, and no rows in them
pub record HasEmpty (schema : Schema) (db : Database) : Type 0 where
  pub schema_is : db.schema ≡ schema
  pub empty : AllByRecursion (λ t. db.trees t.tree ≡ []) schema.tables

abbrev pub plain_column : List ℕ → Kind → Bool → Column
plain_column name kind not_null = record {
  name = name;
  kind = kind;
  is_strict = true;
  not_null = not_null;
  default = Null;
  collation = Binary;
}

-- a table whose first column is its integer key
abbrev pub keyed_table : List ℕ → ℕ → List Column → List (List ℕ) → List Reference → Table
keyed_table name tree columns uniques references = record {
  name = name;
  tree = tree;
  columns = columns;
  key = Some 0;
  primary = 0 ∷ [];
  uniques = uniques;
  orders = map (λ u. record { digits = 0 }) uniques;
  checks = [];
  references = references;
  computed = [];
  stamps = record { places = []; terms = []; formats = [] };
  is_counted = false;
}

abbrev pub no_schema : Schema
no_schema = record { tables = []; indexes = []; views = [] }

-- these columns of a row are those of a row of the parent
abbrev pub refers : List ℕ → List ℕ → List (List ℕ) → Reference
refers columns parent parent_columns = record {
  columns = columns;
  parent = parent;
  parent_columns = parent_columns;
  on_delete = NoAction;
  on_update = NoAction;
  is_deferred = false;
}
