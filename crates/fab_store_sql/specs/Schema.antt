-- The thirteen tables, as a schema of SQL.
use Rattle.std.specs.Prelude.{ℕ, Bool, true, false, List, [], ◌∷◌, ◌+◌, ◌++◌, map, Option, None, Some, codes}
use Rattle.sqlite.specs.declared.types.Value.TheVariants.{Null}
use Rattle.sqlite.specs.Collation.TheVariants.{Binary}
use Rattle.sqlite.specs.Table.{Table as SqlTable}
use Rattle.sqlite.specs.Schema.{Schema}
use Rattle.sqlite.specs.Kind.{Kind}
use Rattle.sqlite.specs.Kind.TheVariants.{Integer, Text}
use Rattle.sqlite_schema.specs.declared.schema.Column.{Column}
use Rattle.sqlite_schema.specs.declared.schema.Index.{Index}
use Rattle.sqlite_value.specs.Keys.{plain}
use Rattle.sqlite_catalog.specs.Listing.{automatic}
use Rattle.fab_store_load.specs.TableNames.{table_name}
use Rattle.fab_store_load.specs.declared.fault.Table.{Table}
use Rattle.fab_store_load.specs.declared.fault.Table.TheVariants as table

-- a column of a strict table, and whether it is NOT NULL
abbrev pub column_of : List ℕ → Kind → Bool → Column
column_of name kind not_null = record { name = name; kind = kind; is_strict = true; not_null = not_null; default = Null; collation = Binary }

abbrev pub text_column : List ℕ → Column
text_column name = column_of name Text true

abbrev pub number_columns : Option (List ℕ) → List Column
number_columns None = []
number_columns (Some name) = column_of name Integer true ∷ []

-- texts, and a number behind them if it has a name
abbrev pub columns_named : List (List ℕ) → Option (List ℕ) → List Column
columns_named texts number = map text_column texts ++ number_columns number

-- a strict table in this tree, with a primary key of columns, which are counted from 1
abbrev pub strict_table : ℕ → List ℕ → List Column → List ℕ → SqlTable
strict_table tree name columns key = record {
  name = name;
  tree = tree;
  columns = columns;
  key = None;
  primary = key;
  uniques = key ∷ [];
  orders = plain ∷ [];
  checks = [];
  references = [];
  computed = [];
  stamps = record { places = []; terms = []; formats = [] };
  is_counted = false;
}

-- the tables, in the order in which they are made
abbrev pub all_tables : List Table
all_tables = table.Meta ∷ table.Ports ∷ table.Holders ∷ table.Volumes ∷ table.Zoning ∷ table.Active ∷ table.Groups ∷ table.GroupParts ∷ table.Plans ∷ table.Approvals ∷ table.Undo ∷ table.Paths ∷ table.Addresses ∷ []

-- the place of a table among them
abbrev pub place_of : Table → ℕ
place_of table.Meta = 0
place_of table.Ports = 1
place_of table.Holders = 2
place_of table.Volumes = 3
place_of table.Zoning = 4
place_of table.Active = 5
place_of table.Groups = 6
place_of table.GroupParts = 7
place_of table.Plans = 8
place_of table.Approvals = 9
place_of table.Undo = 10
place_of table.Paths = 11
place_of table.Addresses = 12

-- the tree that a table's rows are in
abbrev pub tree_of : Table → ℕ
tree_of table.Meta = 0
tree_of table.Ports = 2
tree_of table.Holders = 4
tree_of table.Volumes = 6
tree_of table.Zoning = 8
tree_of table.Active = 10
tree_of table.Groups = 12
tree_of table.GroupParts = 14
tree_of table.Plans = 16
tree_of table.Approvals = 18
tree_of table.Undo = 20
tree_of table.Paths = 22
tree_of table.Addresses = 24

abbrev pub columns_of : Table → List Column
columns_of table.Meta = columns_named (codes "key" ∷ codes "value" ∷ []) None
columns_of table.Ports = column_of (codes "wwpn") Text true ∷ column_of (codes "wwnn") Text true ∷ column_of (codes "fabric") Text false ∷ column_of (codes "domain") Integer false ∷ column_of (codes "slot") Integer false ∷ column_of (codes "holder") Text false ∷ []
columns_of table.Holders = columns_named (codes "name" ∷ codes "kind" ∷ codes "tenant" ∷ []) None
columns_of table.Volumes = columns_named (codes "name" ∷ codes "array" ∷ codes "tenant" ∷ []) (Some (codes "bytes"))
columns_of table.Zoning = columns_named (codes "fabric" ∷ codes "kind" ∷ codes "name" ∷ codes "item" ∷ []) None
columns_of table.Active = columns_named (codes "fabric" ∷ codes "zone" ∷ codes "member" ∷ []) None
columns_of table.Groups = columns_named (codes "kind" ∷ codes "name" ∷ codes "tenant" ∷ codes "array" ∷ []) (Some (codes "exposed"))
columns_of table.GroupParts = columns_named (codes "kind" ∷ codes "name" ∷ codes "part" ∷ codes "item" ∷ codes "volume" ∷ []) None
columns_of table.Plans = columns_named (codes "name" ∷ codes "author" ∷ codes "text" ∷ codes "state" ∷ []) (Some (codes "position"))
columns_of table.Approvals = columns_named (codes "plan" ∷ codes "caller" ∷ []) (Some (codes "revision"))
columns_of table.Undo = columns_named (codes "plan" ∷ codes "sign" ∷ codes "entry" ∷ []) None
columns_of table.Paths = columns_named (codes "host" ∷ codes "fabric" ∷ codes "initiator" ∷ codes "target" ∷ codes "volume" ∷ []) (Some (codes "lun"))
columns_of table.Addresses = columns_named (codes "wwpn" ∷ codes "address" ∷ []) None

-- the columns of its key: the first ones
abbrev pub places_of : Table → List ℕ
places_of table.Meta = 1 ∷ []
places_of table.Ports = 1 ∷ []
places_of table.Holders = 1 ∷ []
places_of table.Volumes = 1 ∷ []
places_of table.Zoning = 1 ∷ 2 ∷ 3 ∷ 4 ∷ []
places_of table.Active = 1 ∷ 2 ∷ 3 ∷ []
places_of table.Groups = 1 ∷ 2 ∷ []
places_of table.GroupParts = 1 ∷ 2 ∷ 3 ∷ 4 ∷ []
places_of table.Plans = 1 ∷ []
places_of table.Approvals = 1 ∷ 2 ∷ []
places_of table.Undo = 1 ∷ 2 ∷ 3 ∷ []
places_of table.Paths = 1 ∷ 2 ∷ 3 ∷ 4 ∷ 5 ∷ 6 ∷ []
places_of table.Addresses = 1 ∷ []

abbrev pub made_of : Table → SqlTable
made_of t = strict_table (tree_of t) (table_name t) (columns_of t) (places_of t)

-- the name of the index of its key
abbrev pub index_name : Table → List ℕ
index_name table.Meta = codes "sqlite_autoindex_meta_1"
index_name table.Ports = codes "sqlite_autoindex_ports_1"
index_name table.Holders = codes "sqlite_autoindex_holders_1"
index_name table.Volumes = codes "sqlite_autoindex_volumes_1"
index_name table.Zoning = codes "sqlite_autoindex_zoning_1"
index_name table.Active = codes "sqlite_autoindex_active_1"
index_name table.Groups = codes "sqlite_autoindex_groups_1"
index_name table.GroupParts = codes "sqlite_autoindex_group_parts_1"
index_name table.Plans = codes "sqlite_autoindex_plans_1"
index_name table.Approvals = codes "sqlite_autoindex_approvals_1"
index_name table.Undo = codes "sqlite_autoindex_undo_1"
index_name table.Paths = codes "sqlite_autoindex_paths_1"
index_name table.Addresses = codes "sqlite_autoindex_addresses_1"

-- the index of its key, in the tree behind its own
abbrev pub key_index : Table → Index
key_index t = automatic (made_of t) 0 (places_of t) (tree_of t + 1)

-- the tables and the indexes of their keys, and nothing else
abbrev pub schema_of : List Table → Schema
schema_of tables = record { tables = map made_of tables; indexes = map key_index tables; views = [] }

abbrev pub desk_schema : Schema
desk_schema = schema_of all_tables
