-- The schema that settings tell, whatever schema it is, and tables that are brought to this schema from
-- the one before.
use Rattle.std.specs.Prelude.{◌≡◌, ◌≢◌, ◌⊎◌, ◌↔◌, ℕ, List, [], ◌∷◌, Contains, codes}
use Rattle.sqlite.specs.Order.{Row}
use Rattle.sqlite.specs.declared.types.Value.TheVariants.{Text}
use Rattle.fab_store_columns_base.specs.Columns.{ShowsDecimal}
use Rattle.fab_store_columns.specs.MetaLines.{MetaColumns}
use Rattle.fab_store_load.specs.declared.fault.Table.{Table}
use Rattle.fab_store_load.specs.declared.fault.Table.TheVariants as table
use Rattle.fab_store_tables.specs.Columns.{meta_row}
use Rattle.fab_store_tables.specs.Tables.{Tables, key_of}

-- the greatest number of a schema that settings can tell: it has 64 bits
abbrev pub most_schema : ℕ
most_schema = 18446744073709551615

-- the line tells this schema
abbrev pub TellsSchema : MetaColumns → ℕ → Type 0
TellsSchema l n = (l.key ≡ codes "schema") × ShowsDecimal most_schema l.value n

-- one of the lines does
abbrev pub TellSchema : List MetaColumns → ℕ → Type 0
TellSchema lines n = (l : MetaColumns) × Contains lines l × TellsSchema l n

-- the tables do
abbrev pub TellsVersion : Tables → ℕ → Type 0
TellsVersion tables n = (l : MetaColumns) × Contains (tables table.Meta) (meta_row l) × TellsSchema l n

-- the key of the setting that tells the schema
abbrev pub schema_key : Row
schema_key = Text (codes "schema") ∷ []

-- the setting that tells schema 2
abbrev pub schema_row : Row
schema_row = Text (codes "schema") ∷ Text (codes "2") ∷ []

-- the tables of schema 1 brought to schema 2: the same rows, but for the setting that tells the schema,
-- and no address
pub record IsMigrated (old new : Tables) : Type 0 where
  pub kept : (t : Table) → t ≢ table.Meta → t ≢ table.Addresses → new t ≡ old t
  pub no_address : new table.Addresses ≡ []
  pub settings : (r : Row) → Contains (new table.Meta) r ↔ ((Contains (old table.Meta) r × (key_of table.Meta r ≢ schema_key)) ⊎ (r ≡ schema_row))
