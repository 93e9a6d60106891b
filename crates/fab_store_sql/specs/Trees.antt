-- The trees of the tables, and the tables that trees hold.
use Rattle.std.specs.Prelude.{ℕ, zero, suc, [], ◌∷◌, ◌+◌, map}
use Rattle.sqlite.specs.Order.{Row, column}
use Rattle.sqlite.specs.Tree.{Trees}
use Rattle.fab_store_load.specs.declared.fault.Table.{Table}
use Rattle.fab_store_load.specs.declared.fault.Table.TheVariants as table
use Rattle.fab_store_tables.specs.Tables.{Tables}
pub use Rattle.fab_store_sql.specs.Schema.{tree_of}

-- how many columns a table has
abbrev pub width_of : Table → ℕ
width_of table.Meta = 2
width_of table.Ports = 6
width_of table.Holders = 3
width_of table.Volumes = 4
width_of table.Zoning = 4
width_of table.Active = 3
width_of table.Groups = 5
width_of table.GroupParts = 5
width_of table.Plans = 5
width_of table.Approvals = 3
width_of table.Undo = 3
width_of table.Paths = 6
width_of table.Addresses = 2

-- how many of them are its key: the first ones
abbrev pub key_width : Table → ℕ
key_width table.Meta = 1
key_width table.Ports = 1
key_width table.Holders = 1
key_width table.Volumes = 1
key_width table.Zoning = 4
key_width table.Active = 3
key_width table.Groups = 2
key_width table.GroupParts = 4
key_width table.Plans = 1
key_width table.Approvals = 2
key_width table.Undo = 3
key_width table.Paths = 6
key_width table.Addresses = 1

-- so many columns of a row, from this one on
abbrev pub cells_from : Row → ℕ → ℕ → Row
cells_from r at zero = []
cells_from r at (suc n) = column r at ∷ cells_from r (at + 1) n

-- what a table has of a row of its tree: the columns behind the rowid
abbrev pub show_of : Table → Row → Row
show_of t r = cells_from r 1 (width_of t)

-- the tables of the trees
abbrev pub tables_of : Trees → Tables
tables_of db t = map (show_of t) (db (tree_of t))
