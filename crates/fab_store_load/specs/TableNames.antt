-- The names of tables.
use Rattle.std.specs.Prelude.{ℕ, List, codes}
use Rattle.fab_store_load.specs.declared.fault.Table.{Table}
use Rattle.fab_store_load.specs.declared.fault.Table.TheVariants as table

-- the name of a table
abbrev pub table_name : Table → List ℕ
table_name table.Meta = codes "meta"
table_name table.Ports = codes "ports"
table_name table.Addresses = codes "addresses"
table_name table.Holders = codes "holders"
table_name table.Volumes = codes "volumes"
table_name table.Zoning = codes "zoning"
table_name table.Active = codes "active"
table_name table.Groups = codes "groups"
table_name table.GroupParts = codes "group_parts"
table_name table.Plans = codes "plans"
table_name table.Approvals = codes "approvals"
table_name table.Undo = codes "undo"
table_name table.Paths = codes "paths"
