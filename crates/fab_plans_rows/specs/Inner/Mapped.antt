-- Which rows of a configuration are of its mapping, and which storage group they touch.
use Rattle.std.specs.Prelude.{ℕ, ◌≡◌, List, Option, None, Some}
use Rattle.fab_mapping.specs.Mappings.{MappingRows}
use Rattle.fab_store_rows.specs.declared.config_row.ConfigRow.{ConfigRow}
use Rattle.fab_store_rows.specs.declared.config_row.ConfigRow.TheVariants as config
use Rattle.fab_store_rows.specs.declared.config_row.GroupRow.TheVariants as group
use Rattle.fab_store_rows.specs.declared.config_row.PartRow.TheVariants as parts
use Rattle.fab_store_drafts.specs.There.{Touches}

-- the row is a host group, a storage group, or a part of one
abbrev pub IsOfMapping : ConfigRow → Type 0
IsOfMapping (config.Group r) = Unit {0}
IsOfMapping (config.Part r) = Unit {0}
IsOfMapping _ = ⊥

-- the storage group whose head or part the row is
abbrev pub group_named : ConfigRow → Option (List ℕ)
group_named (config.Group (group.Storage r)) = Some r.name
group_named (config.Part (parts.Storage n p)) = Some n
group_named _ = None

-- the row is a host of a host group: it touches each storage group that serves it
abbrev pub IsHostRow : ConfigRow → Type 0
IsHostRow (config.Part (parts.Host k h)) = Unit {0}
IsHostRow _ = ⊥

-- the row touches no storage group but that of this name
abbrev pub TouchesOnly : ConfigRow → List ℕ → Type 0
TouchesOnly r n = (v : MappingRows) (m : List ℕ) → Touches v r m → m ≡ n
