-- The world that the lines of all tables show.
use Rattle.std.specs.Prelude.{ℕ, ◌≡◌, map, slice_get, Some}
use Rattle.fab_store_world.specs.Standing.{HaveRows}
use Rattle.fab_store_columns.specs.PlanLines.{PlanColumns}
use Rattle.fab_store_load.specs.declared.fault.Table.TheVariants as table
use Rattle.fab_store_tables.specs.Rows.{AnyRow, ShowsRow}
use Rattle.fab_store_tables.specs.declared.lines.TableLines.{TableLines}
use Rattle.fab_store_base.specs.Standing.{StandsRow}
use Rattle.fab_store_base.specs.Worlds.{HoldsWorld}
use Rattle.fab_store_tables.specs.Columns.{meta_row, port_row, address_row, holder_row, volume_row, zoning_row, active_row, group_row, part_row, plan_row, approval_row, undo_row, path_row}
use Rattle.fab_store_tables.specs.Tables.{Tables}
use Rattle.fab_store_tables.specs.declared.stored_line.TableLine.{TableLine}
use Rattle.fab_world.specs.Soundness.{IsSound}
use Rattle.fab_world.specs.Worlds.{WorldRows}

-- the tables that have the columns of the lines
abbrev pub tables_of : TableLines → Tables
tables_of t table.Meta = map meta_row t.meta.items
tables_of t table.Ports = map port_row t.ports.items
tables_of t table.Addresses = map address_row t.addresses.items
tables_of t table.Holders = map holder_row t.holders.items
tables_of t table.Volumes = map volume_row t.volumes.items
tables_of t table.Zoning = map zoning_row t.zoning.items
tables_of t table.Active = map active_row t.active.items
tables_of t table.Groups = map group_row t.groups.items
tables_of t table.GroupParts = map part_row t.parts.items
tables_of t table.Plans = map plan_row t.plans.items
tables_of t table.Approvals = map approval_row t.approvals.items
tables_of t table.Undo = map undo_row t.undo.items
tables_of t table.Paths = map path_row t.paths.items

-- each row that stands in the world is shown by a line, and the printed form of each plan's steps
-- spells them, as of every world that a program holds: a name of the model may be no name
pub record HasLines (A : Type 0) (w : WorldRows) : Type 0 where
  pub rows : (x : AnyRow) → StandsRow w x → (l : TableLine A) × ShowsRow x l
  pub texts : HaveRows w

-- no line of a plan stands twice
abbrev pub ArePlansOnce : TableLines → Type 0
ArePlansOnce lines = (i j : ℕ) (l : PlanColumns) → slice_get lines.plans.items i ≡ Some l → slice_get lines.plans.items j ≡ Some l → i ≡ j

-- no sound world has just the columns of these lines
abbrev pub HasNoWorld : Type 0 → TableLines → Type 0
HasNoWorld A lines = ArePlansOnce lines → (w : WorldRows) → HasLines A w → HoldsWorld (tables_of lines) w → ¬ IsSound w

-- no other sound world has just the columns of these lines
abbrev pub IsOnlyWorld : Type 0 → TableLines → WorldRows → Type 0
IsOnlyWorld A lines w = ArePlansOnce lines → (v : WorldRows) → HasLines A v → HoldsWorld (tables_of lines) v → IsSound v → v ≡ w
