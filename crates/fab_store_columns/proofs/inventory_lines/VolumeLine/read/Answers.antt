use Rattle.std.proofs.Common.{sym, subst}
use Rattle.fab_inventory.specs.Limits.{most_bytes}
use Rattle.fab_names.specs.Names.{SpellsName}
use Rattle.fab_store_columns_base.specs.Columns.{ShowsNumber}
use Rattle.fab_store_columns.specs.InventoryLines.{VolumeColumns}
use Rattle.fab_store_columns.proofs.inventory_lines.VolumeLine.read.Goals as goal

pub returns-in_default : goal.returns-in_default
returns-in_default g c r h = c.in_default.ensures r.bytes (subst (λ (l : VolumeColumns). ShowsNumber 1 most_bytes l.bytes r.bytes) (sym c.self.view_is) h.bytes)

pub returns-in_err-name : goal.returns-in_err-name
returns-in_err-name g c =
    rw c.from_residual.ensures (λ r h. c.in_err-name.ensures r.name (subst (λ t. SpellsName t r.name) (sym c.as_str.ensures.value) (subst (λ (l : VolumeColumns). SpellsName l.name r.name) (sym c.self.view_is) h.name)))

pub returns-in_err-array : goal.returns-in_err-array
returns-in_err-array g c =
    rw c.from_residual-in_err-array.ensures (λ r h. c.in_err-array.ensures r.array (subst (λ t. SpellsName t r.array) (sym c.as_str-2.ensures.value) (subst (λ (l : VolumeColumns). SpellsName l.array r.array) (sym c.self.view_is) h.array)))

pub returns-in_err-tenant : goal.returns-in_err-tenant
returns-in_err-tenant g c =
    rw c.from_residual-in_err-tenant.ensures (λ r h. c.in_err-tenant.ensures r.tenant (subst (λ t. SpellsName t r.tenant) (sym c.as_str-3.ensures.value) (subst (λ (l : VolumeColumns). SpellsName l.tenant r.tenant) (sym c.self.view_is) h.tenant)))
