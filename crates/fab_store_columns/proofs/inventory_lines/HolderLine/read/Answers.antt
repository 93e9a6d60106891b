use Rattle.std.proofs.Common.{◌≡◌, sym, subst}
use Rattle.fab_names.specs.Names.{SpellsName}
use Rattle.fab_inventory.specs.Words.{kind_text}
use Rattle.fab_store_columns.specs.InventoryLines.{HolderColumns}
use Rattle.fab_store_columns.proofs.inventory_lines.HolderLine.read.Goals as goal

pub returns-in_err-name : goal.returns-in_err-name
returns-in_err-name g c =
    rw c.from_residual.ensures (λ r h. c.in_err-name.ensures r.name (subst (λ t. SpellsName t r.name) (sym c.as_str.ensures.value) (subst (λ (l : HolderColumns). SpellsName l.name r.name) (sym c.self.view_is) h.name)))

pub returns-in_err-kind : goal.returns-in_err-kind
returns-in_err-kind g c =
    rw c.from_residual-in_err-kind.ensures (λ r h. c.in_err-kind.ensures r.kind (subst (λ t. t ≡ kind_text r.kind) (sym c.as_str-2.ensures.value) (subst (λ (l : HolderColumns). l.kind ≡ kind_text r.kind) (sym c.self.view_is) h.kind)))

pub returns-in_err-tenant : goal.returns-in_err-tenant
returns-in_err-tenant g c =
    rw c.from_residual-in_err-tenant.ensures (λ r h. c.in_err-tenant.ensures r.tenant (subst (λ t. SpellsName t r.tenant) (sym c.as_str-3.ensures.value) (subst (λ (l : HolderColumns). SpellsName l.tenant r.tenant) (sym c.self.view_is) h.tenant)))
