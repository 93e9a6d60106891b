use Rattle.std.proofs.Common.{sym, subst}
use Rattle.fab_names.specs.Names.{SpellsName}
use Rattle.fab_names.specs.WorldWideNames.{SpellsPlain}
use Rattle.fab_store_columns_base.specs.Columns.{ShowsAt, ShowsOption}
use Rattle.fab_store_columns.specs.InventoryLines.{PortColumns}
use Rattle.fab_store_columns.proofs.inventory_lines.PortLine.read.Goals as goal

pub returns-in_default : goal.returns-in_default
returns-in_default g c p h = c.in_default.ensures p.at (subst (λ (l : PortColumns). ShowsAt l.fabric l.domain l.slot p.at) (sym c.self.view_is) h.at)

pub returns-in_default-read_name_or_null : goal.returns-in_default-read_name_or_null
returns-in_default-read_name_or_null g c p h = c.in_default-read_name_or_null.ensures p.holder (subst (λ (l : PortColumns). ShowsOption SpellsName l.holder p.holder) (sym c.self.view_is) h.holder)

pub returns-in_err-name : goal.returns-in_err-name
returns-in_err-name g c =
    rw c.from_residual.ensures (λ r h. c.in_err-name.ensures r.name (subst (λ t. SpellsPlain t r.name) (sym c.as_str.ensures.value) (subst (λ (l : PortColumns). SpellsPlain l.wwpn r.name) (sym c.self.view_is) h.name)))

pub returns-in_err-node : goal.returns-in_err-node
returns-in_err-node g c =
    rw c.from_residual-in_err-node.ensures (λ r h. c.in_err-node.ensures r.node (subst (λ t. SpellsPlain t r.node) (sym c.as_str-2.ensures.value) (subst (λ (l : PortColumns). SpellsPlain l.wwnn r.node) (sym c.self.view_is) h.node)))
