use Rattle.std.proofs.Common.{sym, subst}
use Rattle.fab_names.specs.Addresses.{SpellsPrintedAddress}
use Rattle.fab_names.specs.WorldWideNames.{SpellsPlain}
use Rattle.fab_store_columns.specs.InventoryLines.{AddressColumns}
use Rattle.fab_store_columns.proofs.inventory_lines.AddressLine.read.Goals as goal

pub returns-in_default : goal.returns-in_default
returns-in_default g c r h = c.in_default.ensures r.port (subst (λ t. SpellsPlain t r.port) (sym c.as_str.ensures.value) (subst (λ (l : AddressColumns). SpellsPlain l.wwpn r.port) (sym c.self.view_is) h.port))

pub returns-in_default-read_address : goal.returns-in_default-read_address
returns-in_default-read_address g c r h = c.in_default-read_address.ensures r.address (subst (λ t. SpellsPrintedAddress t r.address) (sym c.as_str-2.ensures.value) (subst (λ (l : AddressColumns). SpellsPrintedAddress l.address r.address) (sym c.self.view_is) h.address))
