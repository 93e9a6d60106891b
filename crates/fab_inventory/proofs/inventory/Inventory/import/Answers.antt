use Rattle.std.proofs.Common.{subst, rules, IfErr}
use Rattle.std.specs.Ordering.{nat_cmp}
use Rattle.std.specs.FinMap as map
use Rattle.fab_inventory.specs.Imports.{ImportFails}
use Rattle.fab_inventory.specs.Inventories.{InventoryRows}
use Rattle.fab_inventory.proofs.Changes.{seen}
use Rattle.fab_inventory.proofs.Soundness.{sound_import}
use Rattle.fab_inventory.proofs.inventory.Inventory.import.Goals as goal

pub returns-in_err-self-inside-clause-err : goal.returns-in_err-self-inside-clause-err
returns-in_err-self-inside-clause-err g c = subst (λ (v : InventoryRows). IfErr c.from_residual.result (ImportFails c.args.fabric c.args.rows.now v.ports)) c.self.view_is (search rules)

pub invariant_of-self : goal.invariant_of-self
invariant_of-self g c =
    let old = seen c.self.inside.ports c.self.inside.holders c.self.inside.volumes in
    let ports = map.from_entries {R = nat_cmp} c.in_ok-self-inside.field-0.entries in
    sound_import c.args.fabric c.args.rows.now old ports c.self.invariant c.in_ok-self-inside.ensures.ok c.in_ok-self-inside.ensures.few

pub returns-clause-sound : goal.returns-clause-sound
returns-clause-sound g c = invariant_of-self g c
