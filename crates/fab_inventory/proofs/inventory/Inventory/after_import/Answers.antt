use Rattle.std.proofs.Common.{ap, ◌∙◌, sym, subst, rules, IfErr}
use Rattle.std.specs.FinMap as map
use Rattle.std.specs.Ordering.{nat_cmp}
use Rattle.std.proofs.lemmas.Map.Entries.{entries_from_clone}
use Rattle.fab_inventory.specs.Imports.{ImportFails}
use Rattle.fab_inventory.specs.Inventories.{InventoryRows, IsSound}
use Rattle.fab_inventory.proofs.Changes.{seen}
use Rattle.fab_inventory.proofs.Soundness.{sound_import}
use Rattle.fab_inventory.proofs.inventory.Inventory.after_import.Goals as goal

pub returns-in_err-imported_ports-clause-err : goal.returns-in_err-imported_ports-clause-err
returns-in_err-imported_ports-clause-err g c = subst (λ (v : InventoryRows). IfErr c.from_residual.result (ImportFails c.args.fabric c.args.rows.now v.ports)) c.self.view_is (search rules)

pub invariant_of-result : goal.invariant_of-result
invariant_of-result g c =
    let old = seen c.self.inside.ports c.self.inside.holders c.self.inside.volumes in
    let ports = map.from_entries {R = nat_cmp} c.in_ok-imported_ports.field-0.entries in
    let holders = entries_from_clone _ _ (λ x y h. h) (λ x y h. h) _ _ c.in_ok-clone.ensures.cases in
    let volumes = entries_from_clone _ _ (λ x y h. h) (λ x y h. h) _ _ c.in_ok-clone-2.ensures.cases in
    subst (λ hs. IsSound (record old { ports = ports; holders = map.from_entries hs; volumes = map.from_entries c.in_ok-clone-2.field-0.entries })) (sym holders) (
    subst (λ vs. IsSound (record old { ports = ports; volumes = map.from_entries vs })) (sym volumes)
    (sound_import c.args.fabric c.args.rows.now old ports c.self.invariant c.in_ok-imported_ports.ensures.ok c.in_ok-imported_ports.ensures.few)
    )

pub returns-clause-rest : goal.returns-clause-rest
returns-clause-rest g c =
    let ports = map.from_entries {R = nat_cmp} c.in_ok-imported_ports.field-0.entries in
    let old = seen c.self.inside.ports c.self.inside.holders c.self.inside.volumes in
    let holders = entries_from_clone _ _ (λ x y h. h) (λ x y h. h) _ _ c.in_ok-clone.ensures.cases in
    let volumes = entries_from_clone _ _ (λ x y h. h) (λ x y h. h) _ _ c.in_ok-clone-2.ensures.cases in
    ap (λ hs. record old { ports = ports; holders = map.from_entries hs; volumes = map.from_entries c.in_ok-clone-2.field-0.entries }) holders
    ∙ ap (λ vs. record old { ports = ports; volumes = map.from_entries vs }) volumes
    ∙ ap (λ (v : InventoryRows). record v { ports = ports }) c.self.view_is

pub returns-clause-sound : goal.returns-clause-sound
returns-clause-sound g c = invariant_of-result g c
