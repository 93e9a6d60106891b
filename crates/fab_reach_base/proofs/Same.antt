-- Two answers that are one.
use Rattle.std.proofs.Common.{◌≡◌, Option, Some, sym, ap, ◌∙◌}
use Rattle.fab_mapping.specs.fab_mapping_base.fab_names.Places.{Position}
use Rattle.fab_mapping.specs.fab_mapping_base.fab_names.declared.fabric.Fabric.{Fabric}
use Rattle.fab_mapping.specs.fab_mapping_base.fab_inventory.declared.port.Port.{Port}
use Rattle.fab_zoning.specs.fab_zoning_rows.Holding.{IsLoggedInAt}

-- one option, one value
pub same_some : {X : Type 0} {a b : X} {o : Option X} → o ≡ Some a → o ≡ Some b → a ≡ b
same_some {a} {b} h k = let e : Some a ≡ Some b = sym h ∙ k in cc

-- one place, one fabric
pub same_fabric : (p : Port) (f g : Fabric) → IsLoggedInAt f p → IsLoggedInAt g p → f ≡ g
same_fabric p f g h k = let e : (f, h.0) ≡ (g, k.0) = same_some h.1 k.1 in ap (λ (x : Fabric × Position). x.0) e
