use Rattle.std.proofs.Common.{subst, sym}
use Rattle.std.specs.FinMap as map
use Rattle.fab_inventory.specs.Inventories.{IsSound}
use Rattle.fab_inventory.proofs.Soundness.{sound_none}
use Rattle.fab_inventory.proofs.inventory.Inventory.new.Goals as goal

pub invariant_of-result : goal.invariant_of-result
invariant_of-result g c =
    subst IsSound (λ i. record { ports = map.from_entries (sym c.new.ensures.empty i); holders = map.from_entries (sym c.new-2.ensures.empty i); volumes = map.from_entries (sym c.new-3.ensures.empty i) }) sound_none
