use Rattle.std.proofs.Common.{◌≡◌, ℕ, List, ◌++◌}
use Rattle.fab_lemmas.proofs.Filters.{keys_where}
use Rattle.fab_inventory.specs.declared.port.Known.{Known}
use Rattle.fab_inventory.specs.Holders.{is_leaving}
use Rattle.fab_inventory.proofs.holding.leaving.Given as goal

abbrev pub invariant-loop-port : goal.invariant-loop-port
invariant-loop-port g l = (before : List (ℕ × Known)) × (l.ports.entries ≡ before ++ l.port-iterator) × (l.found.items ≡ keys_where (is_leaving l.name l.listed) before)
