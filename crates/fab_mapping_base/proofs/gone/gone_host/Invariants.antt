use Rattle.std.proofs.Common.{◌≡◌, ℕ, List, ◌++◌}
use Rattle.std.specs.FinSet as set
use Rattle.fab_inventory.specs.Inventories.{IsHost}
use Rattle.fab_inventory.specs.fab_lemmas.Firsts.{IsFirstOf}
use Rattle.fab_inventory.proofs.fab_lemmas.Adding.{Before}
use Rattle.fab_inventory.specs.fab_names.Orders.{name_cmp}
use Rattle.fab_mapping_base.proofs.Lacking.{Lacking}
use Rattle.fab_mapping_base.proofs.gone.gone_host.Given as goal

abbrev pub invariant-loop-host : goal.invariant-loop-host
invariant-loop-host g l =
    (listed : List (List ℕ)) × (set.from_list listed ≡ l.group.hosts) × (before : List (List ℕ)) × (listed ≡ before ++ l.host-iterator) × IsFirstOf name_cmp (Before (Lacking (IsHost l.inventory.holders)) before) l.least
