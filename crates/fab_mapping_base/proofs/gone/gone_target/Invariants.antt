use Rattle.std.proofs.Common.{◌≡◌, ℕ, List, ◌++◌}
use Rattle.std.specs.FinSet as set
use Rattle.std.specs.Ordering.{nat_cmp}
use Rattle.fab_inventory.specs.fab_lemmas.Firsts.{IsFirstOf}
use Rattle.fab_inventory.proofs.fab_lemmas.Adding.{Before}
use Rattle.fab_mapping_base.specs.Fitting.{IsPortOf}
use Rattle.fab_mapping_base.proofs.Lacking.{Lacking}
use Rattle.fab_mapping_base.proofs.gone.gone_target.Given as goal

abbrev pub invariant-loop-port : goal.invariant-loop-port
invariant-loop-port g l =
    (listed : List ℕ) × (set.from_list listed ≡ l.group.targets) × (before : List ℕ) × (listed ≡ before ++ l.port-iterator) × (l.array ≡ l.group.array) × IsFirstOf nat_cmp (Before (Lacking (IsPortOf l.inventory l.group.array)) before) l.least
