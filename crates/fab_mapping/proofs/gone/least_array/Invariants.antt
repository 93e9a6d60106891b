use Rattle.std.proofs.Common.{◌≡◌, ℕ, List, ◌++◌}
use Rattle.fab_mapping_base.specs.fab_lemmas.Firsts.{IsFirstOf}
use Rattle.fab_mapping_base.proofs.fab_lemmas.Adding.{Before}
use Rattle.fab_mapping_base.specs.fab_names.Orders.{name_cmp}
use Rattle.fab_mapping_base.specs.Groups.{StorageGroupRows}
use Rattle.fab_mapping_base.specs.Fitting.{LacksArray}
use Rattle.fab_mapping.proofs.gone.least_array.Given as goal

abbrev pub invariant-loop-name : goal.invariant-loop-name
invariant-loop-name g l = (before : List (List ℕ × StorageGroupRows)) × (l.groups.entries ≡ before ++ l._name-iterator) × IsFirstOf name_cmp (Before (λ (e : List ℕ × StorageGroupRows). LacksArray l.inventory e.1) before) l.least
