use Rattle.std.proofs.Common.{◌≡◌, ℕ, List, ◌++◌}
use Rattle.fab_mapping_base.specs.fab_lemmas.Firsts.{IsFirstOf}
use Rattle.fab_mapping_base.proofs.fab_lemmas.Adding.{Before}
use Rattle.fab_mapping_base.specs.fab_names.Orders.{name_cmp}
use Rattle.fab_mapping_base.specs.Groups.{HostGroupRows}
use Rattle.fab_mapping_base.specs.Fitting.{LacksHost}
use Rattle.fab_mapping.proofs.gone.least_host.Given as goal

abbrev pub invariant-loop-name : goal.invariant-loop-name
invariant-loop-name g l = (before : List (List ℕ × HostGroupRows)) × (l.host_groups.entries ≡ before ++ l._name-iterator) × IsFirstOf name_cmp (Before (λ (e : List ℕ × HostGroupRows). LacksHost l.inventory e.1) before) l.least
