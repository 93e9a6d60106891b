use Rattle.std.proofs.Common.{◌≡◌, ℕ, List, ◌++◌, map}
use Rattle.fab_reach_base.proofs.Adding.{Before}
use Rattle.fab_looks.specs.Inner.Offers.{AreJust}
use Rattle.fab_looks.proofs.Gains.{now}
use Rattle.fab_looks.proofs.Services.{AtName}
use Rattle.fab_looks.proofs.serving.named_groups.Given as goal

abbrev pub invariant-loop-name : goal.invariant-loop-name
invariant-loop-name g l = (before : List (List ℕ)) × (l.names.keys ≡ before ++ l.name-iterator) × AreJust (Before (AtName l.mapping) before) (map now l.groups.items)
