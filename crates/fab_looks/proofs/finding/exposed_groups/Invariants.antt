use Rattle.std.proofs.Common.{◌≡◌, true, take, map}
use Rattle.fab_mapping_base.specs.Groups.{StorageGroupRows}
use Rattle.fab_reach_base.proofs.Adding.{Before}
use Rattle.fab_looks.specs.Inner.Offers.{AreJust}
use Rattle.fab_looks.proofs.Gains.{now, Kept}
use Rattle.fab_looks.proofs.finding.exposed_groups.Given as goal

abbrev pub invariant-loop-group : goal.invariant-loop-group
invariant-loop-group g l = AreJust (Before (Kept (λ (x : StorageGroupRows). x.exposed ≡ true)) (take l.group-index (map now l.groups))) (map now l.exposed.items)
