use Rattle.std.proofs.Common.{take, map}
use Rattle.fab_reach_base.proofs.Adding.{Before}
use Rattle.fab_reach_base.specs.Gathering.{Serves}
use Rattle.fab_looks.specs.Inner.Offers.{AreJust}
use Rattle.fab_looks.proofs.Gains.{now, Kept}
use Rattle.fab_looks.proofs.finding.serving_groups.Given as goal

abbrev pub invariant-loop-group : goal.invariant-loop-group
invariant-loop-group g l = AreJust (Before (Kept (λ x. Serves l.mapping x l.host)) (take l.group-index (map now l.groups))) (map now l.served.items)
