use Rattle.std.proofs.Common.{◌≡◌, ℕ, List, ◌++◌}
use Rattle.fab_reach_base.specs.Adding.{Adds}
use Rattle.fab_reach_base.specs.Orders.{Has}
use Rattle.fab_reach_base.specs.Reach.{PathOf}
use Rattle.fab_reach_base.proofs.Adding.{Before}
use Rattle.fab_reach_pairs.proofs.asking.add_from.Given as goal

abbrev pub invariant-loop-q : goal.invariant-loop-q
invariant-loop-q g l =
    (g.S.Sight.world l.sight ≡ g.S.Sight.world l.fn.sight) × (before : List ℕ) × (l.ports.keys ≡ before ++ l.q-iterator) × Adds (Before (PathOf (g.S.Sight.world l.fn.sight) l.p) before) (Has l.fn.paths) (Has l.paths)
