use Rattle.std.proofs.Common.{◌≡◌, ℕ, List, ◌++◌}
use Rattle.fab_reach_base.specs.Adding.{Adds}
use Rattle.fab_reach_base.specs.Orders.{Has}
use Rattle.fab_reach_base.proofs.Adding.{Before}
use Rattle.fab_reach_pairs.specs.Owning.{IsToAny}
use Rattle.fab_reach_pairs.proofs.asking.add_all.Given as goal

abbrev pub invariant-loop-p : goal.invariant-loop-p
invariant-loop-p g l =
    (g.S.Sight.world l.sight ≡ g.S.Sight.world l.fn.sight) × (before : List ℕ) × (l.ports.keys ≡ before ++ l.p-iterator) × Adds (Before (IsToAny (g.S.Sight.world l.fn.sight) l.ports) before) (Has l.fn.paths) (Has l.paths)
