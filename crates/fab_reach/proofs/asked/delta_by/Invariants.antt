use Rattle.std.proofs.Common.{◌≡◌, take, [], ◌+◌, ◌<◌, ◌≤◌}
use Rattle.std.specs.BTreeSet.{BTreeSet}
use Rattle.fab_reach_base.specs.Adding.{Adds}
use Rattle.fab_reach_base.specs.Orders.{Has}
use Rattle.fab_reach_base.specs.declared.path.Path.{Path}
use Rattle.fab_reach_base.proofs.Adding.{Before}
use Rattle.fab_reach.proofs.AskedPairs.{Gains, Loses}
use Rattle.fab_reach.proofs.asked.delta_by.Given as goal

abbrev pub invariant-loop-p : goal.invariant-loop-p
invariant-loop-p g l = record {
  world : g.S.Sight.world l.sight ≡ g.S.Sight.world l.fn.sight;
  most : g.S.Sight.count l.sight ≤ g.S.Sight.count l.fn.sight + l.p-index;
  least : g.S.Sight.count l.sight < 18446744073709551615 → g.S.Sight.count l.fn.sight + l.p-index ≤ g.S.Sight.count l.sight;
  gains : (first : BTreeSet Path) × (first.keys ≡ []) × Adds (Before (Gains (g.S.Sight.world l.fn.sight) l.rows) (take l.p-index l.pairs)) (Has first) (Has l.gained);
  loses : (first : BTreeSet Path) × (first.keys ≡ []) × Adds (Before (Loses (g.S.Sight.world l.fn.sight) l.rows) (take l.p-index l.pairs)) (Has first) (Has l.lost);
}
