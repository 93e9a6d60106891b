use Rattle.std.proofs.Common.{List, ◌∙◌, subst, arith}
use Rattle.fab_reach_base.specs.Adding.{Adds}
use Rattle.fab_reach.specs.Inner.Asking.{IsLater, IsEarlier}
use Rattle.fab_reach_base.specs.Records.{Records}
use Rattle.fab_reach_base.specs.Reach.{PathOf}
use Rattle.fab_reach_base.specs.Orders.{Has, IsListOf}
use Rattle.fab_reach_base.specs.declared.path.Path.{Path}
use Rattle.fab_reach_base.proofs.Adding.{before_none, before_next, before_last}
use Rattle.fab_reach.proofs.AskedPairs.{Gains, Loses, pair_gains, pair_loses, delta_is}
use Rattle.fab_reach.proofs.asked.delta_by.Goals as goal

pub loop-p-init : goal.loop-p-init
loop-p-init g c = record {
  world = λ i. g.S.Sight.world c.args.sight.now;
  most = omega arith;
  least = λ h. omega arith;
  gains = (c.new-gained.result, c.new-gained.ensures.empty, before_none (Gains (g.S.Sight.world c.args.sight.now) c.args.rows.now) (Has c.new-gained.result));
  loses = (c.new-lost.result, c.new-lost.ensures.empty, before_none (Loses (g.S.Sight.world c.args.sight.now) c.args.rows.now) (Has c.new-lost.result));
}

pub loop-p-preserved : goal.loop-p-preserved
loop-p-preserved g c =
    let v : Records = g.S.Sight.world c.args.sight.now in
    let i = c.loop-p.invariant in
    let x = c.loop-p-item.result in
    let l : IsListOf (PathOf (g.S.Sight.world c.args.sight.now) c.loop-p-item.result.0 c.loop-p-item.result.1) c.in_ok-now.now.items =
    subst (λ (w : Records). IsListOf (PathOf w c.loop-p-item.result.0 c.loop-p-item.result.1) c.in_ok-now.now.items) i.world c.in_ok-now.ensures.paths in record {
      world = c.ask.ensures.same ∙ i.world;
      most = let h = c.ask.ensures.counted in let m = i.most in omega arith;
      least = λ k. let h = c.ask.ensures.counted in let m = i.least in omega arith;
      gains = (
        i.gains.0,
        i.gains.1,
        before_next (Gains (g.S.Sight.world c.args.sight.now) c.args.rows.now) c.args.pairs.now c.loop-p.p-index c.loop-p-item.result (Has i.gains.0) (Has c.loop-p.gained) (Has c.add_new.new.paths) c.loop-p-test.true c.loop-p-item.is i.gains.2
            (pair_gains (g.S.Sight.world c.args.sight.now) c.args.rows.now c.loop-p-item.result c.get-before.result c.in_ok-now.now.items (Has c.loop-p.gained) (Has c.add_new.new.paths) c.get-before.ensures.value l
            (subst (λ (ys : List Path). Adds (IsLater ys c.get-before.result) (Has c.loop-p.gained) (Has c.add_new.new.paths)) c.as_slice.ensures.value c.in_ok-add_new.ensures)),
      );
      loses = (
        i.loses.0,
        i.loses.1,
        before_next (Loses (g.S.Sight.world c.args.sight.now) c.args.rows.now) c.args.pairs.now c.loop-p.p-index c.loop-p-item.result (Has i.loses.0) (Has c.loop-p.lost) (Has c.add_gone.new.paths) c.loop-p-test.true c.loop-p-item.is i.loses.2
            (pair_loses (g.S.Sight.world c.args.sight.now) c.args.rows.now c.loop-p-item.result c.get-before.result c.in_ok-now.now.items (Has c.loop-p.lost) (Has c.add_gone.new.paths) c.get-before.ensures.value l
            (subst (λ (ys : List Path). Adds (IsEarlier c.get-before.result ys) (Has c.loop-p.lost) (Has c.add_gone.new.paths)) c.as_slice-in-loop-p.ensures.value c.in_ok-add_gone.ensures)),
      );
    }

pub returns-clause-delta : goal.returns-clause-delta
returns-clause-delta g c w are changed =
    let i = c.loop-p.invariant in
    delta_is (g.S.Sight.world c.args.sight.now) c.args.rows.now w are c.args.pairs.now changed i.gains.0 i.loses.0 c.loop-p.gained c.loop-p.lost c.in_ok-gained.gained.items c.in_ok-lost.lost.items i.gains.1 i.loses.1
    (before_last (Gains (g.S.Sight.world c.args.sight.now) c.args.rows.now) c.args.pairs.now c.loop-p.p-index (Has i.gains.0) (Has c.loop-p.gained) c.loop-p-test.false i.gains.2)
    (before_last (Loses (g.S.Sight.world c.args.sight.now) c.args.rows.now) c.args.pairs.now c.loop-p.p-index (Has i.loses.0) (Has c.loop-p.lost) c.loop-p-test.false i.loses.2)
    c.len.ensures.ordered c.len-2.ensures.ordered c.in_ok-gained.ensures c.in_ok-lost.ensures
