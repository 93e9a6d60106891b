use Rattle.std.proofs.Common.{take, sym, ◌∙◌, ◌+◌, subst}
use Rattle.std.specs.BTreeSet.{BTreeSet}
use Rattle.fab_reach_base.specs.Adding.{Adds}
use Rattle.fab_reach_base.specs.Orders.{Has}
use Rattle.fab_reach_base.specs.declared.path.Path.{Path}
use Rattle.fab_reach_base.proofs.Adding.{Before, before_next, before_pass}
use Rattle.fab_reach.proofs.AskedPairs.{IfNew, is_new, is_known}
use Rattle.fab_reach_base.proofs.Gathering.{adds_path}
use Rattle.fab_reach.proofs.asked.add_new.Goals as goal
use Rattle.fab_reach.proofs.asked.add_new.Goals.{then-not-is_in+in_ok-insert, else-not-is_in}

pub loop-path-preserved : goal.loop-path-preserved
loop-path-preserved g c = elim c.if-not-is_in.branch [
  | then-not-is_in+in_ok-insert w ↦
      subst (λ (s : BTreeSet Path). Adds (Before (IfNew c.args.rows c.args.these.now) (take (c.loop-path.path-index + 1) c.args.these.now)) (Has c.args.paths.now) (Has s)) (sym w.paths-is)
      (before_next (IfNew c.args.rows c.args.these.now) c.args.these.now c.loop-path.path-index c.path-item.result (Has c.args.paths.now) (Has c.loop-path.paths) (Has w.insert.new.self) c.loop-path-test.true c.path-item.is c.loop-path.invariant
      (is_new c.args.rows c.args.these.now c.path-item.result (Has c.loop-path.paths) (Has w.insert.new.self) (sym c.is_in.ensures ∙ w.if-not-is_in.true) (adds_path c.loop-path.paths w.insert.new.self c.path-item.result w.in_ok-insert.ensures.updates.0)))
  | else-not-is_in w ↦
      subst (λ (s : BTreeSet Path). Adds (Before (IfNew c.args.rows c.args.these.now) (take (c.loop-path.path-index + 1) c.args.these.now)) (Has c.args.paths.now) (Has s)) (sym w.paths-is)
      (before_pass (IfNew c.args.rows c.args.these.now) c.args.these.now c.loop-path.path-index c.path-item.result (Has c.args.paths.now) (Has c.loop-path.paths) c.loop-path-test.true c.path-item.is c.loop-path.invariant
      (is_known c.args.rows c.args.these.now c.path-item.result (sym c.is_in.ensures ∙ w.if-not-is_in.false)))
]
