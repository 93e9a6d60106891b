use Rattle.std.proofs.Common.{◌∷◌, [], ◌++◌, Contains, Option, sym, ◌∙◌, subst, rules}
use Rattle.std.specs.Borrow.{Bor}
use Rattle.std.specs.BTreeSet.{BTreeSet}
use Rattle.fab_lemmas.proofs.Walks.{walked, walk_end}
use Rattle.fab_reach_base.specs.Adding.{Adds}
use Rattle.fab_reach.specs.Inner.Asking.{IsEarlier}
use Rattle.fab_reach_base.specs.Orders.{Has}
use Rattle.fab_reach_base.specs.declared.path.Path.{Path}
use Rattle.fab_reach_base.proofs.Adding.{Before, before_more, before_skip}
use Rattle.fab_reach.proofs.AskedPairs.{IfGone, is_gone, is_listed, all_gone}
use Rattle.fab_reach_base.proofs.Gathering.{adds_path}
use Rattle.fab_reach.proofs.asked.add_gone.Goals as goal

pub loop-path-preserved-in_ok-insert : goal.loop-path-preserved-in_ok-insert
loop-path-preserved-in_ok-insert g c =
    let i = c.loop-path.invariant in
    let absent : ¬ Contains c.args.these.now c.in-Some-path.path.now = search rules in (
      i.0 ++ c.in-Some-path.path.now ∷ [],
      walked c.into_iter-path-iterator.result i.0 c.loop-path.path-iterator c.next.new.self c.in-Some-path.path.now i.1 c.in-Some-path.ensures.steps,
      before_more (IfGone c.args.rows c.args.these.now) i.0 c.in-Some-path.path.now (Has c.args.paths.now) (Has c.loop-path.paths) (Has c.insert.new.self) i.2
          (is_gone c.args.rows c.args.these.now c.in-Some-path.path.now (Has c.loop-path.paths) (Has c.insert.new.self) absent (adds_path c.loop-path.paths c.insert.new.self c.in-Some-path.path.now c.in_ok-insert.ensures.updates.0)),
    )

pub loop-path-preserved : goal.loop-path-preserved
loop-path-preserved g c =
    let i = c.loop-path.invariant in
    let there : Contains c.args.these.now c.in-Some-path.path.now = search rules in (
      i.0 ++ c.in-Some-path.path.now ∷ [],
      walked c.into_iter-path-iterator.result i.0 c.loop-path.path-iterator c.next.new.self c.in-Some-path.path.now i.1 c.in-Some-path.ensures.steps,
      before_skip (IfGone c.args.rows c.args.these.now) i.0 c.in-Some-path.path.now (Has c.args.paths.now) (Has c.loop-path.paths) i.2 (is_listed c.args.rows c.args.these.now c.in-Some-path.path.now there),
    )

pub returns : goal.returns
returns g c =
    let i = c.loop-path.invariant in
    subst (λ (o : Option (Bor (BTreeSet Path))). Adds (IsEarlier o c.args.these.now) (Has c.args.paths.now) (Has c.loop-path.paths)) (sym c.in-Some.is)
    (all_gone c.in-Some.rows c.args.these.now i.0 (Has c.args.paths.now) (Has c.loop-path.paths)
    (walk_end c.into_iter-path-iterator.result i.0 c.loop-path.path-iterator i.1 c.in-None.ensures.steps.0 ∙ c.into_iter-path-iterator.ensures.into_iter_gives.0)
    (subst (λ (o : Option (Bor (BTreeSet Path))). Adds (Before (IfGone o c.args.these.now) i.0) (Has c.args.paths.now) (Has c.loop-path.paths)) c.in-Some.is i.2))
