use Rattle.std.proofs.Common.{◌≡◌, ◌∷◌, [], ◌++◌, sym}
use Rattle.fab_lemmas.proofs.Walks.{walked, walk_end}
use Rattle.fab_reach_base.specs.Orders.{Has}
use Rattle.fab_reach_base.specs.declared.path.Path.{Path}
use Rattle.fab_reach_base.proofs.Adding.{before_none, before_more}
use Rattle.fab_reach_base.proofs.Gathering.{adds_path}
use Rattle.fab_reach.proofs.OwnRows.{all_paths}
use Rattle.fab_reach.proofs.own_rows.add_paths.Goals as goal

pub loop-path-init : goal.loop-path-init
loop-path-init g c = ([], sym c.into_iter-path-iterator.ensures.into_iter_gives.0, before_none (λ (k x : Path). x ≡ k) (Has c.args.own.now))

pub loop-path-preserved : goal.loop-path-preserved
loop-path-preserved g c =
    let i = c.loop-path.invariant in (
      i.0 ++ c.in-Some.path.now ∷ [],
      walked c.args.paths.now.keys i.0 c.loop-path.path-iterator c.next.new.self c.in-Some.path.now i.1 c.in-Some.ensures.steps,
      before_more (λ (k x : Path). x ≡ k) i.0 c.in-Some.path.now (Has c.args.own.now) (Has c.loop-path.own) (Has c.insert.new.self) i.2 (adds_path c.loop-path.own c.insert.new.self c.in-Some.path.now c.in_ok-insert.ensures.updates.0),
    )

pub returns : goal.returns
returns g c =
    let i = c.loop-path.invariant in
    all_paths c.args.paths.now i.0 (Has c.args.own.now) (Has c.loop-path.own)
    (walk_end c.args.paths.now.keys i.0 c.loop-path.path-iterator i.1 c.in-None.ensures.steps.0) i.2
