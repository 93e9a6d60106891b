use Rattle.std.proofs.Common.{◌≡◌, ◌∷◌, [], ◌++◌, ◌∙◌}
use Rattle.fab_lemmas.proofs.Walks.{walked, walk_end}
use Rattle.fab_zoning.specs.Edits.{IsIn}
use Rattle.fab_reach_base.proofs.Adding.{before_more}
use Rattle.fab_reach_books.specs.Pairs.{Pair, pair_cmp}
use Rattle.fab_reach_base.specs.Orders.{path_cmp}
use Rattle.fab_reach_base.specs.declared.path.Path.{Path}
use Rattle.fab_reach_index.proofs.Placed.{paths_placed}
use Rattle.fab_reach_index.proofs.indexing.add_paths.Goals as goal

pub loop-path-preserved : goal.loop-path-preserved
loop-path-preserved g c =
    let i = c.loop-path.invariant in (
      i.0 ++ c.in-Some.path.now ∷ [],
      walked c.into_iter-path-iterator.result i.0 c.loop-path.path-iterator c.next.new.self c.in-Some.path.now i.1 c.in-Some.ensures.steps,
      before_more (λ (x : Path) (e : Pair × Path). e ≡ ((x.initiator, x.target), x)) i.0 c.in-Some.path.now (IsIn pair_cmp path_cmp c.args.rows.now) (IsIn pair_cmp path_cmp c.loop-path.rows) (IsIn pair_cmp path_cmp c.add_at.new.sets) i.2
          (c.in_ok-add_at.ensures),
    )

pub returns : goal.returns
returns g c =
    let i = c.loop-path.invariant in
    paths_placed c.args.paths.now i.0 (IsIn pair_cmp path_cmp c.args.rows.now) (IsIn pair_cmp path_cmp c.loop-path.rows)
    (walk_end c.into_iter-path-iterator.result i.0 c.loop-path.path-iterator i.1 c.in-None.ensures.steps.0 ∙ c.into_iter-path-iterator.ensures.into_iter_gives.0) i.2
