use Rattle.std.proofs.Common.{List, subst}
use Rattle.fab_reach_base.specs.Adding.{Adds}
use Rattle.fab_reach_base.specs.Reach.{Reaches}
use Rattle.fab_reach_base.specs.Views.{seen}
use Rattle.fab_reach_base.specs.declared.listing.TheConstants.{MOST_PATHS}
use Rattle.fab_reach_base.specs.declared.path.Path.{Path}
use Rattle.fab_store_world.specs.PathGathering.{Has, IsRowOfSome}
use Rattle.fab_store_world.proofs.PathRowSets.{gathered, not_more}
use Rattle.fab_store_world.proofs.paths.gather.Goals as goal

pub returns-clause-ok : goal.returns-clause-ok
returns-clause-ok g c =
    let w = seen c.args.view.now in
    gathered w c.in_ok-paths.paths.items c.new-rows.result c.add_path_rows.new.rows c.in_ok-paths.ensures.ok c.new-rows.ensures.empty
    (subst (λ (xs : List Path). Adds (IsRowOfSome w xs) (Has c.new-rows.result) (Has c.add_path_rows.new.rows)) c.as_slice.ensures.value c.in_ok-add_path_rows.ensures)

pub returns-clause-few : goal.returns-clause-few
returns-clause-few g c = not_more MOST_PATHS (Reaches (seen c.args.view.now)) c.in_ok-paths.paths.items c.in_ok-paths.ensures.ok c.in_ok-paths.ensures.few
