use Rattle.std.proofs.Common.{subst}
use Rattle.fab_reach_base.specs.Records.{Records}
use Rattle.fab_store_world.specs.PathGathering.{HasPathRows}
use Rattle.fab_store_world.proofs.PathRowSets.{are_rows}
use Rattle.fab_store_world.proofs.paths.are_path_rows.Goals as goal

pub returns-clause-ok : goal.returns-clause-ok
returns-clause-ok g c =
    let told =
    are_rows (record { inventory = c.args.inventory.now; config = c.args.config.now }) c.args.rows.now c.in_ok-given.given c.in_ok-wanted.wanted c.in_ok-given.ensures
    (subst (λ (w : Records). HasPathRows w c.in_ok-wanted.wanted) c.of.ensures c.in_ok-wanted.ensures.ok) in
    (λ t. told.0 (c.are_equal.ensures.0 t), λ a. c.are_equal.ensures.1 (told.1 a))
