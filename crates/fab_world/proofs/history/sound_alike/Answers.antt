use Rattle.std.proofs.Common.{sym, subst}
use Rattle.fab_reach_base.specs.fab_lemmas.Lists.{IsListOf}
use Rattle.fab_store_load.specs.fab_store_rows.RowOrder.{row_order}
use Rattle.fab_store_load.specs.fab_store_rows.Standing.{Stands}
use Rattle.fab_world.proofs.WaysBack.{found_as, same_as_listed, listed_as_same}
use Rattle.fab_world.proofs.history.sound_alike.Goals as goal

pub returns : goal.returns
returns g c =
    let listed = subst (IsListOf row_order (Stands c.args.config.now)) (sym c.as_slice.ensures.value) c.in_ok-rows.ensures in
    found_as c.restored.result
    (λ none d same. none d (listed_as_same c.args.config.now d c.as_slice.result.now listed same))
    (λ d found. (same_as_listed c.args.config.now d c.as_slice.result.now listed found.0, found.1)) c.restored.ensures
