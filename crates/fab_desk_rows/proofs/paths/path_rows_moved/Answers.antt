use Rattle.std.proofs.Common.{List, subst}
use Rattle.fab_reach_base.specs.fab_lemmas.Lists.{IsListOf}
use Rattle.fab_reach_base.specs.Views.{seen}
use Rattle.fab_reach_base.specs.declared.path.Path.{Path}
use Rattle.fab_store_world.specs.PathGathering.{IsRowOfSome}
use Rattle.fab_store_world.specs.Paths.{path_row_order}
use Rattle.fab_desk_rows.proofs.PathsTold.{lost_rows, gained_rows}
use Rattle.fab_desk_rows.proofs.paths.path_rows_moved.Goals as goal

pub returns : goal.returns
returns g c =
    let w = seen c.args.before.now in
    let v = seen c.args.after.now in
    let gained = c.args.delta.now.gained.items in
    let lost = c.args.delta.now.lost.items in record {
      takes = lost_rows w v gained lost c.in_ok-taken.taken.items c.requires.keeps c.requires.delta
          (subst (λ (xs : List Path). IsListOf path_row_order (IsRowOfSome w xs) c.in_ok-taken.taken.items) c.as_slice.ensures.value c.in_ok-taken.ensures);
      adds = gained_rows w v gained lost c.in_ok-added.added.items c.requires.keeps c.requires.delta
          (subst (λ (xs : List Path). IsListOf path_row_order (IsRowOfSome v xs) c.in_ok-added.added.items) c.as_slice-2.ensures.value c.in_ok-added.ensures);
    }
