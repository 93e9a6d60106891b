use Rattle.std.proofs.Common.{List}
use Rattle.fab_reach_base.specs.Orders.{path_cmp}
use Rattle.fab_reach_books.specs.Pairs.{pair_cmp}
use Rattle.fab_reach_index.specs.Indexes.{IsRowOf}
use Rattle.fab_reach_pairs.specs.Inner.Rows.{IsRowIn}
use Rattle.fab_reach_pairs.proofs.Leading.{leads_by}
use Rattle.std.proofs.Common.{subst}
use Rattle.fab_reach_base.specs.declared.path.Path.{Path}
use Rattle.fab_reach_index.specs.Indexes.{IsTreeOf}
use Rattle.fab_reach_pairs.proofs.Going.{rows_go}
use Rattle.fab_reach_pairs.proofs.patching.row_patch.Goals as goal

pub returns : goal.returns
returns g c w v are d =
    let lost = c.args.delta.now.lost.items in
    let gained = c.args.delta.now.gained.items in
    leads_by pair_cmp path_cmp (IsRowOf w) (IsRowIn lost) (IsRowIn gained) (IsRowOf v) c.args.index.now.rows c.in_ok-gone.gone c.in_ok-come.come c.in_ok-rows.rows are.rows
    (subst (λ (xs : List Path). IsTreeOf pair_cmp path_cmp (IsRowIn xs) c.in_ok-gone.gone) c.as_slice.ensures.value c.in_ok-gone.ensures)
    (subst (λ (xs : List Path). IsTreeOf pair_cmp path_cmp (IsRowIn xs) c.in_ok-come.come) c.as_slice-2.ensures.value c.in_ok-come.ensures)
    (rows_go w v gained lost d) c.in_ok-rows.ensures
