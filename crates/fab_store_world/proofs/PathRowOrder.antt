-- The order of rows of paths is total, tells them apart, and is the one that is stated.
use Rattle.std.proofs.Common.{◌≡◌, refl}
use Rattle.std.specs.declared.cmp.Ordering.{Ordering}
use Rattle.std.specs.Cmp.{IsTotalOrder}
use Rattle.std.specs.FinSet as set
use Rattle.fab_reach_base.specs.fab_names.Orders.{name_cmp}
use Rattle.fab_reach_base.proofs.fab_names.OrderLaws.{both_equal, name_exact}
use Rattle.fab_reach_base.specs.Orders.{path_cmp}
use Rattle.fab_reach_base.specs.PathOrder.{path_exact}
use Rattle.fab_world.specs.fab_store_rows.declared.record_row.PathRow.{PathRow}
use Rattle.fab_world.specs.fab_store_rows.contracts.record_row.PathRowOrd.TheImpl.Laws.{total-law}
use Rattle.fab_store_world.specs.Paths.{path_row_cmp, path_row_order}

pub row_total : IsTotalOrder path_row_cmp
row_total = total-law

pub row_exact : set.IsAntisymmetric path_row_cmp
row_exact a b e =
    let both = both_equal (name_cmp a.host b.host) (path_cmp a.path b.path) e in
    λ i. record { host = name_exact a.host b.host both.0 i; path = path_exact a.path b.path both.1 i }

pub in_order : (a b : PathRow) → path_row_cmp a b ≡ path_row_order a b
in_order a b = refl

-- the two are one function
pub same_order : ◌≡◌ {A = PathRow → PathRow → Ordering} path_row_cmp path_row_order
same_order = λ i a b. in_order a b i
