use Rattle.std.proofs.Common.{List, subst}
use Rattle.fab_reach_books.specs.declared.row.Row.{Row}
use Rattle.fab_reach_moves.specs.Inner.Telling.{IsSideOf}
use Rattle.fab_reach_moves.proofs.told.Told.of.Goals as goal

pub returns : goal.returns
returns g c w v d = record {
  gone = c.args.diff.now.gone.items;
  come = c.args.diff.now.come.items;
  diff = d;
  left = subst (λ (xs : List Row). IsSideOf xs c.in_ok-gone.gone) c.as_slice.ensures.value c.in_ok-gone.ensures;
  new = subst (λ (xs : List Row). IsSideOf xs c.in_ok-come.come) c.as_slice-2.ensures.value c.in_ok-come.ensures;
}
