use Rattle.std.proofs.Common.{subst, IsTrue, List}
use Rattle.std.specs.BTreeSet.{contains}
use Rattle.fab_names.specs.Orders.{name_cmp}
use Rattle.fab_reach_moves.proofs.Kept.{all_kept}
use Rattle.fab_reach_books.specs.declared.row.Row.{Row}
use Rattle.fab_reach_moves.specs.Inner.Naming.{IsTouchedByAny}
use Rattle.fab_reach_base.specs.Adding.{Adds}
use Rattle.fab_reach_moves.proofs.groups.told_groups.Goals as goal

pub returns : goal.returns
returns g c w v are d = all_kept w v c.args.index.now are c.args.diff.now.gone.items c.args.diff.now.come.items d c.new-names.result c.add_touched.new.names c.add_touched-2.new.names c.new-names.ensures.empty
    (subst (λ (xs : List Row). Adds (IsTouchedByAny c.args.index.now.serving xs) (λ n. IsTrue (contains name_cmp c.new-names.result n)) (λ n. IsTrue (contains name_cmp c.add_touched.new.names n))) c.as_slice.ensures.value c.in_ok-add_touched.ensures)
    (subst (λ (xs : List Row). Adds (IsTouchedByAny c.args.index.now.serving xs) (λ n. IsTrue (contains name_cmp c.add_touched.new.names n)) (λ n. IsTrue (contains name_cmp c.add_touched-2.new.names n))) c.as_slice-2.ensures.value c.in_ok-add_touched-2.ensures)
